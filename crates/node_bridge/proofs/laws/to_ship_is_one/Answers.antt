use Rattle.node_bridge.proofs.Shipping.{to_ship_one}
use Rattle.node_bridge.proofs.laws.to_ship_is_one.Goals as goal

pub returns : goal.returns
returns c = to_ship_one
