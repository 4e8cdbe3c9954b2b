use Rattle.std.proofs.Common.{◌<◌, length, arith, subst}
use Rattle.std.specs.Prelude.{IfOk}
use Rattle.node_bridge.specs.View.{BridgeView, IsToShip}
use Rattle.node_bridge.proofs.Shipping.{is_to_ship, within}
use Rattle.node_bridge.proofs.Telling.{bridge_of}
use Rattle.node_bridge.proofs.bridge.Bridge.to_ship.Goals as goal

pub returns-clause-ships : goal.returns-clause-ships
returns-clause-ships c =
    let l = c.self.inside.links in
    let few : c.args.peer < length l.lanes = omega (arith, c.nodes.ensures.lanes, c.if-peer-nodes.false) in
    subst (λ (b : BridgeView). IfOk c.ship.result (IsToShip c.args.peer b c.args.store.now)) c.self.view_is
    (is_to_ship c.ship.result c.args.peer (bridge_of l) c.args.store.now (within l c.args.peer few) c.ship.ensures.none c.ship.ensures.some)
