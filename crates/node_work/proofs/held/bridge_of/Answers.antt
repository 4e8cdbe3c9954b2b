use Rattle.node_work.proofs.Bridging.{all_told, woken_with}
use Rattle.node_work.proofs.held.bridge_of.Goals as goal

pub of-requires : goal.of-requires
of-requires c = all_told c.args.links c.requires.0 c.requires.1

pub returns : goal.returns
returns c = λ lanes o. woken_with c.args.links lanes c.of.result o c.have_rows.ensures c.of.ensures
