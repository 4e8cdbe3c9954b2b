use Rattle.broker_node.proofs.Changing.{changes_differ}
use Rattle.broker_node.proofs.laws.changes_differ.Goals as goal

pub returns : goal.returns
returns c = changes_differ
