use Rattle.replica_store.proofs.Trees.{entries_are}
use Rattle.replica_store.proofs.topics.Topics.by_topic.Goals as goal

pub returns : goal.returns
returns c = entries_are c.self.inside.entries.entries c.args.self.now c.self.invariant.0 c.self.view_is
