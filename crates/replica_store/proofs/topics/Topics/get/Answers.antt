use Rattle.std.proofs.Common.{◌∙◌, sym}
use Rattle.replica_store.proofs.Trees.{found_in}
use Rattle.replica_store.proofs.topics.Topics.get.Goals as goal

pub returns : goal.returns
returns c = c.get.ensures.value ∙ sym (found_in c.self.inside.entries.entries c.args.self.now c.args.topic.now c.self.invariant.0 c.self.view_is)
