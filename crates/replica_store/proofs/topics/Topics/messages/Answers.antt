use Rattle.std.proofs.Common.{◌∙◌, ap, length}
use Rattle.replica_store.specs.Retained.{with_message}
use Rattle.replica_store.proofs.Trees.{entries_are}
use Rattle.replica_store.proofs.topics.Topics.messages.Goals as goal

pub returns : goal.returns
returns c = c.self.invariant.1 ∙ ap (λ es. length (with_message es)) (entries_are c.self.inside.entries.entries c.args.self.now c.self.invariant.0 c.self.view_is)
