use Rattle.std.proofs.Common.{◌∙◌, ap, sym, length}
use Rattle.std.specs.FinMap as map
use Rattle.replica_store.proofs.Trees.{entries_are}
use Rattle.replica_store.proofs.topics.Topics.len.Goals as goal

pub returns : goal.returns
returns c = c.len.ensures.len ∙ ap length (entries_are c.self.inside.entries.entries c.args.self.now c.self.invariant.0 c.self.view_is) ∙ sym (map.len-entries c.args.self.now)
