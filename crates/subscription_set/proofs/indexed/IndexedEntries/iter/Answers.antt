use Rattle.std.proofs.Common.{sym, ap, ◌∙◌}
use Rattle.std.specs.FinMap as map
use Rattle.subscription_set.proofs.Indexing.{entries_table}
use Rattle.subscription_set.proofs.indexed.IndexedEntries.iter.Goals as goal

pub returns : goal.returns
returns c = c.iter.ensures.rest ∙ sym (entries_table c.self.inside.entries.entries c.iter.ensures.ordered) ∙ ap map.entries c.self.view_is
