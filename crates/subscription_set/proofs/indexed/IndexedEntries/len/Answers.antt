use Rattle.std.proofs.Common.{length, sym, ap, ◌∙◌}
use Rattle.std.specs.FinMap as map
use Rattle.subscription_set.proofs.Indexing.{entries_table}
use Rattle.subscription_set.proofs.indexed.IndexedEntries.len.Goals as goal

pub returns : goal.returns
returns c = c.len.ensures.len ∙ ap length (sym (entries_table c.self.inside.entries.entries c.len.ensures.ordered)) ∙ sym (map.len-entries (map.from_entries c.self.inside.entries.entries)) ∙ ap map.len c.self.view_is
