use Rattle.std.proofs.Common.{refl, sym, ap, ◌∙◌}
use Rattle.std.specs.FinMap as map
use Rattle.subscription_set.specs.Holding.{held}
use Rattle.subscription_set.proofs.Merges.{no_entries}
use Rattle.subscription_set.proofs.entry_map.EntryMap.iter.Goals as goal

pub returns-in-Nothing : goal.returns-in-Nothing
returns-in-Nothing c = c.none.ensures ∙ sym (no_entries map.empty refl) ∙ ap map.entries (sym (ap held c.in-Nothing.is) ∙ c.self.view_is)
