use Rattle.std.proofs.Common.{sym, ap, ◌∙◌}
use Rattle.std.specs.FinMap as map
use Rattle.causal_context.specs.Dots.{dot_cmp_total}
use Rattle.law_maps.proofs.Tables.{get_table}
use Rattle.subscription_set.proofs.indexed.IndexedEntries.get.Goals as goal

pub returns : goal.returns
returns c = c.get.ensures.value ∙ sym (get_table dot_cmp_total c.self.inside.entries.entries c.args.dot) ∙ ap (λ m. map.get m c.args.dot) c.self.view_is
