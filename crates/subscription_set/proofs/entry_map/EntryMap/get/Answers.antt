use Rattle.std.proofs.Common.{sym, ap, ◌∙◌}
use Rattle.std.specs.FinMap as map
use Rattle.subscription_set.specs.Holding.{held}
use Rattle.subscription_set.proofs.Alone.{none_at}
use Rattle.subscription_set.proofs.entry_map.EntryMap.get.Goals as goal

pub returns-in-Nothing : goal.returns-in-Nothing
returns-in-Nothing c = sym (none_at c.args.dot) ∙ ap (λ m. map.get m c.args.dot) (sym (ap held c.in-Nothing.is) ∙ c.self.view_is)
