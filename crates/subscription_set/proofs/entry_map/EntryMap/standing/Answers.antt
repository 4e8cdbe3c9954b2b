use Rattle.std.proofs.Common.{option_copied, sym, ap, ◌∙◌}
use Rattle.std.specs.FinMap as map
use Rattle.subscription_set.specs.Indexing.{ByDot, stands_as}
use Rattle.subscription_set.specs.Holding.{held}
use Rattle.subscription_set.proofs.Alone.{none_stands}
use Rattle.subscription_set.proofs.entry_map.EntryMap.standing.Goals as goal

pub returns-in-Nothing : goal.returns-in-Nothing
returns-in-Nothing c = λ d. ap (λ (m : ByDot). stands_as c.args.client.now (option_copied c.args.filter) (map.get m d)) (sym (sym (ap held c.in-Nothing.is) ∙ c.self.view_is))
    ∙ none_stands c.args.client.now (option_copied c.args.filter) d
