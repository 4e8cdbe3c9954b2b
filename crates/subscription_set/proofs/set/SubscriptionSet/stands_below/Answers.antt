use Rattle.std.proofs.Common.{refl}
use Rattle.std.specs.FinMap as map
use Rattle.std.proofs.Common.{◌∙◌, ap}
use Rattle.std.specs.List.{list_any}
use Rattle.subscription_set.specs.Entries.{is_of_below}
use Rattle.subscription_set.proofs.Standings.{entries_are}
use Rattle.subscription_set.proofs.set.SubscriptionSet.stands_below.Goals as goal

pub returns : goal.returns
returns c = c.any_among_below.ensures ∙ ap (list_any (λ x. is_of_below c.args.client.now c.args.version x.1)) (entries_are c.self.inside.seen (map.entries c.self.inside.entries) c.args.self.now (map.entries c.self.inside.entries) c.self.invariant c.self.view_is refl)
