use Rattle.std.proofs.Common.{refl}
use Rattle.std.specs.FinMap as map
use Rattle.std.proofs.Common.{◌∙◌, ap, length}
use Rattle.std.specs.List.{filter}
use Rattle.subscription_set.specs.Entries.{same_text}
use Rattle.subscription_set.specs.Standing.{latest, live}
use Rattle.subscription_set.proofs.Standings.{entries_are}
use Rattle.subscription_set.proofs.set.SubscriptionSet.live_count_of.Goals as goal

pub returns : goal.returns
unfolding live
returns c = c.live_of.ensures ∙ ap (λ es. length (filter (λ x. same_text c.args.client.now x.1.client) (latest es))) (entries_are c.self.inside.seen (map.entries c.self.inside.entries) c.args.self.now (map.entries c.self.inside.entries) c.self.invariant c.self.view_is refl)
