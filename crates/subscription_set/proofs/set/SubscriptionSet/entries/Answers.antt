use Rattle.std.proofs.Common.{sym, ap, ◌∙◌}
use Rattle.std.specs.FinMap as map
use Rattle.subscription_set.specs.Standing.{standing}
use Rattle.subscription_set.proofs.Standings.{standing-statuses}
use Rattle.subscription_set.proofs.set.SubscriptionSet.entries.Goals as goal

pub returns : goal.returns
returns c = c.iter.ensures ∙ sym (standing-statuses c.self.inside.seen (map.entries c.self.inside.entries) c.self.invariant) ∙ ap standing c.self.view_is
