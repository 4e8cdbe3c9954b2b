use Rattle.std.specs.FinMap as map
use Rattle.std.proofs.Common.{sym, ap, ◌∙◌}
use Rattle.subscription_set.specs.Standing.{seen_of}
use Rattle.subscription_set.proofs.Seen.{seen_of-statuses}
use Rattle.subscription_set.proofs.set.SubscriptionSet.seen.Goals as goal

pub returns : goal.returns
returns c = sym (seen_of-statuses c.self.inside.seen (map.entries c.self.inside.entries)) ∙ ap seen_of c.self.view_is
