use Rattle.std.proofs.Common.{◌∙◌}
use Rattle.std.specs.FinMap as map
use Rattle.subscription_set.proofs.Standings.{nothing_seen, nothing_stands}
use Rattle.subscription_set.proofs.set.SubscriptionSet.copy.Goals as goal

pub returns-in_err-seen-clause-none : goal.returns-in_err-seen-clause-none
returns-in_err-seen-clause-none c = λ none. absurd (let no = c.in_err-seen.ensures.none (nothing_seen c.self.inside.seen (map.entries c.self.inside.entries) (c.self.view_is ∙ none)) in cc)

pub returns-in_err-entries-clause-none : goal.returns-in_err-entries-clause-none
returns-in_err-entries-clause-none c = λ none. absurd (let no = c.in_err-entries.ensures.none (nothing_stands c.self.inside.seen (map.entries c.self.inside.entries) c.self.invariant (c.self.view_is ∙ none)) in cc)
