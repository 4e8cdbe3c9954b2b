use Rattle.std.proofs.Common.{sym, ap, ◌∙◌}
use Rattle.std.specs.FinMap as map
use Rattle.subscription_set.specs.Standing.{find_entry, standing}
use Rattle.subscription_set.proofs.Standings.{standing-statuses}
use Rattle.subscription_set.proofs.set.SubscriptionSet.entry.Goals as goal

pub returns : goal.returns
returns c =
    let same = sym (standing-statuses c.self.inside.seen (map.entries c.self.inside.entries) c.self.invariant) ∙ ap standing c.self.view_is in
    c.get.ensures ∙ map.get-entries c.self.inside.entries c.args.dot ∙ ap (find_entry c.args.dot) same
