use Rattle.std.proofs.Common.{◌≡◌, None, drop}
use Rattle.causal_context.specs.Ranges.{dots_in}
use Rattle.subscription_set.specs.Standing.{standing}
use Rattle.bridge_routes.specs.Latest.{latest_from, standing_at}
use Rattle.bridge_routes.proofs.latest.latest_among.Given as goal

abbrev pub invariant-loop-range : goal.invariant-loop-range
invariant-loop-range l =
    latest_from (standing l.subscriptions) (standing_at (standing l.subscriptions) l.latest) (dots_in (drop l.range-index l.ranges))
    ≡ latest_from (standing l.subscriptions) None (dots_in l.ranges)
