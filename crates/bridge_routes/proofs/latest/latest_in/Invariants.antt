use Rattle.std.proofs.Common.{◌≡◌, ◌+◌, ◌-◌}
use Rattle.causal_context.specs.Ranges.{dots_from}
use Rattle.subscription_set.specs.Standing.{standing}
use Rattle.bridge_routes.specs.Latest.{latest_from, standing_at}
use Rattle.bridge_routes.proofs.latest.latest_in.Given as goal

abbrev pub invariant-loop-i : goal.invariant-loop-i
invariant-loop-i l =
    latest_from (standing l.subscriptions) (standing_at (standing l.subscriptions) l.latest) (dots_from l.range.node (l.range.first + l.i) (l.range.last + 1 - l.range.first - l.i))
    ≡ latest_from (standing l.subscriptions) (standing_at (standing l.subscriptions) l.initial.latest) (dots_from l.range.node l.range.first (l.range.last + 1 - l.range.first))
