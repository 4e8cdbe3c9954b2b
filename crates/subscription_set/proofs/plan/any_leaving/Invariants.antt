use Rattle.std.proofs.Common.{◌≡◌}
use Rattle.std.specs.FinMap as map
use Rattle.std.specs.List.{list_any}
use Rattle.subscription_set.specs.Joining.{leaves_with}
use Rattle.subscription_set.proofs.plan.any_leaving.Given as goal

abbrev pub invariant-loop-dot : goal.invariant-loop-dot
invariant-loop-dot l = list_any (leaves_with l.other_seen l.others) l.dot-iterator ≡ list_any (leaves_with l.other_seen l.others) (map.entries l.entries)
