use Rattle.std.proofs.Common.{◌≡◌, false, length}
use Rattle.mqtt_access.specs.Comparing.{is_surely}
use Rattle.mqtt_access.proofs.compare.is_surely.Given as goal

abbrev pub invariant-loop-left : goal.invariant-loop-left
invariant-loop-left l = is_surely l.behind l.left l.rest ≡ is_surely false l.filter l.topic

abbrev pub decreases-loop-left : goal.decreases-loop-left
decreases-loop-left l = length l.left
