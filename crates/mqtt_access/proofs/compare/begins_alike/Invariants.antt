use Rattle.std.proofs.Common.{◌≡◌, length}
use Rattle.mqtt_access.specs.Comparing.{begins_alike}
use Rattle.mqtt_access.proofs.compare.begins_alike.Given as goal

abbrev pub invariant-loop-left : goal.invariant-loop-left
invariant-loop-left l = begins_alike l.left l.rest ≡ begins_alike l.filter l.topic

abbrev pub decreases-loop-left : goal.decreases-loop-left
decreases-loop-left l = length l.left
