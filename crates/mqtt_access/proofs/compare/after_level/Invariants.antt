use Rattle.std.proofs.Common.{◌≡◌, length}
use Rattle.mqtt_access.specs.Comparing.{after_level}
use Rattle.mqtt_access.proofs.compare.after_level.Given as goal

abbrev pub invariant-loop-rest : goal.invariant-loop-rest
invariant-loop-rest l = after_level l.rest ≡ after_level l.topic

abbrev pub decreases-loop-rest : goal.decreases-loop-rest
decreases-loop-rest l = length l.rest
