use Rattle.std.proofs.Common.{◌≡◌, map}
use Rattle.door_mqtt3.specs.Asked.{bridged}
use Rattle.door_mqtt3.proofs.asked.subscribe_asked.Given as goal

abbrev pub invariant-loop-filter : goal.invariant-loop-filter
invariant-loop-filter l = l.items.items ≡ map bridged l.yielded
