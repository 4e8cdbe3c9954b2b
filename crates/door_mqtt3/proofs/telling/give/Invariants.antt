use Rattle.door_mqtt3.specs.Telling.{ArePaths, giving, none_met}
use Rattle.door_mqtt3.proofs.telling.give.Given as goal

abbrev pub invariant-loop-output : goal.invariant-loop-output
invariant-loop-output l = ArePaths none_met (giving l.yielded) l.fn.clients l.clients l.fn.outputs.items l.outputs.items
