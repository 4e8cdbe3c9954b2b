use Rattle.door_mqtt3.specs.Telling.{IsTelling}
use Rattle.door_mqtt3.proofs.telling.end_all.Given as goal

abbrev pub invariant-loop-connection : goal.invariant-loop-connection
invariant-loop-connection g l = IsTelling g.H.Handler.handles l.at l.fn.inside l.inside l.fn.clients l.clients l.fn.outputs.items l.outputs.items
