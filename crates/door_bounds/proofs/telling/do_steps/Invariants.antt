use Rattle.door_bounds.specs.Telling.{AreSteps}
use Rattle.door_bounds.proofs.telling.do_steps.Given as goal

abbrev pub invariant-loop-step : goal.invariant-loop-step
invariant-loop-step g l = AreSteps g.H.Handler.handles l.place.0 l.place.1 l.yielded l.fn.inside l.inside l.fn.clients l.clients l.fn.outputs.items l.outputs.items
