use Rattle.door_guard.specs.Telling.{AreDone}
use Rattle.door_guard.proofs.telling.do_steps.Given as goal

abbrev pub invariant-loop-step : goal.invariant-loop-step
invariant-loop-step g l = AreDone g.H.Handler.handles (g.A.Access.rights l.access) l.place.0 l.place.1 l.yielded l.fn.inside l.inside l.fn.known.clients l.known.clients (l.fn.known.refusals, l.fn.outputs.items) (l.known.refusals, l.outputs.items)
