use Rattle.door_guard.specs.Telling.{AreGiven}
use Rattle.door_guard.proofs.giving.give.Given as goal

abbrev pub invariant-loop-output : goal.invariant-loop-output
invariant-loop-output g l = AreGiven (g.A.Access.rights l.access) l.place l.awaited l.yielded l.fn.known.clients l.known.clients (l.fn.known.refusals, l.fn.outputs.items) (l.known.refusals, l.outputs.items)
