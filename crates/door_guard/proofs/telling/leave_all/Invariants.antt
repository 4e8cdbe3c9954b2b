use Rattle.door_guard.specs.Telling.{IsMet, none}
use Rattle.door_guard.proofs.telling.leave_all.Given as goal

abbrev pub invariant-loop-connection : goal.invariant-loop-connection
invariant-loop-connection g l = IsMet g.H.Handler.handles (g.A.Access.rights l.access) l.at none l.fn.inside l.inside l.fn.known.clients l.known.clients (l.fn.known.refusals, l.fn.outputs.items) (l.known.refusals, l.outputs.items)
