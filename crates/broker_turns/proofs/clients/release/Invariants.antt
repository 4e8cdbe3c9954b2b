use Rattle.broker_turns.specs.Clients.{Released}
use Rattle.broker_turns.proofs.clients.release.Given as goal

abbrev pub invariant-loop-output : goal.invariant-loop-output
invariant-loop-output g l = Released l.yielded l.initial.clients.slab l.clients.slab
