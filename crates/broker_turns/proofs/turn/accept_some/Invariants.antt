use Rattle.std.proofs.Common.{ℕ}
use Rattle.broker_turns.specs.Connections.{IsAccepted, world}
use Rattle.broker_turns.specs.Steps.{EachBelow}
use Rattle.broker_turns.proofs.turn.accept_some.Given as goal

abbrev pub invariant-loop : goal.invariant-loop
invariant-loop g l =
    EachBelow (λ (_ : ℕ). IsAccepted g.S.Sockets.accepts g.S.Readiness.watches g.H.Handler.handles l.at l.listener) l.counter
    (world l.initial.sockets l.initial.handler l.initial.clients.slab) (world l.sockets l.handler l.clients.slab)
