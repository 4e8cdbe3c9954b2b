use Rattle.std.proofs.Common.{ℕ}
use Rattle.broker_turns.specs.Bridging.{IsLinkAccepted}
use Rattle.broker_turns.specs.Steps.{EachBelow}
use Rattle.broker_turns.proofs.links.accept_links.Given as goal

abbrev pub invariant-loop : goal.invariant-loop
invariant-loop g l =
    EachBelow (λ (_ : ℕ). IsLinkAccepted g.S.Sockets.accepts g.S.Readiness.watches l.listener) l.counter
    (l.initial.sockets, l.initial.accepted) (l.sockets, l.accepted)
