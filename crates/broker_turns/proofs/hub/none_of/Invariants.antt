use Rattle.std.proofs.Common.{◌≡◌, replicate, None}
use Rattle.broker_turns.proofs.hub.none_of.Given as goal

abbrev pub invariant-loop : goal.invariant-loop
invariant-loop g l = l.places.items ≡ replicate l.counter None
