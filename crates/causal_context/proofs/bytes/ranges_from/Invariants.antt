use Rattle.causal_context.proofs.SpellingLaws.{AreReadUpTo, HasBegun}
use Rattle.causal_context.proofs.bytes.ranges_from.Given as goal

abbrev pub invariant-loop : goal.invariant-loop
invariant-loop l = record { read : AreReadUpTo l.count l.fn.bytes l.counter l.ranges.items l.before l.rest; began : HasBegun l.count l.fn.bytes l.before l.rest }
