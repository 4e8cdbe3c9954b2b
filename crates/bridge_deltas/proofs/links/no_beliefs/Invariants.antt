use Rattle.std.proofs.Common.{◌≡◌}
use Rattle.std.specs.Prelude.{replicate}
use Rattle.std.specs.FinSet as set
use Rattle.bridge_deltas.proofs.links.no_beliefs.Given as goal

abbrev pub invariant-loop : goal.invariant-loop
invariant-loop l = l.beliefs.items ≡ replicate l.counter set.empty
