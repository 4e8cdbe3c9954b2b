use Rattle.std.proofs.Common.{◌≡◌, ◌-◌, ◌++◌, map, take, drop}
use Rattle.bridge_deltas.proofs.links.lower_all.Given as goal

abbrev pub invariant-loop-i : goal.invariant-loop-i
invariant-loop-i l = l.counts.items ≡ map (λ n. n - 1) (take l.i l.fn.counts.items) ++ drop l.i l.fn.counts.items
