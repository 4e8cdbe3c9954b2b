use Rattle.std.proofs.Common.{◌≡◌, false, map, take}
use Rattle.home_table.specs.Table.{stands_twice}
use Rattle.home_table.proofs.table.names_twice.Given as goal

-- no name stands twice so far
abbrev pub invariant-loop-i : goal.invariant-loop-i
invariant-loop-i l = stands_twice (map (λ n. n.name) (take l.i l.nodes)) ≡ false
