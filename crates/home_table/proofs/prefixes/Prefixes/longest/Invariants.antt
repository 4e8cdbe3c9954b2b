use Rattle.home_table.specs.Homes.{NoLonger}
use Rattle.home_table.proofs.prefixes.Prefixes.longest.Given as goal

-- no longer part is a prefix of the map
abbrev pub invariant-loop-k : goal.invariant-loop-k
invariant-loop-k l = NoLonger l.self l.identifier l.k
