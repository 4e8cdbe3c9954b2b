use Rattle.std.proofs.Common.{◌≡◌, ◌<◌, ◌%◌, take}
use Rattle.std.specs.Prelude.{sum}
use Rattle.home_table.proofs.table.sum_place.Given as goal

-- the sum so far
abbrev pub invariant-loop-b : goal.invariant-loop-b
invariant-loop-b l = (l.total ≡ sum (take l.b-index l.identifier) % l.nodes) × (l.total < l.nodes)
