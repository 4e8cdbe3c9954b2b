use Rattle.std.proofs.Common.{◌≡◌, ◌-◌, ◌^◌, min, take}
use Rattle.std.specs.Prelude.{sum_by}
use Rattle.node_figures.proofs.Counting.{size_of}
use Rattle.node_figures.proofs.count.count_dots.Given as goal

abbrev pub invariant-loop-range : goal.invariant-loop-range
invariant-loop-range l = l.count ≡ min (sum_by size_of (take l.range-index l.ranges)) (2 ^ 64 - 1)
