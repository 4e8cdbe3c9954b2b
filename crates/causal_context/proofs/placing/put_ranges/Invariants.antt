use Rattle.std.proofs.Common.{◌+◌, ◌-◌, ◌≤◌, length, take, vec_len, vec_capacity}
use Rattle.causal_context.specs.RangeSteps.{IsUnion}
use Rattle.causal_context.proofs.placing.put_ranges.Given as goal

abbrev pub invariant-loop-range : goal.invariant-loop-range
invariant-loop-range l = record {
  union : IsUnion l.initial.ranges.items (take l.range-index l.more) l.ranges.items;
  room : vec_len l.ranges + (length l.more - l.range-index) ≤ vec_capacity l.ranges;
  few : vec_len l.ranges ≤ vec_len l.initial.ranges + l.range-index;
}
