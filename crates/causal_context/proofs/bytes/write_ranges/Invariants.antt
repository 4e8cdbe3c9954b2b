use Rattle.std.proofs.Common.{◌≤◌, ◌+◌, ◌-◌, ◌*◌, length, vec_len, vec_capacity}
use Rattle.causal_context.proofs.SpellingLaws.{AreWrittenUpTo}
use Rattle.causal_context.proofs.bytes.write_ranges.Given as goal

abbrev pub invariant-loop-range : goal.invariant-loop-range
invariant-loop-range l = record {
  written : AreWrittenUpTo l.fn.out.items l.ranges l.range-index l.out.items;
  room : vec_len l.out + 18 * (length l.ranges - l.range-index) ≤ vec_capacity l.out;
  capacity : vec_capacity l.fn.out ≤ vec_capacity l.out;
}
