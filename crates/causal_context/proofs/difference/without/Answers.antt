use Rattle.std.proofs.Common.{get_or}
use Rattle.causal_context.specs.declared.ranges.Range.{Range}
use Rattle.causal_context.proofs.RangeLemmas.{read_at}
use Rattle.causal_context.proofs.Cutting.{one_more_cut}
use Rattle.causal_context.proofs.difference.without.Goals as goal

abbrev zero_range : Range
zero_range = record { node = 0; first = 0; last = 0 }

pub push_cut-requires-clause-passed : goal.push_cut-requires-clause-passed
push_cut-requires-clause-passed c = c.loop-range.invariant.passed zero_range c.loop-range-test.true

pub loop-range-preserved : goal.loop-range-preserved
loop-range-preserved c =
    let ranges = c.args.ranges.now in
    let i = c.loop-range.range-index in
    one_more_cut ranges c.args.cuts.now i c.loop-range.place c.in_ok-place.place (get_or ranges i zero_range) c.loop-range.out.items c.push_cut.new.out.items
    c.requires.ranges c.loop-range-test.true (read_at ranges i zero_range c.loop-range-test.true) c.loop-range.invariant c.in_ok-place.ensures.cut
