use Rattle.std.proofs.Common.{◌-◌, ◌^◌, ◌∙◌, List, min, take, sym, ap}
use Rattle.std.specs.Prelude.{sum_by}
use Rattle.std.proofs.lemmas.List.{take_all}
use Rattle.causal_context.specs.declared.ranges.Range.{Range}
use Rattle.node_figures.proofs.Counting.{len_of, size_of}
use Rattle.node_figures.proofs.count.count_dots.Goals as goal

pub returns : goal.returns
returns c =
    let ranges = c.args.ranges.now in
    c.loop-range.invariant
    ∙ ap (λ (rs : List Range). min (sum_by size_of rs) (2 ^ 64 - 1)) (take_all c.loop-range.range-index ranges c.loop-range-test.false)
    ∙ ap (λ n. min n (2 ^ 64 - 1)) (sym (len_of ranges c.requires))
