use Rattle.std.proofs.Common.{◌<◌, arith}
use Rattle.causal_context.proofs.Touching.{placed_alone, placed_over, placed_at}
use Rattle.causal_context.proofs.placing.put_range.Goals as goal

pub returns-then-start-end-clause-union : goal.returns-then-start-end-clause-union
returns-then-start-end-clause-union c =
    let touched = rw c.deref.ensures.value at c.touched-start.ensures in
    rw (c.insert.ensures.items, c.insert.ensures.succeeds c.requires.room)
    (placed_alone c.args.ranges.now.items c.args.range _ _ c.requires.sound c.requires.fine touched c.if-start-end.true)

pub returns-clause-union : goal.returns-clause-union
returns-clause-union c =
    let touched = rw c.deref.ensures.value at c.touched-start.ensures in
    let some : c.touched-start.result.0 < c.touched-start.result.1 = omega (arith, touched.order, c.if-start-end.false) in
    let placed = placed_at c.args.ranges.now.items c.args.range _ _ _ some touched.in_range
    (placed_over c.args.ranges.now.items c.args.range _ _ c.requires.sound c.requires.fine touched c.index-front.result.now c.index-back.result.now
    (record { node = c.args.range.node; first = c.min.result; last = c.max.result }) some c.index-front.ensures c.index-back.ensures (λ i. record { node = c.args.range.node; first = c.min.ensures i; last = c.max.ensures i })) in
    rw c.take_out.ensures.items placed
