use Rattle.std.proofs.Common.{◌≡◌, ◌<◌, arith, length, get_or, true, false}
use Rattle.causal_context.specs.declared.ranges.Range.{Range}
use Rattle.causal_context.proofs.RangeLemmas.{not_so, read_at}
use Rattle.causal_context.proofs.Below.{none_left, take_one, sticks_out}
use Rattle.causal_context.proofs.inclusion.are_passed.Goals as goal

abbrev zero_range : Range
zero_range = record { node = 0; first = 0; last = 0 }

never : false ≡ true → ⊥
never e = cc

pub returns-then-j-b : goal.returns-then-j-b
returns-then-j-b c =
    let a = c.args.a.now in
    let b = c.args.b.now in
    (λ t. absurd (never t), λ below. absurd (none_left a b c.loop-i.i c.loop-i.j (get_or a c.loop-i.i zero_range) zero_range c.requires.a c.requires.b c.loop-i.invariant c.loop-i-test.true (read_at a c.loop-i.i zero_range c.loop-i-test.true) c.if-j-b.true below))

pub loop-i-preserved : goal.loop-i-preserved
loop-i-preserved c =
    let a = c.args.a.now in
    let b = c.args.b.now in
    let j_in : c.loop-i.j < length b = omega (arith, c.loop-i.invariant.j_in) in
    take_one a b c.loop-i.i c.loop-i.j (get_or a c.loop-i.i zero_range) (get_or b c.loop-i.j zero_range) c.requires.a c.requires.b c.loop-i.invariant c.loop-i-test.true (read_at a c.loop-i.i zero_range c.loop-i-test.true)
    j_in (read_at b c.loop-i.j zero_range j_in) (c.lies_in.ensures.0 c.if-lies_in.true)

pub returns-else-lies_in : goal.returns-else-lies_in
returns-else-lies_in c =
    let a = c.args.a.now in
    let b = c.args.b.now in
    let j_in : c.loop-i.j < length b = omega (arith, c.loop-i.invariant.j_in) in (
      λ t. absurd (never t),
      λ below. absurd (sticks_out a b c.loop-i.i c.loop-i.j (get_or a c.loop-i.i zero_range) (get_or b c.loop-i.j zero_range) c.requires.a c.requires.b c.loop-i.invariant c.loop-i-test.true (read_at a c.loop-i.i zero_range c.loop-i-test.true)
          j_in (read_at b c.loop-i.j zero_range j_in) (not_so c.ends_before.result c.ends_before.ensures c.if-ends_before.false) (not_so c.lies_in.result c.lies_in.ensures c.if-lies_in.false) below),
    )
