use Rattle.std.proofs.Common.{sym, ◌∙◌}
use Rattle.std.specs.FinSet as set
use Rattle.causal_context.specs.Ranges.{set_of}
use Rattle.causal_context.proofs.RangeLemmas.{not_so}
use Rattle.causal_context.proofs.RangeSets.{subset-below, with_below, with_none}
use Rattle.causal_context.proofs.context.Context.prepare.Goals as goal

pub returns-then-are_below-clause-ok : goal.returns-then-are_below-clause-ok
returns-then-are_below-clause-ok c =
    let sets = subset-below c.other.inside.ranges.items c.self.inside.ranges.items c.args.other.now c.args.self c.other.view_is c.self.view_is in
    let test = rw (c.deref.ensures.value, c.deref-2.ensures.value) at c.are_below.ensures in (
      c.self.view_is,
      (λ i. set.union (c.self.view_is i) (set_of c.new-more.result.items)) ∙ with_none c.args.self c.new-more.result.items c.new-more.ensures.items ∙ sym (with_below c.args.self c.args.other.now (sets.0 (test.0 c.if-are_below.true))),
    )

pub returns-in-Err-clause-below : goal.returns-in-Err-clause-below
returns-in-Err-clause-below c = λ sub.
    (let sets = subset-below c.other.inside.ranges.items c.self.inside.ranges.items c.args.other.now c.args.self c.other.view_is c.self.view_is in
    let test = rw (c.deref.ensures.value, c.deref-2.ensures.value) at c.are_below.ensures in
    absurd (not_so c.are_below.result test c.if-are_below.false (sets.1 sub)))
