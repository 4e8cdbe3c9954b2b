use Rattle.std.proofs.Common.{◌∙◌, arith}
use Rattle.std.proofs.lemmas.Result.{IfOk-weaker}
use Rattle.causal_context.proofs.RangeSets.{set_of_union}
use Rattle.causal_context.proofs.SameRanges.{empty_test, none_of_both}
use Rattle.causal_context.proofs.context.Context.joined.Goals as goal

pub returns-clause-both : goal.returns-clause-both
returns-clause-both c = IfOk-weaker c.context_of.result _ _
    (λ x same. same ∙ set_of_union c.self.inside.ranges.items c.other.inside.ranges.items c.in_ok-ranges.ranges.items c.args.self.now c.args.other.now (rw (c.deref.ensures.value, c.deref-2.ensures.value) at c.in_ok-ranges.ensures.union) c.self.view_is c.other.view_is)
    c.context_of.ensures.set

pub returns-in_err-ranges-clause-none : goal.returns-in_err-ranges-clause-none
returns-in_err-ranges-clause-none c = λ own theirs.
    (let no_own = (empty_test c.self.inside.ranges.items c.args.self.now c.self.invariant.sound c.self.view_is).1 own in
    let none = (empty_test c.other.inside.ranges.items c.args.other.now c.other.invariant.sound c.other.view_is).1 theirs in
    let some = rw (c.deref.ensures.value, c.deref-2.ensures.value) at c.in_err-ranges.ensures.memory in absurd (omega (arith, no_own, none, some)))

pub returns-clause-none : goal.returns-clause-none
returns-clause-none c = λ own theirs.
    (let no_own = (empty_test c.self.inside.ranges.items c.args.self.now c.self.invariant.sound c.self.view_is).1 own in
    let none = (empty_test c.other.inside.ranges.items c.args.other.now c.other.invariant.sound c.other.view_is).1 theirs in
    let empty = none_of_both c.self.inside.ranges.items c.other.inside.ranges.items c.in_ok-ranges.ranges.items (rw (c.deref.ensures.value, c.deref-2.ensures.value) at c.in_ok-ranges.ensures.union) no_own none in
    c.context_of.ensures.few (omega (arith, empty)))
