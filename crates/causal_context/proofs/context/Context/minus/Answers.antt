use Rattle.std.proofs.Common.{◌∙◌, arith}
use Rattle.std.proofs.lemmas.Result.{IfOk-weaker}
use Rattle.causal_context.proofs.RangeSets.{set_of_cut, subset-below}
use Rattle.causal_context.proofs.Cutting.{none_left_of}
use Rattle.causal_context.proofs.context.Context.minus.Goals as goal

pub returns-clause-left : goal.returns-clause-left
returns-clause-left c = IfOk-weaker c.context_of.result _ _
    (λ x same. same ∙ set_of_cut c.self.inside.ranges.items c.other.inside.ranges.items c.in_ok-ranges.ranges.items c.args.self.now c.args.other.now (rw (c.deref.ensures.value, c.deref-2.ensures.value) at c.in_ok-ranges.ensures.cut) c.self.view_is c.other.view_is)
    c.context_of.ensures.set

pub returns-in_err-ranges-clause-below : goal.returns-in_err-ranges-clause-below
returns-in_err-ranges-clause-below c = λ sub.
    (let sets = subset-below c.self.inside.ranges.items c.other.inside.ranges.items c.args.self.now c.args.other.now c.self.view_is c.other.view_is in
    let no = (rw (c.deref.ensures.value, c.deref-2.ensures.value) at c.in_err-ranges.ensures.below) (sets.1 sub) in cc)

pub returns-clause-below : goal.returns-clause-below
returns-clause-below c = λ sub.
    (let sets = subset-below c.self.inside.ranges.items c.other.inside.ranges.items c.args.self.now c.args.other.now c.self.view_is c.other.view_is in
    let none = none_left_of c.self.inside.ranges.items c.other.inside.ranges.items c.in_ok-ranges.ranges.items (rw (c.deref.ensures.value, c.deref-2.ensures.value) at c.in_ok-ranges.ensures.cut) (sets.1 sub) in
    c.context_of.ensures.few (omega (arith, none)))
