use Rattle.std.proofs.Common.{◌∙◌, ap, sym}
use Rattle.std.specs.FinSet as set
use Rattle.causal_context.specs.Dots.{dot_cmp, dot_cmp_total, dot_cmp_antisym}
use Rattle.law_maps.proofs.Tables.{leave_table}
use Rattle.subscription_set.specs.Placing.{dots_placed}
use Rattle.subscription_set.proofs.OneDot.{take_last, take_other}
use Rattle.subscription_set.proofs.dots.DotSet.remove.Goals as goal
use Rattle.subscription_set.proofs.dots.DotSet.remove.Goals.{in-Many-1, in-One-1, in-Many-2, in-One-2}

pub returns-then-is_same : goal.returns-then-is_same
returns-then-is_same c =
    let left = ap (λ ks. set.from_list {R = dot_cmp} ks) c.new.ensures.empty ∙ take_last c.in-One.first c.args.dot (sym c.is_same.ensures ∙ c.if-is_same.true)
    ∙ ap (λ s. set.remove s c.args.dot) (sym (λ i. set.from_list {R = dot_cmp} (dots_placed (c.in-One.is i))) ∙ c.self.view_is) in
    elim c.match-self-2.branch [ in-Many-1 w ↦ w.self-is ∙ left | in-One-1 w ↦ w.self-is ∙ left ]

pub returns-else-is_same : goal.returns-else-is_same
returns-else-is_same c =
    take_other c.in-One.first c.args.dot (sym c.is_same.ensures ∙ c.if-is_same.false)
    ∙ ap (λ s. set.remove s c.args.dot) (sym (λ i. set.from_list {R = dot_cmp} (dots_placed (c.in-One.is i))) ∙ c.self.view_is)

pub returns-in-Some : goal.returns-in-Some
returns-in-Some c =
    let left = ap (λ ks. set.from_list {R = dot_cmp} ks) (sym c.in-Some.ensures)
    ∙ leave_table dot_cmp_total dot_cmp_antisym c.in-Many.dots.keys c.remove.new.self.keys c.args.dot c.remove.ensures.updates.0
    ∙ ap (λ s. set.remove s c.args.dot) (sym (λ i. set.from_list {R = dot_cmp} (dots_placed (c.in-Many.is i))) ∙ c.self.view_is) in
    elim c.match-self-3.branch [ in-Many-2 w ↦ w.self-is ∙ left | in-One-2 w ↦ w.self-is ∙ left ]

pub returns-in_default : goal.returns-in_default
returns-in_default c =
    leave_table dot_cmp_total dot_cmp_antisym c.in-Many.dots.keys c.remove.new.self.keys c.args.dot c.remove.ensures.updates.0
    ∙ ap (λ s. set.remove s c.args.dot) (sym (λ i. set.from_list {R = dot_cmp} (dots_placed (c.in-Many.is i))) ∙ c.self.view_is)
