use Rattle.std.proofs.Common.{[], sym, ap, ◌∙◌, subst}
use Rattle.std.specs.FinMap as map
use Rattle.causal_context.specs.Dots.{dot_cmp}
use Rattle.subscription_set.specs.Joining.{AreUnseen}
use Rattle.subscription_set.specs.Standing.{statuses, AreSeen}
use Rattle.subscription_set.specs.Sorted.{without_keys}
use Rattle.subscription_set.specs.Statuses.{statuses_join, StatusesBelow}
use Rattle.subscription_set.proofs.JoinFormula.{join_by_formula}
use Rattle.subscription_set.proofs.Plans.{join_seen, seen_as, same_statuses}
use Rattle.subscription_set.proofs.Merges.{old_again, joined}
use Rattle.subscription_set.proofs.Order.{subset_from}
use Rattle.subscription_set.proofs.Below.{below_leaves_none, below_is_seen}
use Rattle.subscription_set.proofs.set.SubscriptionSet.prepare.Goals as goal

pub invariant_of-result-in-Ok-make_plan : goal.invariant_of-result-in-Ok-make_plan
invariant_of-result-in-Ok-make_plan c =
    let s = c.in-Ok.ensures.ok in
    let fresh = subst (λ x. AreUnseen x c.other.inside.entries c.in-Ok-make_plan.plan.brought.items) s.0 c.in-Ok-make_plan.ensures.fresh in
    let again = old_again c.self.inside.seen c.self.inside.entries c.other.inside.seen c.other.inside.entries c.make_plan.new.entries c.in-Ok-make_plan.plan.brought.items c.in-Ok-make_plan.plan.gone.items c.self.invariant.seen c.other.invariant.seen fresh c.in-Ok-make_plan.ensures.brought in
    let is = joined c.self.inside.seen c.self.inside.entries c.other.inside.seen c.other.inside.entries c.make_plan.new.entries c.in-Ok-make_plan.plan.brought.items c.in-Ok-make_plan.plan.gone.items c.self.invariant.seen c.other.invariant.seen fresh c.in-Ok-make_plan.ensures.brought c.in-Ok-make_plan.ensures.gone in (
      subst (λ x. AreSeen x (without_keys dot_cmp c.in-Ok-make_plan.plan.brought.items (map.entries c.make_plan.new.entries))) (sym s.0)
          (seen_as c.self.inside.seen (without_keys dot_cmp c.in-Ok-make_plan.plan.brought.items (map.entries c.make_plan.new.entries)) (map.entries c.self.inside.entries) again c.self.invariant.seen),
      subst (λ x. AreSeen x (without_keys dot_cmp c.in-Ok-make_plan.plan.gone.items (map.entries c.make_plan.new.entries))) (sym s.1)
          (join_seen _ _ _ _ (without_keys dot_cmp c.in-Ok-make_plan.plan.gone.items (map.entries c.make_plan.new.entries)) c.self.invariant.seen c.other.invariant.seen is),
    )

pub returns-in-Ok-make_plan-clause-ok : goal.returns-in-Ok-make_plan-clause-ok
returns-in-Ok-make_plan-clause-ok c =
    let s = c.in-Ok.ensures.ok in
    let fresh = subst (λ x. AreUnseen x c.other.inside.entries c.in-Ok-make_plan.plan.brought.items) s.0 c.in-Ok-make_plan.ensures.fresh in
    let again = old_again c.self.inside.seen c.self.inside.entries c.other.inside.seen c.other.inside.entries c.make_plan.new.entries c.in-Ok-make_plan.plan.brought.items c.in-Ok-make_plan.plan.gone.items c.self.invariant.seen c.other.invariant.seen fresh c.in-Ok-make_plan.ensures.brought in
    let is = joined c.self.inside.seen c.self.inside.entries c.other.inside.seen c.other.inside.entries c.make_plan.new.entries c.in-Ok-make_plan.plan.brought.items c.in-Ok-make_plan.plan.gone.items c.self.invariant.seen c.other.invariant.seen fresh c.in-Ok-make_plan.ensures.brought c.in-Ok-make_plan.ensures.gone in (
      ap (λ x. statuses x (without_keys dot_cmp c.in-Ok-make_plan.plan.brought.items (map.entries c.make_plan.new.entries))) s.0
          ∙ same_statuses c.self.inside.seen (without_keys dot_cmp c.in-Ok-make_plan.plan.brought.items (map.entries c.make_plan.new.entries)) (map.entries c.self.inside.entries) again ∙ c.self.view_is,
      ap (λ x. statuses x (without_keys dot_cmp c.in-Ok-make_plan.plan.gone.items (map.entries c.make_plan.new.entries))) s.1
          ∙ join_by_formula _ _ _ _ (without_keys dot_cmp c.in-Ok-make_plan.plan.gone.items (map.entries c.make_plan.new.entries)) c.self.invariant.seen c.other.invariant.seen is
          ∙ (λ i. statuses_join (c.self.view_is i) (c.other.view_is i)),
    )

pub returns-in-Err-clause-below : goal.returns-in-Err-clause-below
returns-in-Err-clause-below c = λ below. c.in-Err.ensures.below (subset_from c.other.inside.seen c.self.inside.seen (map.entries c.other.inside.entries) (map.entries c.self.inside.entries) c.other.invariant c.self.invariant
    (subst (λ s. StatusesBelow s (statuses c.self.inside.seen (map.entries c.self.inside.entries))) (sym c.other.view_is) (subst (StatusesBelow c.args.other.now) (sym c.self.view_is) below)))

pub returns-in-Err-make_plan-clause-below : goal.returns-in-Err-make_plan-clause-below
returns-in-Err-make_plan-clause-below c = λ below.
    (let under : StatusesBelow (statuses c.other.inside.seen (map.entries c.other.inside.entries)) (statuses c.self.inside.seen (map.entries c.self.inside.entries)) = (subst (λ s. StatusesBelow s (statuses c.self.inside.seen (map.entries c.self.inside.entries))) (sym c.other.view_is) (subst (StatusesBelow c.args.other.now) (sym c.self.view_is) below)) in
    c.in-Err-make_plan.ensures.none
    (below_leaves_none c.self.inside.seen c.other.inside.seen c.self.inside.entries c.other.inside.entries c.self.invariant c.other.invariant under)
    (subst (λ x. AreUnseen x c.other.inside.entries []) (sym c.in-Ok.ensures.ok.0) (below_is_seen c.self.inside.seen c.other.inside.seen c.self.inside.entries c.other.inside.entries c.self.invariant c.other.invariant under)))
