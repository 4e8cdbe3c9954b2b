use Rattle.std.proofs.Common.{◌||◌, [], not, refl, sym, ap, ◌∙◌}
use Rattle.std.proofs.lemmas.Bool.{false≢true}
use Rattle.std.specs.List.{list_any}
use Rattle.std.specs.Ordering.{eq_by_cmp}
use Rattle.std.specs.FinMap as map
use Rattle.std.specs.FinSet as set
use Rattle.causal_context.specs.Dots.{dot_cmp}
use Rattle.subscription_set.proofs.Joins.{moved_no, moved_end, unseen_all, unseen_at, any_of}
use Rattle.subscription_set.proofs.Below.{next_is_any}
use Rattle.subscription_set.proofs.plan.unseen.Goals as goal

pub loop-dot-init : goal.loop-dot-init
loop-dot-init c = λ q i. list_any (eq_by_cmp dot_cmp q) (c.new-out.ensures.items i) || any_of (λ y. not (set.contains c.args.seen.now.0 y.0)) q ((c.into_iter-dot-iterator.ensures.into_iter_gives ∙ c.iter-dot-items.ensures) i)

pub loop-dot-preserved : goal.loop-dot-preserved
loop-dot-preserved c = moved_no (λ y. not (set.contains c.args.seen.now.0 y.0)) (c.in-Some.dot.now, c.in-Some._theirs.now) c.loop-dot.out.items c.loop-dot.out.items c.loop-dot.dot-iterator c.next.new.self [] (map.entries c.args.others.now) c.in-Some.ensures.steps (ap not (sym c.had.ensures ∙ c.if-not-had.false)) refl c.loop-dot.invariant

pub returns-clause-unseen : goal.returns-clause-unseen
returns-clause-unseen c = unseen_all c.args.seen.now.0 c.args.others.now c.loop-dot.out.items (moved_end (λ y. not (set.contains c.args.seen.now.0 y.0)) c.loop-dot.out.items c.loop-dot.dot-iterator [] (map.entries c.args.others.now) c.in-None.ensures.steps.0 c.loop-dot.invariant)

pub returns-in_err-push-clause-none : goal.returns-in_err-push-clause-none
returns-in_err-push-clause-none c = λ none. absurd (false≢true (none c.in-Some.dot.now ∙ sym (unseen_at c.args.seen.now.0 c.args.others.now c.in-Some.dot.now)
    ∙ next_is_any (λ y. not (set.contains c.args.seen.now.0 y.0)) (c.in-Some.dot.now, c.in-Some._theirs.now) c.loop-dot.out.items c.loop-dot.dot-iterator c.next.new.self [] (map.entries c.args.others.now) c.in-Some.ensures.steps (ap not (sym c.had.ensures ∙ c.if-not-had.true)) c.loop-dot.invariant))
