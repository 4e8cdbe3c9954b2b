use Rattle.std.proofs.Common.{refl, sym, ◌∙◌}
use Rattle.std.proofs.lemmas.Bool.{false≢true}
use Rattle.subscription_set.specs.Joining.{leaves_with}
use Rattle.subscription_set.proofs.Joins.{moved_no, moved_end}
use Rattle.subscription_set.proofs.Below.{next_is_any}
use Rattle.subscription_set.proofs.plan.add_leaving.Goals as goal

pub loop-dot-preserved : goal.loop-dot-preserved
loop-dot-preserved c = moved_no (leaves_with c.args.other_seen.now c.args.others.now) (c.in-Some.dot.now, c.in-Some.entry.now) c.loop-dot.out.items c.loop-dot.out.items c.loop-dot.dot-iterator c.next.new.self c.args.out.now.items c.args.found c.in-Some.ensures.steps (sym c.leaves.ensures ∙ c.if-leaves.false) refl c.loop-dot.invariant

pub returns-clause-ok : goal.returns-clause-ok
returns-clause-ok c = moved_end (leaves_with c.args.other_seen.now c.args.others.now) c.loop-dot.out.items c.loop-dot.dot-iterator c.args.out.now.items c.args.found c.in-None.ensures.steps.0 c.loop-dot.invariant

pub returns-in_err-push-clause-none : goal.returns-in_err-push-clause-none
returns-in_err-push-clause-none c = λ none. absurd (false≢true (sym (none c.in-Some.dot.now)
    ∙ next_is_any (leaves_with c.args.other_seen.now c.args.others.now) (c.in-Some.dot.now, c.in-Some.entry.now) c.loop-dot.out.items c.loop-dot.dot-iterator c.next.new.self c.args.out.now.items c.args.found c.in-Some.ensures.steps (sym c.leaves.ensures ∙ c.if-leaves.true) c.loop-dot.invariant))
