use Rattle.std.proofs.Common.{ap, subst, ◌∙◌}
use Rattle.causal_context.specs.Dots.{Dots}
use Rattle.subscription_set.specs.Standing.{seen_of}
use Rattle.replica_store.specs.States.{state_join}
use Rattle.replica_rows.specs.Changes.{AreChanges}
use Rattle.replica_rows.specs.Steps.{AddsContext, AddsSubscriptions}
use Rattle.replica_rows.proofs.Naming.{changes_lead}
use Rattle.replica_rows.proofs.Completed.{changes_are}
use Rattle.replica_rows.proofs.Empty.{nothing_changes}
use Rattle.replica_rows.proofs.changes.changes_by.Goals as goal

they_are : (c : goal.In_ok-add_context-2) → AreChanges c.args.store.now (state_join c.args.store.now c.args.delta.now) c.add_context-2.new.out.items
they_are c =
    let one = subst (λ xs. AddsSubscriptions c.args.store.now c.args.delta.now xs c.add_subscriptions.new.out.items) c.new-out.ensures.items c.in_ok-add_subscriptions.ensures in
    let own = c.taken.ensures in
    let other = c.taken-2.ensures in
    let four = subst (λ (x : Dots × Dots). AddsContext 1 x.0 x.1 c.add_topics.new.out.items c.add_context.new.out.items) (λ i. (own i, other i)) c.in_ok-add_context.ensures.put in
    let seen = c.seen-seen.ensures ∙ ap seen_of c.subscriptions.ensures in
    let theirs = c.seen.ensures ∙ ap seen_of c.subscriptions-2.ensures in
    let five = subst (λ (x : Dots × Dots). AddsContext 2 x.0 x.1 c.add_context.new.out.items c.add_context-2.new.out.items) (λ i. (seen i, theirs i)) c.in_ok-add_context-2.ensures.put in
    changes_are c.args.store.now c.args.delta.now c.add_subscriptions.new.out.items c.add_removals.new.out.items c.add_topics.new.out.items c.add_context.new.out.items c.add_context-2.new.out.items one c.in_ok-add_removals.ensures c.in_ok-add_topics.ensures four five

pub returns-clause-changes : goal.returns-clause-changes
returns-clause-changes c = they_are c

pub returns-clause-lead : goal.returns-clause-lead
returns-clause-lead c = changes_lead c.args.store.now (state_join c.args.store.now c.args.delta.now) c.add_context-2.new.out.items (they_are c)

none_are : (c : goal.Then-is_below) → AreChanges c.args.store.now (state_join c.args.store.now c.args.delta.now) c.new-out.result.items
none_are c = nothing_changes c.args.store.now c.args.delta.now c.new-out.result.items c.new-out.ensures.items (c.is_below.ensures.0 c.if-is_below.true)

pub returns-then-is_below-clause-changes : goal.returns-then-is_below-clause-changes
returns-then-is_below-clause-changes c = none_are c

pub returns-then-is_below-clause-lead : goal.returns-then-is_below-clause-lead
returns-then-is_below-clause-lead c = changes_lead c.args.store.now (state_join c.args.store.now c.args.delta.now) c.new-out.result.items (none_are c)
