use Rattle.std.proofs.Common.{arith, ◌∙◌}
use Rattle.std.specs.FinMap as map
use Rattle.std.specs.Vec.Iter.{into_iter_items}
use Rattle.subscription_set.specs.Joining.{is_leaving}
use Rattle.replica_bytes.proofs.Loops.{no_items}
use Rattle.replica_rows.proofs.Gathered.{none_left, next_leaves, one_left, all_left}
use Rattle.replica_rows.proofs.changes.add_removals.Goals as goal

pub loop-at-init : goal.loop-at-init
loop-at-init c = none_left c.args.store.now c.args.delta.now c.in_ok-dots.dots.items (into_iter_items c.into_iter-at-iterator.result) c.args.out.now.items c.into_iter-at-iterator.ensures.into_iter_gives.0
    (λ q. c.in_ok-dots.ensures.leaving q ∙ (λ i. is_leaving (map.get (c.subscriptions.ensures i) q) (map.get (c.subscriptions-2.ensures i) q)))

pub add_removal-requires : goal.add_removal-requires
add_removal-requires c = next_leaves c.args.store.now c.args.delta.now (into_iter_items c.loop-at.at-iterator) (into_iter_items c.next.new.self) c.in-Some.at c.args.out.now.items c.loop-at.out.items c.in-Some.ensures.steps.0 c.loop-at.invariant

pub loop-at-preserved : goal.loop-at-preserved
loop-at-preserved c = one_left c.args.store.now c.args.delta.now (into_iter_items c.loop-at.at-iterator) (into_iter_items c.next.new.self) c.in-Some.at c.args.out.now.items c.loop-at.out.items c.add_removal.new.out.items c.in-Some.ensures.steps.0 c.loop-at.invariant c.in_ok-add_removal.ensures

pub returns : goal.returns
returns c = all_left c.args.store.now c.args.delta.now (into_iter_items c.loop-at.at-iterator) c.args.out.now.items c.loop-at.out.items (no_items c.loop-at.at-iterator.rest.items (let h = c.in-None.ensures.steps in let k = c.loop-at.at-iterator.rest.ok in omega arith)) c.loop-at.invariant
