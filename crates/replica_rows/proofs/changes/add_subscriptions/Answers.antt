use Rattle.std.proofs.Common.{ap, ◌∙◌}
use Rattle.subscription_set.specs.Standing.{standing}
use Rattle.replica_rows.proofs.Gathered.{none_brought, next_stands, one_brought, all_brought}
use Rattle.replica_rows.proofs.changes.add_subscriptions.Goals as goal

pub loop-at-init : goal.loop-at-init
loop-at-init c = none_brought c.args.store.now c.args.delta.now c.into_iter-at-iterator.result c.args.out.now.items (c.into_iter-at-iterator.ensures.into_iter_gives ∙ c.entries-at-items.ensures ∙ ap standing c.subscriptions.ensures)

pub add_brought-requires : goal.add_brought-requires
add_brought-requires c = next_stands c.args.store.now c.args.delta.now c.loop-at.at-iterator c.next.new.self (c.in-Some.at.now, c.in-Some.entry.now) c.args.out.now.items c.loop-at.out.items c.in-Some.ensures.steps c.loop-at.invariant

pub loop-at-preserved : goal.loop-at-preserved
loop-at-preserved c = one_brought c.args.store.now c.args.delta.now c.loop-at.at-iterator c.next.new.self (c.in-Some.at.now, c.in-Some.entry.now) c.args.out.now.items c.loop-at.out.items c.add_brought.new.out.items c.in-Some.ensures.steps c.loop-at.invariant c.in_ok-add_brought.ensures.put

pub returns : goal.returns
returns c = all_brought c.args.store.now c.args.delta.now c.loop-at.at-iterator c.args.out.now.items c.loop-at.out.items c.in-None.ensures.steps.0 c.loop-at.invariant
