use Rattle.std.proofs.Common.{ap, subst, ◌∙◌}
use Rattle.std.specs.FinMap as map
use Rattle.replica_store.specs.Retained.{HaveOwnTopics}
use Rattle.replica_rows.proofs.Gathered.{none_kept, next_there, one_kept, all_kept}
use Rattle.replica_rows.proofs.changes.add_topics.Goals as goal

pub loop-topic-init : goal.loop-topic-init
loop-topic-init c = none_kept c.args.store.now c.args.delta.now c.into_iter-topic-iterator.result c.args.out.now.items (c.into_iter-topic-iterator.ensures.into_iter_gives ∙ c.entries-topic-items.ensures.entries ∙ ap map.entries c.retained.ensures)
    (subst HaveOwnTopics c.retained.ensures c.entries-topic-items.ensures.topics)

pub add_topic-requires-clause-there : goal.add_topic-requires-clause-there
add_topic-requires-clause-there c = (next_there c.args.store.now c.args.delta.now c.loop-topic.topic-iterator c.next.new.self (c.in-Some.topic.now, c.in-Some.kept.now) c.args.out.now.items c.loop-topic.out.items c.in-Some.ensures.steps c.loop-topic.invariant).0

pub add_topic-requires-clause-own : goal.add_topic-requires-clause-own
add_topic-requires-clause-own c = (next_there c.args.store.now c.args.delta.now c.loop-topic.topic-iterator c.next.new.self (c.in-Some.topic.now, c.in-Some.kept.now) c.args.out.now.items c.loop-topic.out.items c.in-Some.ensures.steps c.loop-topic.invariant).1

pub loop-topic-preserved : goal.loop-topic-preserved
loop-topic-preserved c = one_kept c.args.store.now c.args.delta.now c.loop-topic.topic-iterator c.next.new.self (c.in-Some.topic.now, c.in-Some.kept.now) c.args.out.now.items c.loop-topic.out.items c.add_topic.new.out.items c.in-Some.ensures.steps c.loop-topic.invariant c.in_ok-add_topic.ensures.put

pub returns : goal.returns
returns c = all_kept c.args.store.now c.args.delta.now c.loop-topic.topic-iterator c.args.out.now.items c.loop-topic.out.items c.in-None.ensures.steps.0 c.loop-topic.invariant
