use Rattle.std.specs.Vec.Iter.{into_iter_items}
use Rattle.std.proofs.Common.{arith, ◌∙◌}
use Rattle.replica_store.specs.Retained.{retained_join, one_put}
use Rattle.replica_bytes.proofs.Loops.{no_items}
use Rattle.replica_bytes.proofs.Sets.{none_built, one_built, all_built}
use Rattle.replica_bytes.proofs.retained.map_of.Goals as goal

pub loop-topic-init : goal.loop-topic-init
loop-topic-init c = none_built c.args.entries.items (into_iter_items c.into_iter-topic-iterator.result) c.new-made.result c.into_iter-topic-iterator.ensures.into_iter_gives.0 c.new-made.ensures c.requires.rising c.requires.own

pub loop-topic-preserved : goal.loop-topic-preserved
loop-topic-preserved c =
    one_built c.args.entries.items (into_iter_items c.loop-topic.topic-iterator) (into_iter_items c.next.new.self) (c.in-Some.topic, c.in-Some.kept) c.loop-topic.made c.put.new.self c.in-Some.ensures.steps.0
    (c.in_ok-put.ensures.ok ∙ (λ i. retained_join c.loop-topic.made (one_put (c.content_of.ensures.topic i) (record { stamp = c.in-Some.kept.stamp; message = c.content_of.ensures.message i }))))
    c.loop-topic.invariant

pub returns-clause-made : goal.returns-clause-made
returns-clause-made c = all_built c.args.entries.items (into_iter_items c.loop-topic.topic-iterator) c.loop-topic.made (no_items c.loop-topic.topic-iterator.rest.items (let h = c.in-None.ensures.steps in let k = c.loop-topic.topic-iterator.rest.ok in omega arith)) c.requires.rising c.loop-topic.invariant
