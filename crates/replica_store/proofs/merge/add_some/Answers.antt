use Rattle.std.proofs.Common.{◌∙◌, ap, map as map_list, drop, ◌+◌}
use Rattle.std.specs.FinMap as map
use Rattle.std.specs.Map.Iter.{deref_pair}
use Rattle.replica_store.specs.Merging.{with_all}
use Rattle.replica_store.proofs.Keeping.{added_left, added_others}
use Rattle.replica_store.proofs.merge.add_some.Goals as goal

pub loop-topic-preserved : goal.loop-topic-preserved
loop-topic-preserved c =
    let xs = c.args.fresh.now in
    let i = c.loop-topic.topic-index in
    let m = c.loop-topic.topics in
    record {
      left = ap (λ s. with_all s (map_list deref_pair (drop (i + 1) xs))) c.in_ok-insert.ensures.ok
          ∙ added_left xs i c.loop-topic-item.result c.loop-topic-test.true c.loop-topic-item.is _ _ c.in_ok-topic.ensures c.in_ok-kept.ensures.copy m ∙ c.loop-topic.invariant.left;
      others = λ q n. ap (λ s. map.get s q) c.in_ok-insert.ensures.ok
          ∙ added_others xs i c.loop-topic-item.result c.loop-topic-test.true c.loop-topic-item.is _ _ c.in_ok-topic.ensures c.in_ok-kept.ensures.copy c.args.topics.now m c.loop-topic.invariant.others q n;
    }
