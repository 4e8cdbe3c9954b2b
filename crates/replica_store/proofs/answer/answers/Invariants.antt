use Rattle.std.proofs.Common.{map as map_list}
use Rattle.mqtt_topics.specs.Topics.{IsShared}
use Rattle.replica_store.proofs.Answering.{Answered}
use Rattle.replica_store.proofs.answer.answers.Given as goal

abbrev pub invariant-loop-topic : goal.invariant-loop-topic
invariant-loop-topic l = record {
  can : goal.iterator-loop-topic.can_next l.left;
  ends : goal.iterator-loop-topic.is_finite l.left;
  plain : ¬ IsShared l.filter;
  so : Answered l.filter l.now l.topics.entries l.left (map_list (λ r. r.now) l.out.items);
}
