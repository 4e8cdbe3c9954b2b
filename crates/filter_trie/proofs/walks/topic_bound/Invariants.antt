use Rattle.std.proofs.Common.{length}
use denote.Text.{Utf8}
use denote.Shadow.{shadow}
use Rattle.mqtt_topics.specs.Levels.{levels}
use Rattle.filter_trie.specs.Search.Steps.{some_bound}
use Rattle.filter_trie.proofs.TopicWalk.{Matched}
use Rattle.filter_trie.proofs.Walking.{Walk}
use Rattle.filter_trie.proofs.walks.topic_bound.Given as goal

abbrev pub invariant-loop-best : goal.invariant-loop-best
invariant-loop-best l = record {
  rest_text : shadow (Utf8 l.rest);
  filters_text : shadow (Utf8 l.filters);
  walk : Walk (Matched (levels l.filter)) (Matched (levels l.filters)) l.key l.rest (some_bound l.key l.best);
}

abbrev pub decreases-loop-best : goal.decreases-loop-best
decreases-loop-best l = length l.rest
