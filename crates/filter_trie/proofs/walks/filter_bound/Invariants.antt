use Rattle.std.proofs.Common.{length}
use denote.Text.{Utf8}
use denote.Shadow.{shadow}
use Rattle.mqtt_topics.specs.Levels.{levels}
use Rattle.filter_trie.specs.Search.Steps.{some_bound}
use Rattle.filter_trie.proofs.FilterWalk.{Matching}
use Rattle.filter_trie.proofs.Walking.{Walk}
use Rattle.filter_trie.proofs.walks.filter_bound.Given as goal

abbrev pub invariant-loop-later : goal.invariant-loop-later
invariant-loop-later l = record {
  rest_text : shadow (Utf8 l.rest);
  names_text : shadow (Utf8 l.names);
  walk : Walk (Matching (levels l.name)) (Matching (levels l.names)) l.key l.rest (some_bound l.key l.best);
}

abbrev pub decreases-loop-later : goal.decreases-loop-later
decreases-loop-later l = length l.rest
