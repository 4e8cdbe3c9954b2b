use Rattle.std.proofs.Common.{map as map_list}
use Rattle.mqtt_topics.specs.Matching.{Matches}
use Rattle.filter_trie.proofs.Jumping.{Walked, At}
use Rattle.filter_trie.proofs.topics.names_matching.Given as goal

abbrev pub invariant-loop-name : goal.invariant-loop-name
invariant-loop-name g l = record {
  can : (goal.iterator-loop-name g).can_next l.left;
  ends : (goal.iterator-loop-name g).is_finite l.left;
  walk : Walked (At (λ n. Matches l.filter n)) l.pairs.entries l.left (map_list (λ r. (r.0.now, r.1.now)) l.out.items);
}
