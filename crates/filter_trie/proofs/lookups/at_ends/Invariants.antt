use Rattle.std.proofs.Common.{map as map_list}
use Rattle.mqtt_topics.specs.Matching.{Matches}
use Rattle.filter_trie.proofs.Selecting.{Follows}
use Rattle.filter_trie.proofs.LookupLaws.{found_at}
use Rattle.filter_trie.proofs.lookups.at_ends.Given as goal

abbrev pub invariant-loop-end : goal.invariant-loop-end
invariant-loop-end g l =
    Follows (λ e. Matches e.0 l.name) (found_at l.pairs.entries l.ends.entries) (map_list (λ r. (r.0.now, r.1.now)) l.out.items) (found_at l.pairs.entries l.end-iterator)
