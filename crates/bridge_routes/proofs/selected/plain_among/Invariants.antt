use Rattle.std.proofs.Common.{drop}
use Rattle.filter_trie.proofs.Selecting.{Follows}
use Rattle.mqtt_topics.specs.Topics.{IsShared}
use Rattle.bridge_routes.specs.Tables.{referents}
use Rattle.bridge_routes.proofs.selected.plain_among.Given as goal

abbrev pub invariant-loop-entry : goal.invariant-loop-entry
invariant-loop-entry l = Follows (λ e. IsShared e.filter → ⊥) (referents l.found) (referents l.out.items) (referents (drop l.entry-index l.found))
