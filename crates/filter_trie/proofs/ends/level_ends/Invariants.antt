use Rattle.std.proofs.Common.{◌⊎◌, ℕ, List}
use Rattle.mqtt_topics.specs.Levels.{levels}
use Rattle.mqtt_topics.specs.Matching.{LevelsMatch}
use Rattle.filter_trie.specs.Search.Filing.{IsFiled}
use Rattle.filter_trie.specs.Search.Branching.{Holds, Waits}
use Rattle.filter_trie.proofs.ends.level_ends.Given as goal

abbrev pub invariant-loop : goal.invariant-loop
invariant-loop l = (f : List ℕ) → IsFiled l.beginnings f → LevelsMatch (levels f) (levels l.name) → Holds l.ends.entries f ⊎ Waits l.branches.items f
