-- How filters for a name are found level by level.
use Rattle.std.specs.Prelude.{ℕ, ◌≡◌, ◌⊎◌, List, [], ◌∷◌, ◌++◌, codes, string_bytes}
use Rattle.mqtt_topics.specs.Levels.{levels, rest_levels}
use Rattle.mqtt_topics.specs.Matching.{LevelsMatch}
use Rattle.filter_trie.specs.declared.ends.Branch.{Branch}

-- a text is among the keys
abbrev pub Holds : {X : Type 0} → List (List ℕ × X) → List ℕ → Type 0
Holds [] text = ⊥
Holds (e ∷ es) text = (e.0 ≡ text) ⊎ Holds es text

-- a filter begins with a branch, and goes on with levels that match what is left of the name
abbrev pub Awaits : Branch → List ℕ → Type 0
Awaits b filter = (rest : List ℕ) × (filter ≡ string_bytes b.text ++ rest) × LevelsMatch (levels rest) (rest_levels b.rest)

-- one of the branches is such
abbrev pub Waits : List Branch → List ℕ → Type 0
Waits [] filter = ⊥
Waits (b ∷ bs) filter = Awaits b filter ⊎ Waits bs filter

-- a text begins with "$share/"
abbrev pub AfterShare : List ℕ → Type 0
AfterShare filter = (rest : List ℕ) × (filter ≡ codes "$share/" ++ rest)
