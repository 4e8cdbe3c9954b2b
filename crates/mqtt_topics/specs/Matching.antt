-- Which topic names a filter matches: MQTT 5.0, 4.7.
use Rattle.std.specs.Prelude.{ℕ, List, [], ◌∷◌, ◌≡◌, ◌⊎◌, IsTrue, nat_eq}
use Rattle.std.specs.List.{starts_with}
use Rattle.mqtt_topics.specs.Levels.{levels, multi_level, single_level}
use Rattle.mqtt_topics.specs.Topics.{filter_part}

-- a filter's levels against a name's levels: `#` alone matches any levels, none included; `+` matches any
-- one level, another level only itself, and the later levels must match
abbrev pub LevelsMatch : List (List ℕ) → List (List ℕ) → Type 0
LevelsMatch [] [] = Unit {0}
LevelsMatch [] (own ∷ later) = ⊥
LevelsMatch (level ∷ levels) [] = (level ≡ multi_level) × (levels ≡ [])
LevelsMatch (level ∷ levels) (own ∷ later) =
    ((level ≡ multi_level) × (levels ≡ [])) ⊎ (((level ≡ single_level) ⊎ (level ≡ own)) × LevelsMatch levels later)

-- a text that begins with `$`, as the names of a server's own topics do (4.7.2)
abbrev pub BeginsWithDollar : List ℕ → Type 0
BeginsWithDollar text = IsTrue (starts_with nat_eq text (36 ∷ []))

abbrev pub BeginsWithWildcard : List ℕ → Type 0
BeginsWithWildcard text = IsTrue (starts_with nat_eq text multi_level) ⊎ IsTrue (starts_with nat_eq text single_level)

-- a filter that isn't shared, against a name: one that begins with a wildcard matches no name that begins
-- with `$`
abbrev pub PlainMatches : List ℕ → List ℕ → Type 0
PlainMatches filter name =
    LevelsMatch (levels filter) (levels name) × (BeginsWithWildcard filter → BeginsWithDollar name → ⊥)

-- a filter against a name: a shared one matches as the filter in it (4.8.2)
abbrev pub Matches : List ℕ → List ℕ → Type 0
Matches filter name = PlainMatches (filter_part filter) name
