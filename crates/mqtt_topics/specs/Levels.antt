-- Topic levels and wildcards: MQTT 5.0, 4.7.1.
use Rattle.std.specs.Prelude.{ℕ, List, [], ◌∷◌, Bool, ◌||◌, ◌==◌, ◌≡◌, ◌⊎◌, IsTrue, Option, Some, None}
use Rattle.std.specs.List.{slice_split, list_any}
use Rattle.mqtt_topics.specs.declared.levels.Levels.{Levels}
use denote.Ref.{Bor}

-- the byte `/`, which stands between two levels
abbrev pub is_separator : ℕ → Bool
is_separator b = b == 47

-- the levels of a text, each of which may be empty
abbrev pub levels : List ℕ → List (List ℕ)
levels text = slice_split is_separator text

-- the levels that an iterator has left
abbrev pub rest_levels : Option (Bor (List ℕ)) → List (List ℕ)
rest_levels None = []
rest_levels (Some text) = levels text.now

abbrev pub levels_left : Levels → List (List ℕ)
levels_left s = rest_levels s.rest

-- the level `#`, the multi-level wildcard (4.7.1.2)
abbrev pub multi_level : List ℕ
multi_level = 35 ∷ []

-- the level `+`, the single-level wildcard (4.7.1.3)
abbrev pub single_level : List ℕ
single_level = 43 ∷ []

-- the bytes `#` and `+`
abbrev pub is_wildcard : ℕ → Bool
is_wildcard b = (b == 35) || (b == 43)

abbrev pub HasWildcard : List ℕ → Type 0
HasWildcard text = IsTrue (list_any is_wildcard text)

-- a wildcard fills its level, and the multi-level one is the last level
abbrev pub IsPlaced : List ℕ → List (List ℕ) → Type 0
IsPlaced level later = (HasWildcard level → ⊥) ⊎ (level ≡ single_level) ⊎ ((level ≡ multi_level) × (later ≡ []))

abbrev pub ArePlaced : List (List ℕ) → Type 0
ArePlaced [] = Unit {0}
ArePlaced (level ∷ later) = IsPlaced level later × ArePlaced later
