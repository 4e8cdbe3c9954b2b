-- The Reason Codes of the filters of a SUBSCRIBE, in their order; none for one that is asked for.
use Rattle.std.specs.Prelude.{ℕ, List, [], ◌∷◌, Option, Some, None, is_some, count_by}

-- how many filters are refused
abbrev pub refused_in : List (Option ℕ) → ℕ
refused_in codes = count_by is_some codes

-- codes of those that were asked for, in the places of these
abbrev pub merged : List (Option ℕ) → List ℕ → List ℕ
merged [] asked = asked
merged (Some code ∷ codes) asked = code ∷ merged codes asked
merged (None ∷ codes) [] = merged codes []
merged (None ∷ codes) (code ∷ asked) = code ∷ merged codes asked
