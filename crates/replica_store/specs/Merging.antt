-- How retained messages merge, step by step.
use Rattle.std.specs.Prelude.{◌≡◌, ℕ, Bool, true, false, not, is_none, is_some, List, [], ◌∷◌, filter, Option, Some, None}
use Rattle.std.specs.Ordering.{is_lt}
use Rattle.std.specs.FinMap as map
use Rattle.subscription_set.specs.Sorted.{has_key}
use Rattle.replica_store.specs.declared.kept.Kept.{Kept}
use Rattle.replica_store.specs.Retained.{Retained, kept_cmp, topic_cmp}

-- entries in the order of their topics
abbrev pub Entries : Type 0
Entries = List (List ℕ × Kept)

-- the other entry is greater than what there is
abbrev pub is_newer : Option Kept → Kept → Bool
is_newer None y = true
is_newer (Some x) y = is_lt (kept_cmp x y)

-- there is an entry, and the other is greater
abbrev pub is_greater : Option Kept → Kept → Bool
is_greater None y = false
is_greater (Some x) y = is_lt (kept_cmp x y)

-- there is an entry that is no less
abbrev pub is_covered : Kept → Option Kept → Bool
is_covered x None = false
is_covered x (Some y) = not (is_lt (kept_cmp y x))

-- the map has an entry of each topic, and it is no less
abbrev pub AllBelow : Entries → Retained → Type 0
AllBelow [] m = Unit {0}
AllBelow (e ∷ es) m = (is_covered e.1 (map.get m e.0) ≡ true) × AllBelow es m

-- the entries whose topics the map hasn't
abbrev pub fresh_in : Retained → Entries → Entries
fresh_in m es = filter (λ e. is_none (map.get m e.0)) es

-- those that are greater than what the map has
abbrev pub greater_in : Retained → Entries → Entries
greater_in m es = filter (λ e. is_greater (map.get m e.0) e.1) es

-- the map has an entry of each topic, or of none
abbrev pub AllHeld : Retained → Entries → Type 0
AllHeld m [] = Unit {0}
AllHeld m (e ∷ es) = (is_some (map.get m e.0) ≡ true) × AllHeld m es

abbrev pub NoneHeld : Retained → Entries → Type 0
NoneHeld m [] = Unit {0}
NoneHeld m (e ∷ es) = (map.get m e.0 ≡ None) × NoneHeld m es

-- with the entries put in, one after the other, or taken out
abbrev pub with_all : Retained → Entries → Retained
with_all m [] = m
with_all m (e ∷ es) = with_all (map.insert m e.0 e.1) es

abbrev pub without_all : Retained → Entries → Retained
without_all m [] = m
without_all m (e ∷ es) = without_all (map.remove m e.0) es

-- other topics have what they had
abbrev pub KeepsOthers : Retained → Retained → Entries → Type 0
KeepsOthers old new es = (q : List ℕ) → has_key topic_cmp q es ≡ false → map.get new q ≡ map.get old q
