-- Changes of different keys, which may be made in any order.
use Rattle.std.specs.Prelude.{◌≢◌, ℕ, zero, suc, List, [], ◌∷◌}
use Rattle.std.specs.List.{AllByRecursion}
use Rattle.row_store.specs.declared.row.Change.{Change}
use Rattle.row_store.specs.declared.row.Change.TheVariants.{Put, Remove}
use Rattle.row_store.specs.Rows.{Key, Content, key_of, after}

-- the key that a change names
abbrev pub named : Change → Key
named (Put row) = key_of row
named (Remove kind owner place) = (kind, (owner.items, place.items))

-- none of these names a key that one of those names
abbrev pub AreApart : List Change → List Change → Type 0
AreApart these those = AllByRecursion (λ a. AllByRecursion (λ b. named a ≢ named b) those) these

-- a content after the change at a place of a list, if there is one
abbrev pub after_at : Content → List Change → ℕ → Content
after_at c [] place = c
after_at c (change ∷ more) zero = after c change
after_at c (change ∷ more) (suc place) = after_at c more place
