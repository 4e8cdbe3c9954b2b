-- Rows, the content of a store of rows, and what changes make of it.
use Rattle.std.specs.Prelude.{ℕ, List, [], ◌∷◌, map}
use Rattle.std.specs.declared.cmp.Ordering.{Ordering}
use Rattle.std.specs.Ordering.{nat_cmp, ordering_then}
use Rattle.std.specs.Cmp.Lexicographic.{slice_cmp}
use Rattle.std.specs.FinMap.{FinMap, from_entries, insert, remove}
use Rattle.row_store.specs.declared.row.Row.{Row}
use Rattle.row_store.specs.declared.row.Change.{Change}
use Rattle.row_store.specs.declared.row.Change.TheVariants.{Put, Remove}

-- kind, owner, place
abbrev pub Key : Type 0
Key = ℕ × (List ℕ × List ℕ)

-- a row: its key and its value
abbrev pub Plain : Type 0
Plain = Key × List ℕ

-- by kind, then by the bytes of the owner, then by those of the place
abbrev pub key_cmp : Key → Key → Ordering
key_cmp a b = ordering_then (nat_cmp a.0 b.0) (ordering_then (slice_cmp nat_cmp a.1.0 b.1.0) (slice_cmp nat_cmp a.1.1 b.1.1))

-- the bytes at each key
abbrev pub Content : Type 0
Content = FinMap key_cmp (List ℕ)

abbrev pub key_of : Row → Key
key_of row = (row.kind, (row.owner.items, row.place.items))

-- a row as an entry of a content
abbrev pub entry_of : Row → Plain
entry_of row = (key_of row, row.value.items)

-- what rows hold; of two at one key, the first
abbrev pub content_of : List Row → Content
content_of rows = from_entries (map entry_of rows)

-- a content after a change, and after each of several in turn
abbrev pub after : Content → Change → Content
after c (Put row) = insert c (key_of row) row.value.items
after c (Remove kind owner place) = remove c (kind, (owner.items, place.items))

abbrev pub after_all : Content → List Change → Content
after_all c [] = c
after_all c (change ∷ more) = after_all (after c change) more
