-- What is read of the rows of a journal.
use Rattle.std.specs.Prelude.{◌≡◌, ℕ, suc, List, [], ◌∷◌, length, map, flat_map}
use Rattle.std.specs.List.{AllByRecursion, filter}
use Rattle.row_store.specs.declared.row.Change.{Change}
use Rattle.row_store.specs.Rows.{Plain}
use Rattle.row_store.specs.Noted.{Pair, pair_of}
use Rattle.row_journal.specs.Spelling.{turn}
use Rattle.row_journal.specs.Journal.{AreOthers, entry_key, is_entry}

-- the rows of turns, from a number on
abbrev pub numbered : ℕ → List (List Pair) → List Plain
numbered n [] = []
numbered n (t ∷ ts) = (entry_key n, turn.bytes t) ∷ numbered (suc n) ts

-- those of the journal's kind among these rows
abbrev pub entries_in : List Plain → List Plain
entries_in = filter (λ row. is_entry row.0)

-- the bytes are these changes, and nothing else
abbrev pub IsSpelled : List ℕ → List Pair → Type 0
IsSpelled bytes changes = (bytes ≡ turn.bytes changes) × turn.Fits changes

-- the row of the journal of this number, with these changes
pub record IsEntry (row : Plain) (number : ℕ) (changes : List Pair) : Type 0 where
  pub is : row ≡ (entry_key number, turn.bytes changes)
  pub fits : turn.Fits changes
  pub plain : AreOthers changes

-- the journal's rows among these are so many, and have these changes
pub record IsRead (rows : List Plain) (noted : List Change) (count : ℕ) : Type 0 where
  pub turns : List (List Pair)
  pub counted : length turns ≡ count
  pub rows_are : entries_in rows ≡ numbered 0 turns
  pub fit : AllByRecursion turn.Fits turns
  pub are : map pair_of noted ≡ flat_map (λ t. t) turns
  pub plain : AreOthers (map pair_of noted)

-- the journal's rows among these are turns that name no row of its kind
pub record AreTurns (rows : List Plain) : Type 0 where
  pub turns : List (List Pair)
  pub rows_are : entries_in rows ≡ numbered 0 turns
  pub fit : AllByRecursion turn.Fits turns
  pub plain : AllByRecursion AreOthers turns
