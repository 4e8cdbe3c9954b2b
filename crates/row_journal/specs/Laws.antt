-- What holds of journals.
use Rattle.std.specs.Prelude.{◌≡◌, ◌<◌, ◌^◌, ◌++◌, ℕ, suc, List, [], ◌∷◌, length, map, flat_map}
use Rattle.std.specs.List.{AllByRecursion}
use Rattle.std.specs.FinMap.{insert}
use Rattle.row_store.specs.declared.row.Change.{Change}
use Rattle.row_store.specs.Rows.{Content, after_all}
use Rattle.row_store.specs.Noted.{Pair, pair_of}
use Rattle.row_journal.specs.Spelling.{turn}
use Rattle.row_journal.specs.Journal.{AreOthers, HasTurns, NamesWithin, after_pairs, entry_key, removals, shown}

-- a content after rows of the journal for these turns, under the numbers from n on
abbrev pub written : Content → ℕ → List (List Pair) → Content
written c n [] = c
written c n (t ∷ ts) = written (insert c (entry_key n) (turn.bytes t)) (suc n) ts

-- the changes of turns, one after the other
abbrev pub all_of : List (List Pair) → List Pair
all_of = flat_map (λ t. t)

-- turns that a journal can have
pub record CanBeWritten (turns : List (List Pair)) : Type 0 where
  pub few : length turns < 256 ^ 8
  pub fit : AllByRecursion turn.Fits turns

-- changes make of a content what their keys and values make of it
abbrev pub ChangesArePairs : Type 0
ChangesArePairs = (c : Content) (changes : List Change) → after_all c changes ≡ after_pairs c (map pair_of changes)

-- where there is no journal all rows are shown
abbrev pub AllIsShown : Type 0
AllIsShown = (c : Content) → HasTurns c [] → shown c ≡ c

-- after any turns in a new journal all their changes are shown
abbrev pub TurnsAreShown : Type 0
TurnsAreShown = (c : Content) (turns : List (List Pair)) → HasTurns c [] → CanBeWritten turns → shown (written c 0 turns) ≡ after_pairs c (all_of turns)

-- a fold of any turns leaves their changes in the rows, and no journal
abbrev pub FoldIsTurns : Type 0
FoldIsTurns = (c : Content) (turns : List (List Pair)) → HasTurns c [] → CanBeWritten turns → AreOthers (all_of turns)
    → after_pairs (written c 0 turns) (all_of turns ++ removals (length turns)) ≡ after_pairs c (all_of turns)

-- rows that are put or removed under keys that turns name are hidden by these: all that is shown stays
abbrev pub NamedAreHidden : Type 0
NamedAreHidden = (c : Content) (turns : List (List Pair)) (piece : List Pair) → HasTurns c [] → CanBeWritten turns → AreOthers (all_of turns) → NamesWithin piece (all_of turns)
    → shown (after_pairs (written c 0 turns) piece) ≡ shown (written c 0 turns)

-- a store has one journal
abbrev pub JournalIsOne : Type 0
JournalIsOne = (c : Content) (these those : List (List Pair)) → length these < 256 ^ 8 → length those < 256 ^ 8 → HasTurns c these → HasTurns c those → these ≡ those
