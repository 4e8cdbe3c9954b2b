-- The rows that a store shows whose changes are written into a journal first.
use Rattle.std.specs.Prelude.{◌≡◌, ◌≢◌, ◌<◌, ◌^◌, ◌==◌, ◌++◌, ◌||◌, ℕ, zero, suc, Bool, true, false, not, List, [], ◌∷◌, length, get_or, Some, None, Result, Ok, Err, flat_map, map}
use Rattle.std.specs.Int.{w64}
use Rattle.std.specs.List.{AllByRecursion}
use Rattle.std.specs.FinMap.{entries, get, insert, remove, retain_keys}
use Rattle.std.specs.Ordering.{eq_by_cmp}
use Rattle.mqtt_fields.specs.declared.fault.FieldFault.{FieldFault}
use Rattle.mqtt_fields.specs.Numbers.{number}
use Rattle.row_store.specs.declared.row.Change.{Change}
use Rattle.row_store.specs.Rows.{Key, Plain, Content, key_cmp}
use Rattle.row_store.specs.Noted.{Pair, pair_of}
use Rattle.row_journal.specs.Spelling.{turn}

-- a content after a change, and after several
abbrev pub after_pair : Content → Pair → Content
after_pair c (key, None) = remove c key
after_pair c (key, Some value) = insert c key value

abbrev pub after_pairs : Content → List Pair → Content
after_pairs c [] = c
after_pairs c (pair ∷ more) = after_pairs (after_pair c pair) more

-- whether one of the changes names the key
abbrev pub names : List Pair → Key → Bool
names [] key = false
names (pair ∷ more) key = eq_by_cmp key_cmp key pair.0 || names more key

-- what the one list names, the other names too
abbrev pub NamesWithin : List Pair → List Pair → Type 0
NamesWithin these those = (key : Key) → names these key ≡ true → names those key ≡ true

-- ---- what is shown

-- the kind of the journal's rows, and any other
abbrev pub is_entry : Key → Bool
is_entry key = key.0 == 240

abbrev pub is_other : Key → Bool
is_other key = not (is_entry key)

abbrev pub journal : Content → Content
journal c = retain_keys c is_entry

abbrev pub others : Content → Content
others c = retain_keys c is_other

-- the changes that a row of the journal spells
abbrev pub read_whole : Result (List Pair × List ℕ) FieldFault → List Pair
read_whole (Ok (changes, [])) = changes
read_whole (Ok (changes, b ∷ bs)) = []
read_whole (Err fault) = []

abbrev pub turn_in : Plain → List Pair
turn_in row = read_whole (turn.at row.1)

-- the other rows, after the changes of the journal's rows in the order of their keys
abbrev pub shown : Content → Content
shown c = after_pairs (others c) (flat_map turn_in (entries (journal c)))

-- ---- the rows of a journal

-- the key of the row of this number
abbrev pub entry_key : ℕ → Key
entry_key n = (240, ([], (number w64).bytes n))

-- the rows of the journal's kind are these turns, under the numbers from 0 on
pub record HasTurns (c : Content) (turns : List (List Pair)) : Type 0 where
  pub here : (n : ℕ) → n < length turns → get c (entry_key n) ≡ Some (turn.bytes (get_or turns n []))
  pub none : (key : Key) → key.0 ≡ 240 → ((n : ℕ) → n < length turns → key ≢ entry_key n) → get c key ≡ None
  pub fit : AllByRecursion turn.Fits turns

-- none is of the journal's kind
abbrev pub AreOthers : List Pair → Type 0
AreOthers = AllByRecursion (λ pair. is_other pair.0 ≡ true)

-- the rows of the journal's kind are a journal, which may be empty
pub record IsJournaled (c : Content) : Type 0 where
  pub turns : List (List Pair)
  pub few : length turns < 256 ^ 8
  pub has : HasTurns c turns
  pub plain : AllByRecursion AreOthers turns

-- the journal has so many rows, and these changes make of the other rows what is shown; they name only what turns of the journal name
pub record IsNoted (c : Content) (noted : List Change) (count : ℕ) : Type 0 where
  pub turns : List (List Pair)
  pub few : count < 256 ^ 8
  pub has : HasTurns c turns
  pub counted : length turns ≡ count
  pub leave : after_pairs (others c) (map pair_of noted) ≡ after_pairs (others c) (flat_map (λ t. t) turns)
  pub named : NamesWithin (map pair_of noted) (flat_map (λ t. t) turns)
  pub plain : AreOthers (map pair_of noted)

-- the removals of so many rows of the journal
abbrev pub removals : ℕ → List Pair
removals zero = []
removals (suc n) = removals n ++ (entry_key n, None) ∷ []
