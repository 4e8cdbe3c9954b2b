-- Rows of versions 1 and 2, and what they are in version 3. In version 1 a subscription doesn't say under which version of the table of
-- homes it was made: it is version 0. In both the dots that were taken aren't all among those that were seen: they were seen too.
use Rattle.std.specs.Prelude.{◌≡◌, ◌≢◌, ◌⊎◌, ◌==◌, ◌||◌, ◌&&◌, ℕ, Bool, false, cond, Option, option_map, T, List, [], ◌∷◌, ◌++◌, drop, map as map_list, Some, None, if◌then◌else◌}
use Rattle.std.specs.Int.{w16, w32}
use Rattle.std.specs.FinMap as map
use Rattle.std.specs.FinMap.Entries.{put as put_at}
use Rattle.std.specs.FinSet as set
use Rattle.std.specs.Ordering.{eq_by_cmp}
use Rattle.mqtt_fields.specs.Numbers.{number}
use Rattle.causal_context.specs.Dots.{Dots}
use Rattle.causal_context.specs.Spelling.{context}
use Rattle.replica_rows.specs.Rows.{dots_value}
use Rattle.row_store.specs.Leading.{Lead, left_by, or_else}
use Rattle.row_store.specs.declared.row.Change.{Change}
use Rattle.row_store.specs.declared.row.Row.{Row}
use Rattle.row_store.specs.Rows.{Content, Key, key_cmp, entry_of, Plain}
use Rattle.session_rows.specs.Reading.{whole}
use Rattle.node_rows.specs.Rows.{Lasting, mark_key, marked, node_row}

-- the value of a mark of version 1, or of version 2
abbrev pub SaysOlder : List ℕ → Type 0
SaysOlder value = (said : ℕ × ℕ) × ((whole marked value ≡ Some (1, said)) ⊎ (whole marked value ≡ Some (2, said)))

-- the first is such a mark
abbrev pub AreOlder : List Plain → Type 0
AreOlder [] = ⊥
AreOlder (row ∷ rows) = (row.0 ≡ mark_key) × SaysOlder row.1

-- whether a mark is of version 1
abbrev pub says_first : Option (ℕ × (ℕ × ℕ)) → Bool
says_first None = false
says_first (Some said) = said.0 == 1

abbrev pub are_first : List Plain → Bool
are_first [] = false
are_first (row ∷ rows) = says_first (whole marked row.1)

-- the mark differs, and so do subscriptions of version 1: the mark says version 3, and behind a subscription stands version 0 of the
-- table
abbrev pub differs : Bool → ℕ → Bool
differs first kind = (kind == 1) || (first && (kind == 4))

abbrev pub raised_value : Bool → ℕ → List ℕ → List ℕ
raised_value first kind value =
    if kind == 1 then (number w16).bytes 3 ++ drop 2 value
    else if first && (kind == 4) then value ++ (number w32).bytes 0
    else value

abbrev pub raised : Bool → Plain → Plain
raised first row = (row.0, raised_value first row.0.0 row.1)

abbrev pub raised_each : Bool → List Plain → List Plain
raised_each first rows = map_list (raised first) rows

-- the keys of the dots that were taken, and of those that were seen
abbrev pub taken_key : Key
taken_key = (6, ([], 1 ∷ []))

abbrev pub seen_key : Key
seen_key = (6, ([], 2 ∷ []))

-- the dots that a row spells, which may be missing: none but where it spells none
abbrev pub dots_said : Option (List ℕ) → Option Dots
dots_said None = Some set.empty
dots_said (Some value) = whole context value

-- the row of both together; none where there are no dots
abbrev pub joined_value : Option Dots → Option Dots → Option (List ℕ)
joined_value None seen = None
joined_value (Some taken) None = None
joined_value (Some taken) (Some seen) = dots_value (set.union seen taken)

-- the row of the dots that were seen, and those that were taken
abbrev pub seen_value : List Plain → Option (List ℕ)
seen_value rows = joined_value (dots_said (map.find key_cmp taken_key rows)) (dots_said (map.find key_cmp seen_key rows))

abbrev pub with_seen : Option (List ℕ) → List Plain → List Plain
with_seen None rows = rows
with_seen (Some value) rows = put_at key_cmp seen_key value rows

-- rows in version 3
abbrev pub raised_all : List Plain → List Plain
raised_all rows = with_seen (seen_value rows) (raised_each (are_first rows) rows)

abbrev pub raised_content : Content → Content
raised_content c = map.from_entries (raised_all (map.entries c))

-- rows of an older version of node `id`, in the order of their keys, each once: in version 3 they are its rows
pub record AreOlderRows (rows : List Row) (id : ℕ) (x : Lasting) : Type 0 where
  pub older : AreOlder (map_list entry_of rows)
  pub rise : T (map.is_sorted key_cmp (map_list entry_of rows))
  pub are : (key : Key) → map.get {R = key_cmp} (map.from_entries (raised_all (map_list entry_of rows))) key ≡ node_row id x key

-- what changes of single rows leave at a key: the last of those that differ, in version 3
abbrev pub raised_row : Bool → Key → Plain → Option (Option (List ℕ))
raised_row first key row = if differs first row.0.0 then cond (eq_by_cmp key_cmp key row.0) (Some (Some (raised_value first row.0.0 row.1))) None else None

abbrev pub raised_by : Bool → Key → List Plain → Option (Option (List ℕ))
raised_by first key [] = None
raised_by first key (row ∷ rows) = or_else (raised_by first key rows) (raised_row first key row)

abbrev pub AreRaising : Bool → List Plain → List Change → Type 0
AreRaising first rows changes = (key : Key) → left_by changes key ≡ raised_by first key rows

-- changes that lead from rows to what they are in version 3, and name none that doesn't differ
pub record Raise (rows : List Plain) (changes : List Change) : Type 0 where
  pub lead : T (map.is_sorted key_cmp rows) → Lead (λ key. map.find key_cmp key rows) (λ key. map.find key_cmp key (raised_all rows)) changes
  pub others : (key : Key) → differs (are_first rows) key.0 ≡ false → key ≢ seen_key → left_by changes key ≡ None
