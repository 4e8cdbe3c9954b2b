-- What has changed since the rows of a session were told last.
use Rattle.std.specs.Prelude.{◌≡◌, ℕ, ◌<◌, ◌≤◌, ◌++◌, nat_eq, nat_lt, Bool, true, false, cond, List, [], ◌∷◌, ◌⊎◌, Option, Some, None}
use Rattle.std.specs.Cmp.Lexicographic.{pointwise}
use Rattle.qos_handshakes.specs.declared.copies.Entry.{Entry}
use Rattle.qos_handshakes.specs.Entries.{Entries, at_place}
use Rattle.qos_handshakes.specs.Touched.{Watched, is_in, durable, progress}
use Rattle.row_store.specs.declared.row.Change.{Change}
use Rattle.row_store.specs.declared.row.Change.TheVariants.{Put, Remove}
use Rattle.row_store.specs.Rows.{Key, key_of}
use Rattle.session_rows.specs.Fields.{Main, main, copy, copy_of}
use Rattle.session_rows.specs.Rows.{main_key, copy_key}

-- the bytes that are put at a key, or that its row is removed
abbrev pub PlainChange : Type 0
PlainChange = Key × Option (List ℕ)

abbrev pub plain_of : Change → PlainChange
plain_of (Put row) = (key_of row, Some row.value.items)
plain_of (Remove kind owner place) = ((kind, (owner.items, place.items)), None)

-- the value of the session's own row that was told last, if there was one, and the next place at that time
pub record Told : Type 0 where
  pub value : Option (List ℕ)
  pub next_place : ℕ

-- nothing was told
abbrev pub untold : Told
untold = record { value = None; next_place = 1 }

-- what was told last is this value
abbrev pub is_told : Option (List ℕ) → List ℕ → Bool
is_told None value = false
is_told (Some told) value = pointwise nat_eq told value

-- its own row is put where its value differs
abbrev pub own_change_by : Bool → List ℕ → List ℕ → List PlainChange
own_change_by is_told client value = cond is_told [] ((main_key client, Some value) ∷ [])

abbrev pub own_change : Option (List ℕ) → List ℕ → List ℕ → List PlainChange
own_change told client value = own_change_by (is_told told value) client value

-- A copy whose durable part has changed is put; one that is gone is removed, if it had a row: its place isn't new.
abbrev pub copy_change : List ℕ → ℕ → ℕ → Option Entry → List PlainChange
copy_change client next place None = cond (nat_lt place next) ((copy_key client place, None) ∷ []) []
copy_change client next place (Some x) = (copy_key client place, Some (copy.bytes (copy_of x))) ∷ []

abbrev pub copy_changes : List ℕ → ℕ → Entries → List ℕ → List PlainChange
copy_changes client next es [] = []
copy_changes client next es (p ∷ ps) = copy_change client next p (at_place p es) ++ copy_changes client next es ps

-- the changes, where these are the places touched
abbrev pub changes_of : Told → List ℕ → Main → Entries → List ℕ → List PlainChange
changes_of told client m es places = own_change told.value client (main.bytes m) ++ copy_changes client told.next_place es places

-- ---- One state of the copies follows another: at each place what is durable is the same and it is touched where it was,
-- or it has come further and is touched.
abbrev pub Stays : ℕ → Watched → Watched → Type 0
Stays p old new = (is_in p new.touched ≡ is_in p old.touched) × (durable (at_place p old.box.copies) ≡ durable (at_place p new.box.copies)) × (progress p old.box.next_place old.box.copies ≤ progress p new.box.next_place new.box.copies)

abbrev pub Moves : ℕ → Watched → Watched → Type 0
Moves p old new = (is_in p new.touched ≡ true) × (progress p old.box.next_place old.box.copies < progress p new.box.next_place new.box.copies)

pub record Follows (old new : Watched) : Type 0 where
  pub each : (p : ℕ) → Stays p old new ⊎ Moves p old new
