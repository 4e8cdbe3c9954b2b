-- The rows of a session that is over go.
use Rattle.std.specs.Prelude.{◌≡◌, ◌≢◌, ◌⊎◌, ℕ, map, List, [], ◌∷◌, ◌++◌, Option, Some, None, IsSome, Result, Ok, Err, Vec}
use Rattle.std.specs.Map.{keys_of}
use Rattle.qos_handshakes.specs.declared.copies.Entry.{Entry}
use Rattle.qos_handshakes.specs.Entries.{Entries, at_place}
use Rattle.qos_handshakes.specs.Touched.{AreListed}
use Rattle.row_store.specs.declared.row.Change.{Change}
use Rattle.session_rows.specs.Changes.{PlainChange, Told, copy_changes, plain_of}
use Rattle.session_rows.specs.Rows.{main_key}
use Rattle.mqtt_sessions.specs.declared.fault.SessionFault.{SessionFault}
use Rattle.mqtt_sessions.specs.declared.fault.SessionFault.TheVariants.{NoMemory, Spent}
use Rattle.mqtt_sessions.specs.Saved.{Saved}

-- a place without a copy
abbrev pub gone_at : ℕ → Option Entry → List ℕ
gone_at place None = place ∷ []
gone_at place (Some x) = []

abbrev pub gone_of : Entries → List ℕ → List ℕ
gone_of es [] = []
gone_of es (p ∷ ps) = gone_at p (at_place p es) ++ gone_of es ps

-- the session's own row goes, if one was told
abbrev pub own_removal : Option (List ℕ) → List ℕ → List PlainChange
own_removal None client = []
own_removal (Some value) client = (main_key client, None) ∷ []

-- what was told last of it, if it was
abbrev pub own_told : Option (List ℕ) → List ℕ → List PlainChange
own_told None client = []
own_told (Some value) client = (main_key client, Some value) ∷ []

-- The rows that were told go: those of the copies that are there and of those touched that are gone, as no copy were left,
-- and the session's own.
abbrev pub removals_of : Told → List ℕ → Entries → List ℕ → List PlainChange
removals_of told client es touched = copy_changes client told.next_place [] (keys_of es ++ gone_of es touched) ++ own_removal told.value client

pub record Removes (s : Saved) (changes : List Change) : Type 0 where
  pub places : List ℕ
  pub listed : AreListed s.tracked.touched places
  pub named : map plain_of changes ≡ removals_of s.told s.tracked.state.kept.client s.tracked.state.outbox.copies places

-- what goes before them
abbrev pub removed_before : Saved → List PlainChange
removed_before s = own_told s.told.value s.tracked.state.kept.client

-- they want memory only where a row may go: its own was told, a copy is there, or one was touched
abbrev pub RemovalsWant : Saved → Type 0
RemovalsWant s = IsSome s.told.value ⊎ ((s.tracked.state.outbox.copies ≢ []) ⊎ (s.tracked.touched ≢ []))

abbrev pub RemovesIf : {A : Type 0} → Option Saved → Result (Vec Change A) SessionFault → Type 0
RemovesIf None (Ok changes) = ⊥
RemovesIf None (Err e) = e ≡ Spent
RemovesIf (Some s) (Ok changes) = Removes s changes.items
RemovesIf (Some s) (Err e) = e ≡ NoMemory
