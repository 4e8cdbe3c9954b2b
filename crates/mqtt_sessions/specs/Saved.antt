-- What outlives a session's connections as rows, and what was told of them.
use Rattle.std.specs.Prelude.{◌≡◌, ℕ, Bool, true, false, cond, map, List, [], ◌∷◌, ◌++◌, Option, Some, None, is_some, Result, Ok, Err, Vec}
use Rattle.mqtt_fields.specs.declared.options.Qos.{Qos}
use Rattle.mqtt_fields.specs.declared.options.Qos.TheVariants.{AtMostOnce, AtLeastOnce, ExactlyOnce}
use Rattle.mqtt_packets.specs.declared.packet.Packet.{Packet}
use Rattle.mqtt_packets.specs.declared.packet.Packet.TheVariants as packets
use Rattle.qos_handshakes.specs.Incoming.{identifiers_of, of_identifiers}
use Rattle.qos_handshakes.specs.Outbox.{away}
use Rattle.qos_handshakes.specs.Restored.{restored}
use Rattle.qos_handshakes.specs.Touched.{AreListed}
use Rattle.row_store.specs.declared.row.Row.{Row}
use Rattle.row_store.specs.declared.row.Change.{Change}
use Rattle.row_store.specs.Rows.{entry_of}
use Rattle.session_rows.specs.Changes.{PlainChange, Told, Follows, changes_of, is_told, plain_of, untold}
use Rattle.session_rows.specs.Durable.{Durable, IsDurable}
use Rattle.session_rows.specs.declared.session.Opened.{Opened}
use Rattle.session_rows.specs.Fields.{Main, main}
use Rattle.session_rows.specs.Rows.{main_key, rows_of}
use Rattle.mqtt_sessions.specs.declared.fault.SessionFault.{SessionFault}
use Rattle.mqtt_sessions.specs.declared.fault.SessionFault.TheVariants.{NoMemory, NumbersAtEnd, Spent, BadRow}
use Rattle.mqtt_sessions.specs.declared.kept.Phase.{Phase}
use Rattle.mqtt_sessions.specs.declared.kept.Phase.TheVariants.{Connected, Closed}
use Rattle.mqtt_sessions.specs.State.{State, Tracked, watched, new_session}

-- ---- what outlives its connections
abbrev pub closed_of : Phase → Option ℕ
closed_of Connected = None
closed_of (Closed at) = Some at

abbrev pub phase_of : Option ℕ → Phase
phase_of None = Connected
phase_of (Some at) = Closed at

abbrev pub main_of : State → Main
main_of s = record { expiry = s.kept.expiry; closed = closed_of s.kept.phase; will = s.kept.will; incoming = identifiers_of s.incoming; next_place = s.outbox.next_place }

abbrev pub durable_of : State → Durable
durable_of s = record { client = s.kept.client; main = main_of s; copies = away s.outbox.copies }

-- a session that is made again of it, without a connection
abbrev pub state_in : Durable → State
state_in d = record {
  kept = record { client = d.client; expiry = d.main.expiry; phase = phase_of d.main.closed; will = d.main.will };
  outbox = restored d.main.next_place d.copies;
  incoming = of_identifiers d.main.incoming;
  link = None;
  room = None;
}

abbrev pub tracked_in : Opened → Tracked
tracked_in o = record {
  state = record {
    kept = record { client = o.client; expiry = o.expiry; phase = phase_of o.closed; will = o.will };
    outbox = o.outgoing.box;
    incoming = o.incoming;
    link = None;
    room = None;
  };
  touched = o.outgoing.touched;
}

-- ---- a session, and what was told last of its rows
pub record Saved : Type 0 where
  pub tracked : Tracked
  pub told : Told

abbrev pub state_of : Option Saved → Option State
state_of None = None
state_of (Some s) = Some s.tracked.state

-- what a session has told once its rows are told
abbrev pub told_of : Durable → Told
told_of d = record { value = Some (main.bytes d.main); next_place = d.main.next_place }

-- one that has no rows yet, and one that was opened from its rows
abbrev pub begun_session : List ℕ → Saved
begun_session client = record { tracked = record { state = new_session client; touched = [] }; told = untold }

abbrev pub reopened : Durable → Saved
reopened d = record { tracked = record { state = state_in d; touched = [] }; told = told_of d }

-- a packet that leaves what the session's own row has as it is
abbrev pub is_single : Qos → Bool
is_single AtMostOnce = true
is_single AtLeastOnce = true
is_single ExactlyOnce = false

abbrev pub keeps_own_row : Packet → Bool
keeps_own_row (packets.Publish p) = is_single p.qos
keeps_own_row (packets.Subscribe p) = true
keeps_own_row (packets.Unsubscribe p) = true
keeps_own_row packets.Pingreq = true
keeps_own_row (packets.Puback a) = true
keeps_own_row (packets.Pubrec a) = true
keeps_own_row (packets.Pubcomp a) = true
keeps_own_row p = false

-- nothing is told by a call, and what changes of the copies is noted
pub record Notes (old new : Saved) : Type 0 where
  pub told : new.told ≡ old.told
  pub follows : Follows (watched old.tracked) (watched new.tracked)

abbrev pub NotesIf : Option Saved → Option Saved → Type 0
NotesIf (Some old) (Some new) = Notes old new
NotesIf old new = Unit {0}

-- ---- the changes since they were told last, after which all is told
pub record Tells (old : Saved) (changes : List Change) (new : Saved) : Type 0 where
  pub places : List ℕ
  pub listed : AreListed old.tracked.touched places
  pub named : map plain_of changes ≡ changes_of old.told old.tracked.state.kept.client (main_of old.tracked.state) old.tracked.state.outbox.copies places
  pub state : new.tracked ≡ record old.tracked { touched = [] }
  pub told : new.told ≡ told_of (durable_of old.tracked.state)

-- a fault of want of memory leaves the session spent
abbrev pub TellsIf : {A : Type 0} → Option Saved → Result (Vec Change A) SessionFault → Option Saved → Type 0
TellsIf None (Ok changes) new = ⊥
TellsIf None (Err e) new = (e ≡ Spent) × (new ≡ None)
TellsIf (Some old) (Ok changes) new = (after : Saved) × (new ≡ Some after) × Tells old changes.items after
TellsIf (Some old) (Err e) new = (e ≡ NoMemory) × (new ≡ None)

-- what was told last of its own row, as a change, unless its value was told
abbrev pub own_before : Bool → List ℕ → Option (List ℕ) → List PlainChange
own_before is_told client told = cond is_told [] ((main_key client, told) ∷ [])

-- what goes before the changes: where they name its own row, what was told last of that
abbrev pub told_before : Saved → List PlainChange
told_before s = own_before (is_told s.told.value (main.bytes (main_of s.tracked.state))) s.tracked.state.kept.client s.told.value

-- changes are appended, which are these
abbrev pub Appends : List PlainChange → List Change → List Change → Type 0
Appends these before after = (own : List Change) × (after ≡ before ++ own) × (map plain_of own ≡ these)

-- the rows of a session
abbrev pub ListsIf : {A : Type 0} → Option Saved → Result (Vec Row A) SessionFault → Type 0
ListsIf None (Ok rows) = ⊥
ListsIf None (Err e) = e ≡ Spent
ListsIf (Some s) (Ok rows) = map entry_of rows.items ≡ rows_of (durable_of s.tracked.state)
ListsIf (Some s) (Err e) = e ≡ NoMemory

-- a session that is opened from rows; BadRow where they aren't just those of a session
abbrev pub OpensFrom : List Row → Result (Option Saved) SessionFault → Type 0
OpensFrom rows (Ok s) = (d : Durable) × IsDurable d × (rows_of d ≡ map entry_of rows) × (s ≡ Some (reopened d))
OpensFrom rows (Err BadRow) = (d : Durable) → IsDurable d → rows_of d ≡ map entry_of rows → ⊥
OpensFrom rows (Err NoMemory) = Unit {0}
OpensFrom rows (Err NumbersAtEnd) = ⊥
OpensFrom rows (Err Spent) = ⊥

-- ---- how the code keeps it: its own row is known to be as it was told, unless it is stale
abbrev pub IsFresh : Bool → Tracked → Told → Type 0
IsFresh true t told = Unit {0}
IsFresh false t told = told.value ≡ Some (main.bytes (main_of t.state))

-- and whether it has one that was told
abbrev pub HasRow : Bool → Told → Type 0
HasRow has told = has ≡ is_some told.value
