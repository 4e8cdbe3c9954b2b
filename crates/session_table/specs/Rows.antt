-- The rows of the sessions of a node, and changes that lead from those before a call to those after it.
use Rattle.std.specs.Prelude.{◌≡◌, ℕ, ◌==◌, ◌||◌, Bool, true, List, ◌++◌, map as map_list, Option, Some, None}
use Rattle.std.specs.FinMap as map
use Rattle.std.specs.List.{AllByRecursion}
use Rattle.mqtt_fields.specs.Numbers.{IsText}
use Rattle.mqtt_sessions.specs.Reaction.{Reaction}
use Rattle.mqtt_sessions.specs.Removed.{Removes, removed_before}
use Rattle.mqtt_sessions.specs.Saved.{Saved, Notes, Tells, begun_session, durable_of, told_before}
use Rattle.mqtt_sessions.specs.State.{State}
use Rattle.row_store.specs.Leading.{Rows, Begin, Lead, LeadWithin, OthersDiffer, key_in}
use Rattle.row_store.specs.declared.row.Change.{Change}
use Rattle.row_store.specs.Rows.{key_cmp}
use Rattle.law_sessions.specs.Histories.{Point, Move, History}
use Rattle.law_sessions.specs.Sound.{BeginsSound, IsSoundEvent, IsSoundMove}
use Rattle.law_sessions.specs.Runs.{Event, Reacts}
use Rattle.session_rows.specs.Changes.{plain_of}
use Rattle.session_rows.specs.Durable.{IsDurable}
use Rattle.session_rows.specs.Rows.{rows_of}
use Rattle.session_table.specs.Seats.{Seat, Seats}

-- ---- rows of all sessions
abbrev pub rows_for : State → Rows
rows_for s key = map.get {R = key_cmp} (map.from_entries (rows_of (durable_of s))) key

-- of a client, if it has a session
abbrev pub row_in : Option Seat → Rows
row_in None key = None
row_in (Some seat) key = rows_for seat.session key

-- each key names its client
abbrev pub seat_row : Seats → Rows
seat_row seats key = row_in (map.get seats key.1.0) key

-- a session's own row, and those of its copies
abbrev pub is_session_kind : ℕ → Bool
is_session_kind n = n == 2 || n == 3

-- the former alone
abbrev pub own_kind : ℕ
own_kind = 2

-- changes are appended that lead from the rows before to those after; those of a session's own row begin with what was there, and
-- each other row that is named differs
abbrev pub LeadsOn : Seats → List Change → List Change → Seats → Type 0
LeadsOn old before after new = (own : List Change) × (after ≡ before ++ own) × LeadWithin is_session_kind (seat_row old) (seat_row new) own × Begin own_kind (seat_row old) own × OthersDiffer own_kind (seat_row old) (seat_row new) own

-- ---- one session
-- all its rows were told
abbrev pub told_point : Saved → Point
told_point s = record { session = s; last = Some (durable_of s.tracked.state) }

-- as calls and tellings have led to it, from its making on or from its rows on; each call came with what is demanded of it
pub record IsTold (client : List ℕ) (s : Saved) : Type 0 where
  pub start : Point
  pub moves : List Move
  pub begins : BeginsSound start
  pub sound : AllByRecursion IsSoundMove moves
  pub history : History start moves (told_point s)
  pub owner : s.tracked.state.kept.client ≡ client

abbrev pub IsAllTold : List ℕ → Option Saved → Type 0
IsAllTold client None = ⊥
IsAllTold client (Some s) = IsTold client s

-- its rows, if it isn't spent
abbrev pub saved_row : Option Saved → Rows
saved_row None key = None
saved_row (Some s) key = rows_for s.tracked.state key

abbrev pub no_row : Rows
no_row key = None

-- what was told last of its own row, where that is named, and then the changes since they were told last are appended
abbrev pub TellsOn : Option Saved → List Change → List Change → Option Saved → Type 0
TellsOn (Some old) before after (Some new) = (first : List Change) × (own : List Change) × (after ≡ before ++ (first ++ own)) × (map_list plain_of first ≡ told_before old) × Tells old own new
TellsOn old before after new = ⊥

-- the change is of a row of the client's session
pub record IsOf (client : List ℕ) (change : Change) : Type 0 where
  pub kind : is_session_kind (key_in change).0 ≡ true
  pub owner : (key_in change).1.0 ≡ client

pub record OwnLead (client : List ℕ) (old new : Rows) (changes : List Change) : Type 0 where
  pub own : AllByRecursion (IsOf client) changes
  pub lead : Lead old new changes
  pub begins : Begin own_kind old changes
  pub differ : OthersDiffer own_kind old new changes

-- the same of changes that are appended
abbrev pub OwnLeadsOn : List ℕ → Rows → List Change → List Change → Rows → Type 0
OwnLeadsOn client old before after new = (own : List Change) × (after ≡ before ++ own) × OwnLead client old new own

-- after which all is told again
pub record TellsAgain (client : List ℕ) (old : Option Saved) (before after : List Change) (new : Option Saved) : Type 0 where
  pub told : IsAllTold client new
  pub leads : OwnLeadsOn client (saved_row old) before after (saved_row new)

-- ---- laws of one session: a call and then a telling, the first telling of a new one, and the removals
abbrev pub CallTells : Type 0
CallTells = (client : List ℕ) (e : Event) (r : Reaction) (old mid : Saved) (first own : List Change) (new : Saved) → IsSoundEvent e → IsTold client old → Reacts old.tracked.state e r mid.tracked.state → Notes old mid → map_list plain_of first ≡ told_before mid
    → Tells mid own new → IsTold client new × OwnLead client (rows_for old.tracked.state) (rows_for new.tracked.state) (first ++ own)

abbrev pub BeginTells : Type 0
BeginTells = (client : List ℕ) (first own : List Change) (new : Saved) → IsText client → map_list plain_of first ≡ told_before (begun_session client) → Tells (begun_session client) own new
    → IsTold client new × OwnLead client no_row (rows_for new.tracked.state) (first ++ own)

abbrev pub RemovalLeaves : Type 0
RemovalLeaves = (client : List ℕ) (s : Saved) (first own : List Change) → IsTold client s → map_list plain_of first ≡ removed_before s → Removes s own → OwnLead client (rows_for s.tracked.state) no_row (first ++ own)

-- ---- all sessions
-- what outlives the connections of each has rows that open it again, under its client
abbrev pub AllDurable : Seats → Type 0
AllDurable seats = (client : List ℕ) (seat : Seat) → map.get seats client ≡ Some seat → IsDurable (durable_of seat.session) × ((durable_of seat.session).client ≡ client)
