-- Calls of a session, and between them tellings of the changes of its rows.
use Rattle.std.specs.Prelude.{◌≡◌, ℕ, List, [], ◌∷◌, ◌⊎◌, Option, Some, None, Ok}
use Rattle.mqtt_sessions.specs.Reaction.{Reaction}
use Rattle.mqtt_sessions.specs.Saved.{Saved, Notes, NotesIf, Tells, begun_session, durable_of, reopened, state_of}
use Rattle.row_store.specs.declared.row.Change.{Change}
use Rattle.mqtt_sessions.specs.Called.{Called}
use Rattle.law_sessions.specs.Runs.{Event, MayCome, Reacts, ends_of, step_of, wants_of}
use Rattle.session_rows.specs.Durable.{Durable, IsDurable}

-- a session, and what was told last of its rows, if anything was
pub record Point : Type 0 where
  pub session : Saved
  pub last : Option Durable

-- what the rows of a session say of it
abbrev pub durable_at : Point → Durable
durable_at p = durable_of p.session.tracked.state

-- a call with its reaction, or the changes that are told
pub data Move : Type 0 where
  calls : Event → Reaction → Move
  tells : List Change → Move

pub record Calls (old : Point) (e : Event) (r : Reaction) (new : Point) : Type 0 where
  pub reacts : Reacts old.session.tracked.state e r new.session.tracked.state
  pub notes : Notes old.session new.session
  pub last : new.last ≡ old.last

pub record TellsAt (old : Point) (changes : List Change) (new : Point) : Type 0 where
  pub tells : Tells old.session changes new.session
  pub last : new.last ≡ Some (durable_at old)

abbrev pub Moves : Point → Move → Point → Type 0
Moves old (calls e r) new = Calls old e r new
Moves old (tells changes) new = TellsAt old changes new

-- moves one after the other
abbrev pub History : Point → List Move → Point → Type 0
History old [] new = new ≡ old
History old (m ∷ ms) new = (mid : Point) × Moves old m mid × History mid ms new

-- a new session, of which nothing was told, and one that was opened from its rows, as they were told
abbrev pub begun : List ℕ → Point
begun client = record { session = begun_session client; last = None }

abbrev pub opened_point : Durable → Point
opened_point d = record { session = reopened d; last = Some d }

abbrev pub Begins : Point → Type 0
Begins p = ((client : List ℕ) × (p ≡ begun client)) ⊎ ((d : Durable) × IsDurable d × (p ≡ opened_point d))

-- a call that answers, as its contract says, is a move
abbrev pub CallsAreMoves : Type 0
CallsAreMoves = (e : Event) (r : Reaction) (old new : Saved) (last : Option Durable) → MayCome e old.tracked.state
    → Called (step_of e) (wants_of e) (ends_of e) (state_of (Some old)) (Ok r) (state_of (Some new)) → NotesIf (Some old) (Some new)
    → Moves (record { session = old; last = last }) (calls e r) (record { session = new; last = last })
