-- Sessions in the order of their clients, and their rows.
use Rattle.std.specs.Prelude.{◌≡◌, ◌≢◌, ℕ, cond, List, [], ◌∷◌, ◌++◌, Option, Some, None, option_map}
use Rattle.std.specs.Cmp.Lexicographic.{slice_cmp}
use Rattle.std.specs.FinMap as map
use Rattle.std.specs.List.{AllByRecursion}
use Rattle.std.specs.Ordering.{eq_by_cmp, nat_cmp}
use Rattle.mqtt_sessions.specs.Saved.{Saved, reopened, state_in}
use Rattle.row_store.specs.Rows.{Key, Plain}
use Rattle.session_rows.specs.Durable.{Durable, IsDurable}
use Rattle.session_rows.specs.Fields.{main}
use Rattle.session_rows.specs.Rows.{main_key, copy_rows, rows_of}
use Rattle.session_table.specs.Seats.{Seat, Seats}

-- the own row of each session
abbrev pub own_row : Durable → Plain
own_row d = (main_key d.client, main.bytes d.main)

abbrev pub own_rows : List Durable → List Plain
own_rows [] = []
own_rows (d ∷ ds) = own_row d ∷ own_rows ds

-- the rows of the copies of each
abbrev pub all_copies : List Durable → List Plain
all_copies [] = []
all_copies (d ∷ ds) = copy_rows d.client d.copies ++ all_copies ds

-- the rows are those of the sessions
pub record AreSessions (own copies : List Plain) (ds : List Durable) : Type 0 where
  pub durable : AllByRecursion IsDurable ds
  pub own_are : own_rows ds ≡ own
  pub copies_are : all_copies ds ≡ copies

-- the first session of a client
abbrev pub session_at : List Durable → List ℕ → Option Durable
session_at [] client = None
session_at (d ∷ ds) client = cond (eq_by_cmp (slice_cmp nat_cmp) client d.client) (Some d) (session_at ds client)

-- ---- what is made of them
-- a session that is made again, on no connection
abbrev pub opened_seat : Durable → Seat
opened_seat d = record { session = state_in d; connection = None }

abbrev pub AreSeated : Seats → List Durable → Type 0
AreSeated seats ds = (client : List ℕ) → map.get seats client ≡ option_map opened_seat (session_at ds client)

abbrev pub AreRead : List Plain → List Plain → Seats → Type 0
AreRead own copies seats = (ds : List Durable) × AreSessions own copies ds × AreSeated seats ds

-- they are those of no sessions
abbrev pub NoSessions : List Plain → List Plain → Type 0
NoSessions own copies = (ds : List Durable) → AreSessions own copies ds → ⊥

-- ---- one session
-- a client and its session, of which these are the rows
abbrev pub IsReopened : List Plain → List ℕ → Option Saved → Type 0
IsReopened rows client session = (d : Durable) × IsDurable d × (rows_of d ≡ rows) × (client ≡ d.client) × (session ≡ Some (reopened d))

-- they are those of no session
abbrev pub NoSession : List Plain → Type 0
NoSession rows = (d : Durable) → IsDurable d → rows_of d ≡ rows → ⊥

-- a row of a client
abbrev pub IsOf : List ℕ → Plain → Type 0
IsOf client e = e.0.1.0 ≡ client

-- the first row, if there is one, is of another client
abbrev pub StartsApart : List ℕ → List Plain → Type 0
StartsApart client [] = Unit {0}
StartsApart client (e ∷ es) = e.0.1.0 ≢ client
