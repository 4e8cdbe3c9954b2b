-- How the code keeps the table: seats with the moments at which they are listed, and the lists.
use Rattle.std.specs.Prelude.{◌≡◌, ℕ, Bool, false, List, [], map as map_list, Option, Some, None, unwrap_or}
use Rattle.std.specs.Cmp.Lexicographic.{slice_cmp}
use Rattle.std.specs.FinMap.{FinMap}
use Rattle.std.specs.FinMap as map
use Rattle.std.specs.List.{filter}
use Rattle.std.specs.Ordering.{nat_cmp, eq_by_cmp}
use Rattle.std.specs.declared.cmp.Ordering.{Ordering}
use Rattle.session_table.specs.Dues.{Due, Dues}
use Rattle.mqtt_sessions.specs.Ending.{end_due, in_time, is_connected, runs_out_at, will_due}
use Rattle.mqtt_sessions.specs.Saved.{Saved, state_of}
use Rattle.mqtt_sessions.specs.State.{State, new_session}
use Rattle.session_table.specs.Rows.{IsAllTold}
use Rattle.session_table.specs.Seats.{Seat, Seats, at_number}
use Rattle.session_table.specs.declared.moments.Moments.{Moments}
use Rattle.session_table.specs.declared.seated.Seated.{Seated}
use Rattle.session_table.specs.declared.listing.Listing.{Listing}

abbrev pub text_cmp : List ℕ → List ℕ → Ordering
text_cmp = slice_cmp nat_cmp

-- ---- seats as the code keeps them
abbrev pub seat_of : Seated → Seat
seat_of x = record { session = unwrap_or (state_of x.session) (new_session []); connection = x.connection }

abbrev pub Table : Type 0
Table = FinMap text_cmp Seated

abbrev pub table : List (List ℕ × Seated) → Table
table es = map.from_entries es

abbrev pub seats_in : Table → Seats
seats_in t = map.from_entries (map_list (λ e. (e.0, seat_of e.1)) (map.entries t))

-- ---- moments
-- when the Keep Alive of a client that is on a connection runs out
abbrev pub run_out_in : State → Option ℕ → Option ℕ
run_out_in s None = None
run_out_in s (Some n) = in_time (runs_out_at s.link)

abbrev pub moments_of : State → Option ℕ → Moments
moments_of s connection = record { run_out = run_out_in s connection; will = will_due s.kept; end = end_due s.kept }

abbrev pub no_moments : Moments
no_moments = record { run_out = None; will = None; end = None }

-- whether it is this moment
abbrev pub is_moment : Option ℕ → ℕ → Bool
is_moment None at = false
is_moment (Some n) at = eq_by_cmp nat_cmp at n

-- ---- one client in the lists
-- the list has the client at exactly this moment
abbrev pub IsAt : Dues → List ℕ → Option ℕ → Type 0
IsAt dues client moment = (at : ℕ) → map.contains_key dues (at, client) ≡ is_moment moment at

-- each other client is where it was
abbrev pub KeepsOthers : List ℕ → Dues → Dues → Type 0
KeepsOthers client old new = (d : Due) → eq_by_cmp text_cmp d.1 client ≡ false → map.contains_key new d ≡ map.contains_key old d

pub record IsListedAt (l : Listing) (client : List ℕ) (m : Moments) : Type 0 where
  pub run_out : IsAt l.run_outs client m.run_out
  pub will : IsAt l.wills client m.will
  pub end : IsAt l.ends client m.end

pub record Relists (client : List ℕ) (old new : Listing) : Type 0 where
  pub run_outs : KeepsOthers client old.run_outs new.run_outs
  pub wills : KeepsOthers client old.wills new.wills
  pub ends : KeepsOthers client old.ends new.ends

-- ---- all of them
abbrev pub listed_in : Option Seated → Moments
listed_in None = no_moments
listed_in (Some x) = x.listed

-- each client is listed as its seat says, and a client without one isn't
abbrev pub IsListed : Table → Listing → Type 0
IsListed t l = (client : List ℕ) → IsListedAt l client (listed_in (map.get t client))

-- each seat knows its client
abbrev pub IsKeyed : Table → Type 0
IsKeyed t = (client : List ℕ) (x : Seated) → map.get t client ≡ Some x → x.key.1 ≡ client

-- the session isn't spent, and is listed at its moments
abbrev pub Runs : Seated → Type 0
Runs x = (s : State) × (state_of x.session ≡ Some s) × (x.listed ≡ moments_of s x.connection)

abbrev pub AllRun : Table → Type 0
AllRun t = (client : List ℕ) (x : Seated) → map.get t client ≡ Some x → Runs x

-- its rows were told as they are
abbrev pub AllTold : Table → Type 0
AllTold t = (client : List ℕ) (x : Seated) → map.get t client ≡ Some x → IsAllTold client x.session

pub record IsKept (t : Table) (l : Listing) : Type 0 where
  pub listed : IsListed t l
  pub keyed : IsKeyed t
  pub run : AllRun t
  pub told : AllTold t

-- what is left after a fault: the client's session may be spent, and it is listed as its seat says
pub record IsBroken (client : List ℕ) (old new : Table) (l : Listing) : Type 0 where
  pub listed : IsListed new l
  pub keyed : IsKeyed new
  pub others : (q : List ℕ) → eq_by_cmp text_cmp q client ≡ false → map.get new q ≡ map.get old q

-- ---- answers
abbrev pub session_in : Option Seated → Option (Option Saved)
session_in None = None
session_in (Some x) = Some x.session

abbrev pub connection_in : Option Seated → Option ℕ
connection_in None = None
connection_in (Some x) = x.connection

-- the client at the connection that it is on
abbrev pub on_connection : Table → Due → List Due
on_connection t d = at_number (connection_in (map.get t d.1)) d.1

abbrev pub was_connected : Seated → Bool
was_connected x = is_connected (seat_of x).session.kept.phase

abbrev pub connected_of : List (List ℕ × Seated) → List (List ℕ)
connected_of es = map_list (λ e. e.0) (filter (λ e. was_connected e.1) es)
