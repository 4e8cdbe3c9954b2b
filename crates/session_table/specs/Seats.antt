-- The sessions of a node, each with the connection that its client is on.
use Rattle.std.specs.Prelude.{ℕ, cond, List, [], ◌∷◌, Option, Some, None, nat_le, flat_map, map as map_list, refl, unwrap_or}
use Rattle.std.specs.List.{filter}
use Rattle.std.specs.Coded.{Coded, code_by, coded×, coded_list, coded_option, coded_ℕ}
use Rattle.std.specs.Cmp.Lexicographic.{slice_cmp}
use Rattle.std.specs.FinMap.{FinMap}
use Rattle.std.specs.FinMap as map
use Rattle.std.specs.Ordering.{nat_cmp}
use Rattle.session_table.specs.Dues.{Due, in_order}
use Rattle.filter_trie.specs.Selected.{IsSelected}
use Rattle.home_table.specs.Homes.{IsHome}
use Rattle.home_table.specs.Table.{Table}
use Rattle.mqtt_sessions.specs.Ending.{end_due, has_run_out, is_connected, will_due}
use Rattle.mqtt_sessions.specs.Saved.{Saved, state_of}
use Rattle.mqtt_sessions.specs.State.{State, new_session}
use Rattle.mqtt_sessions.specs.contracts.session.Session.{the_row as the_session}
use Rattle.session_rows.specs.Changes.{untold}

-- a session, and the number of the connection that its client is on
pub record Seat : Type 0 where
  pub session : State
  pub connection : Option ℕ

-- by client
abbrev pub Seats : Type 0
Seats = FinMap {K = List ℕ} (slice_cmp nat_cmp) Seat

-- a session that has told nothing, by which seats are told apart
abbrev pub untold_session : State → Saved
untold_session s = record { tracked = record { state = s; touched = [] }; told = untold }

abbrev pub coded_seat : Coded Seat
coded_seat =
    code_by (Option Saved × Option ℕ) (coded× the_session.coded (coded_option coded_ℕ)) (λ s. (Some (untold_session s.session), s.connection))
    (λ p. record { session = unwrap_or (state_of p.0) (new_session []); connection = p.1 }) (λ _. refl)

abbrev pub coded_seats : Coded Seats
coded_seats = map.code (coded_list coded_ℕ) coded_seat

abbrev pub begun : List ℕ → Seat
begun client = record { session = new_session client; connection = None }

-- ---- what is due
-- the client, at a number if there is one
abbrev pub at_number : Option ℕ → List ℕ → List Due
at_number None client = []
at_number (Some n) client = (n, client) ∷ []

-- the clients whose seats have a number, by it and then by their bytes
abbrev pub by_number : (Seat → Option ℕ) → Seats → List Due
by_number number seats = in_order (flat_map (λ e. at_number (number e.1) e.0) (map.entries seats))

-- a moment, where it has come
abbrev pub come : ℕ → Option ℕ → Option ℕ
come now None = None
come now (Some at) = cond (nat_le at now) (Some at) None

-- connections whose Keep Alive has run out, rising, each with its client
abbrev pub run_outs : Seats → ℕ → List Due
run_outs seats now = by_number (λ s. cond (has_run_out s.session.link now) s.connection None) seats

-- wills that are due, by the moment and then by the client's bytes
abbrev pub wills_due : Seats → ℕ → List Due
wills_due seats now = by_number (λ s. come now (will_due s.session.kept)) seats

-- sessions whose end has come, by that moment and then by the client's bytes
abbrev pub ends_due : Seats → ℕ → List Due
ends_due seats now = by_number (λ s. come now (end_due s.session.kept)) seats

-- ---- at a node's start
-- clients whose session was connected, by their bytes
abbrev pub connected : Seats → List (List ℕ)
connected seats = map_list (λ e. e.0) (filter (λ e. is_connected e.1.session.kept.phase) (map.entries seats))

-- ---- by a table of homes
-- a client's home is at another node than this
abbrev pub IsElsewhere : Table → ℕ → List ℕ → Type 0
IsElsewhere homes node client = ¬ (IsHome homes client node)

-- the clients whose home is, by their bytes
abbrev pub AreElsewhere : Table → ℕ → Seats → List (List ℕ) → Type 0
AreElsewhere homes node seats away = IsSelected (IsElsewhere homes node) (map_list (λ e. e.0) (map.entries seats)) away
