-- The calls of each session of a node, and its losses, read off the node's moves.
use Rattle.std.specs.Prelude.{◌≡◌, ℕ, Bool, cond, List, [], ◌∷◌, ◌++◌, Some}
use Rattle.std.specs.Cmp.Lexicographic.{slice_cmp}
use Rattle.std.specs.FinMap as map
use Rattle.std.specs.Ordering.{eq_by_cmp, nat_cmp}
use Rattle.home_table.specs.Table.{Table}
use Rattle.mqtt_sessions.specs.Reaction.{nothing}
use Rattle.mqtt_sessions.specs.State.{new_session}
use Rattle.law_sessions.specs.Runs.{Step, Run, loses}
use Rattle.session_table.specs.Seats.{Seat}
use Rattle.node_work.specs.Acts.{Act, Session}
use Rattle.node_work.specs.Held.Sessions.{SessionAct, SessionStep, Begun, Called, Over}
use Rattle.node_work.specs.View.{Place, HeldView, fresh}
use Rattle.law_nodes.specs.Moves.{Move, Acted, Reopened, Moves}

-- clients are told apart by the bytes of their identifiers
abbrev pub is_client : List ℕ → List ℕ → Bool
is_client client other = eq_by_cmp (slice_cmp nat_cmp) client other

-- a call is an event of its session, with the reaction
abbrev pub step_in : SessionStep → Step
step_in s = record { event = s.event; reaction = s.reaction }

-- the calls of a client's session after an act, which go on from those given; a session that begins or is over has none
abbrev pub after_call : List ℕ → SessionAct → List Step → List Step
after_call client (Begun other) given = cond (is_client client other) [] given
after_call client (Called s) given = cond (is_client client s.client) (given ++ step_in s ∷ []) given
after_call client (Over other) given = cond (is_client client other) [] given

abbrev pub after_act : List ℕ → Act → List Step → List Step
after_act client (Session a) given = after_call client a given
after_act client a given = given

-- a session that a node holds again after a loss is made of what was kept: it did nothing (MQTT 5.0, 4.1)
abbrev pub lost_step : Step
lost_step = record { event = loses; reaction = nothing }

abbrev pub after_move : List ℕ → Move → List Step → List Step
after_move client (Acted a) given = after_act client a given
after_move client (Reopened homes) given = given ++ lost_step ∷ []

-- the calls and losses of the client's session since it last began, in order
abbrev pub life : List ℕ → List Move → List Step → List Step
life client [] given = given
life client (m ∷ moves) given = life client moves (after_move client m given)

-- each session is what its calls make of a new one
abbrev pub IsLived : (List ℕ → List Step) → HeldView → Type 0
IsLived lives h = (client : List ℕ) (seat : Seat) → map.get h.sessions client ≡ Some seat → Run (new_session client) (lives client) seat.session

abbrev pub MovesAreLives : Type 0
MovesAreLives = (p : Place) (h h' : HeldView) (moves : List Move) (lives : List ℕ → List Step) → Moves p h moves h' → IsLived lives h → IsLived (λ client. life client moves (lives client)) h'

abbrev pub FreshIsLived : Type 0
FreshIsLived = (homes : Table) → IsLived (λ client. []) (fresh homes)

abbrev pub SessionsOfMovesAreRuns : Type 0
SessionsOfMovesAreRuns =
    (p : Place) (homes : Table) (h : HeldView) (moves : List Move) → Moves p (fresh homes) moves h → (client : List ℕ) (seat : Seat) → map.get h.sessions client ≡ Some seat
    → Run (new_session client) (life client moves []) seat.session
