-- What a call of a session comes to at a node.
use Rattle.std.specs.Prelude.{◌≡◌, ◌≢◌, ◌≤◌, ℕ, Bool, List, [], ◌++◌, Option, Some, None, option_and_then, Result, Ok, Err}
use Rattle.std.specs.FinMap as map
use Rattle.mqtt_sessions.specs.declared.fault.SessionFault.{SessionFault}
use Rattle.mqtt_sessions.specs.declared.fault.SessionFault.TheVariants as session_faults
use Rattle.mqtt_sessions.specs.Reaction.{Reaction, nothing}
use Rattle.law_sessions.specs.Runs.{Event}
use Rattle.session_table.specs.Calls.{IsCalled, MayConnectAt}
use Rattle.session_table.specs.Seats.{Seats}
use Rattle.session_table.specs.declared.call.Addressed.{Addressed}
use Rattle.node_work.specs.declared.fault.NodeFault.{NodeFault}
use Rattle.node_work.specs.declared.fault.NodeFault.TheVariants.{NoMemory, NumbersAtEnd}
use Rattle.node_work.specs.Held.Sessions.{counted, outputs_on}
use Rattle.node_work.specs.View.{HeldView, WorkView}

abbrev pub IsHeldCall : List ℕ → Event → (Option ℕ → Option ℕ) → HeldView → Result (Option Reaction) SessionFault → HeldView → Type 0
IsHeldCall client event on h result h' = (s : Seats) × IsCalled client event on h.sessions result s × (h' ≡ record h { sessions = s })

-- the client's session is continued, or new
abbrev pub MayConnectHere : List ℕ → Bool → Seats → Type 0
MayConnectHere client continued seats = MayConnectAt continued (map.get seats client)

-- a packet identifier, and a code or more (MQTT 5.0, 2.2.1, 3.8.3 and 3.10.3)
abbrev pub MayAnswer : ℕ → List ℕ → Type 0
MayAnswer id codes = (1 ≤ id) × (codes ≢ [])

-- the connection that a call's reaction goes to
abbrev pub connection_of : Result (Option Addressed) SessionFault → Option ℕ
connection_of (Ok given) = option_and_then (λ x. x.to) given
connection_of (Err fault) = None

-- ---- what comes of it: its packets are sent, and a copy that a full queue left out is counted
abbrev pub fault_of : SessionFault → NodeFault
fault_of session_faults.NoMemory = NoMemory
fault_of session_faults.NumbersAtEnd = NumbersAtEnd
fault_of session_faults.Spent = NoMemory
fault_of session_faults.BadRow = NoMemory

abbrev pub reacted : Option ℕ → Reaction → WorkView → WorkView
reacted on r w = record w { held = record w.held { counts = counted r.full w.held.counts }; outputs = w.outputs ++ outputs_on on w.held.at r }

abbrev pub ReactedBy : Option ℕ → Option Reaction → Result Reaction NodeFault → WorkView → WorkView → Type 0
ReactedBy on None (Ok x) w w' = (x ≡ nothing) × (w' ≡ w)
ReactedBy on (Some r) (Ok x) w w' = (x ≡ r) × (w' ≡ reacted on r w)
ReactedBy on found (Err fault) w w' = fault ≡ NoMemory

abbrev pub Reacted : Option ℕ → Result (Option Reaction) SessionFault → Result Reaction NodeFault → WorkView → WorkView → Type 0
Reacted on (Ok found) result w w' = ReactedBy on found result w w'
Reacted on (Err fault) result w w' = (result ≡ Err (fault_of fault)) × (w' ≡ w)
