-- What is done to a node's sessions.
use Rattle.std.specs.Prelude.{◌≡◌, ℕ, ◌==◌, ◌^◌, ◌-◌, ◌+◌, min, cond, Bool, true, false, is_some, List, [], ◌∷◌, ◌++◌, map as map_list, Option, Some, None, option_and_then}
use Rattle.std.specs.FinMap as map
use Rattle.mqtt_packets.specs.declared.packet.Packet.{Packet as Packets}
use Rattle.mqtt_packets.specs.Written.{written}
use Rattle.mqtt_sessions.specs.declared.reaction.Output.{Output as Packet}
use Rattle.mqtt_sessions.specs.Aliases.{Aliases}
use Rattle.mqtt_sessions.specs.Answers.{disconnect, fits}
use Rattle.mqtt_sessions.specs.Ending.{will_due, end_due, is_due}
use Rattle.mqtt_sessions.specs.Reaction.{Reaction, packet_of}
use Rattle.mqtt_sessions.specs.State.{State, aliases_of, limit_of}
use Rattle.law_sessions.specs.Runs.{Event, connects, queues, rooms, takes, answers, closes, ticks, finishes, loses, Reacts}
use Rattle.session_table.specs.Seats.{Seat, begun}
use Rattle.node_work.specs.declared.counts.Counts.{Counts}
use Rattle.node_work.specs.declared.outcome.Output.{Output}
use Rattle.node_work.specs.declared.outcome.Output.TheVariants.{Send}
use Rattle.node_work.specs.View.{HeldView}

-- a call of a client's session at a moment: what it was, its reaction, what the session is afterwards, and the connection that
-- it is on from then, to which its packets go
pub record SessionStep : Type 0 where
  pub client : List ℕ
  pub on : Option ℕ
  pub at : ℕ
  pub event : Event
  pub reaction : Reaction
  pub after : State

-- a session begins, is called, or is over
pub data SessionAct : Type 0 where
  Begun : (client : List ℕ) → SessionAct
  Called : (step : SessionStep) → SessionAct
  Over : (client : List ℕ) → SessionAct

-- ---- counts, which stay at their greatest value
abbrev pub more : ℕ → ℕ → ℕ
more k n = min (n + k) (2 ^ 64 - 1)

abbrev pub counted : Bool → Counts → Counts
counted full counts = cond full (record counts { queue_full = more 1 counts.queue_full }) counts

-- ---- the connection that a session is on after an event
abbrev pub IsOn : Event → Option ℕ → Option ℕ → Type 0
IsOn (connects p continued room now) before on = is_some on ≡ true
IsOn (queues d now) before on = on ≡ before
IsOn (rooms bytes now) before on = on ≡ before
IsOn (takes p now room) before on = on ≡ before
IsOn (answers id codes) before on = on ≡ before
IsOn (closes now) before on = on ≡ None
IsOn (ticks now) before on = on ≡ before
IsOn (finishes now) before on = on ≡ before
IsOn loses before on = ⊥

-- an event is at a moment
abbrev pub HappensAt : ℕ → Event → Type 0
HappensAt at (connects p continued room now) = now ≡ at
HappensAt at (queues d now) = now ≡ at
HappensAt at (rooms bytes now) = now ≡ at
HappensAt at (takes p now room) = now ≡ at
HappensAt at (answers id codes) = Unit {0}
HappensAt at (closes now) = now ≡ at
HappensAt at (ticks now) = now ≡ at
HappensAt at (finishes now) = now ≡ at
HappensAt at loses = ⊥

-- a call is a step of the client's session
pub record IsCall (h : HeldView) (s : SessionStep) : Type 0 where
  pub seat : Seat
  pub found : map.get h.sessions s.client ≡ Some seat
  pub on : IsOn s.event seat.connection s.on
  pub at : s.at ≡ h.at
  pub moment : HappensAt h.at s.event
  pub reacts : Reacts seat.session s.event s.reaction s.after

-- where each may stand
abbrev pub MayCall : HeldView → SessionAct → Type 0
MayCall h (Begun client) = map.get h.sessions client ≡ None
MayCall h (Called s) = IsCall h s
MayCall h (Over client) = Unit {0}

-- what it leaves
abbrev pub called : HeldView → SessionAct → HeldView
called h (Begun client) = record h { sessions = map.insert h.sessions client (begun client) }
called h (Called s) = record h { sessions = map.insert h.sessions s.client (record { session = s.after; connection = s.on }); counts = counted s.reaction.full h.counts }
called h (Over client) = record h { sessions = map.remove h.sessions client }

-- ---- what goes to the client: the packets, and where the connection ends with a code, a DISCONNECT
abbrev pub end_outputs : ℕ → Option ℕ → List Output
end_outputs c None = []
end_outputs c (Some code) = cond (code == 0) [] (Send c (written (disconnect code)) ∷ [])

abbrev pub packet_output : ℕ → ℕ → Packet → Output
packet_output c at p = Send c (written (packet_of at p))

abbrev pub outputs_on : Option ℕ → ℕ → Reaction → List Output
outputs_on None at r = []
outputs_on (Some c) at r = map_list (packet_output c at) r.packets ++ end_outputs c r.end

abbrev pub session_outputs : SessionAct → List Output
session_outputs (Begun client) = []
session_outputs (Called s) = outputs_on s.on s.at s.reaction
session_outputs (Over client) = []

-- ---- what is seen of a session
abbrev pub seat_at : List ℕ → HeldView → Option Seat
seat_at client h = map.get h.sessions client

abbrev pub has_session : List ℕ → HeldView → Bool
has_session client h = is_some (seat_at client h)

-- the aliases of its connection
abbrev pub aliases_in : Option Seat → Aliases
aliases_in None = []
aliases_in (Some seat) = aliases_of seat.session.link

abbrev pub aliases_at : List ℕ → HeldView → Aliases
aliases_at client h = aliases_in (seat_at client h)

-- the connection that it is on
abbrev pub connection_at : List ℕ → HeldView → Option ℕ
connection_at client h = option_and_then (λ s. s.connection) (seat_at client h)

-- a packet isn't longer than the client takes
abbrev pub fits_in : Option ℕ → Packets → Bool
fits_in None packet = false
fits_in (Some limit) packet = fits limit packet

abbrev pub takes_packet : List ℕ → Packets → HeldView → Bool
takes_packet client packet h = fits_in (option_and_then (λ s. limit_of s.session.link) (seat_at client h)) packet

-- nor is a DISCONNECT with the code
abbrev pub takes_disconnect : List ℕ → ℕ → HeldView → Bool
takes_disconnect client code h = takes_packet client (disconnect code) h

-- its will, and its end, is due
abbrev pub will_is_due : List ℕ → HeldView → Bool
will_is_due client h = is_due (option_and_then (λ s. will_due s.session.kept) (seat_at client h)) h.at

abbrev pub end_is_due : List ℕ → HeldView → Bool
end_is_due client h = is_due (option_and_then (λ s. end_due s.session.kept) (seat_at client h)) h.at
