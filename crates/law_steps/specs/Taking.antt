-- What comes of bytes on the connection of a client: the packets that they make whole, in order, and then their fault (MQTT 5.0, 2.1, 3.14 and
-- 4.13).
use Rattle.std.specs.Prelude.{◌≡◌, ℕ, Bool, true, false, cond, List, [], ◌∷◌, ◌++◌, Option, Some, None}
use Rattle.std.specs.FinMap as map
use Rattle.mqtt_packets.specs.declared.fault.PacketFault.{PacketFault}
use Rattle.mqtt_packets.specs.declared.packet.Packet.{Packet}
use Rattle.mqtt_packets.specs.Written.{written}
use Rattle.mqtt_sessions.specs.Answers.{disconnect}
use Rattle.law_sessions.specs.Runs.{Event, takes}
use Rattle.session_table.specs.Seats.{Seat}
use Rattle.node_work.specs.declared.outcome.Output.TheVariants.{Send, Close}
use Rattle.node_work.specs.Acts.{Act, Connection, Session, Out, Runs, gather}
use Rattle.node_work.specs.Held.Connections.{Closed, Fed, client_at, is_open}
use Rattle.node_work.specs.Held.Feeding.{cut_of}
use Rattle.node_work.specs.Held.Sessions.{SessionAct, SessionStep, Called, takes_disconnect}
use Rattle.node_work.specs.View.{Place, HeldView, ConnectionView}
use Rattle.node_clients.specs.Pieces.{disconnect_code}
use Rattle.broker_node.specs.declared.event.Event.{Event as NodeEvent}
use Rattle.broker_node.specs.declared.event.EventKind.TheVariants as kinds
use Rattle.broker_node.specs.Turns.{Decides}
use Rattle.law_steps.specs.Due.{DueFirst}

-- the packets that calls of sessions take, each with the session's client
abbrev pub taken_by : List ℕ → Event → List (List ℕ × Packet)
taken_by client (takes k now room) = (client, k) ∷ []
taken_by client e = []

abbrev pub taken_of : SessionAct → List (List ℕ × Packet)
taken_of (Called s) = taken_by s.client s.event
taken_of a = []

abbrev pub taken_in : Act → List (List ℕ × Packet)
taken_in (Session a) = taken_of a
taken_in a = []

abbrev pub TakeNothing : List Act → Type 0
TakeNothing acts = gather taken_in acts ≡ []

-- a connection that has a client, whose session is on it
pub record IsServed (h : HeldView) (c : ℕ) (client : List ℕ) : Type 0 where
  pub has : client_at c h ≡ Some client
  pub seat : Seat
  pub found : map.get h.sessions client ≡ Some seat
  pub on : seat.connection ≡ Some c

-- a call of the client's session, on this connection, takes a packet, and nothing that follows from it takes one
pub record IsTaken (h : HeldView) (c : ℕ) (client : List ℕ) (k : Packet) (acts : List Act) : Type 0 where
  pub call : SessionStep
  pub follows : List Act
  pub is : acts ≡ Session (Called call) ∷ follows
  pub of : call.client ≡ client
  pub on : call.on ≡ Some c
  pub room : Bool
  pub event : call.event ≡ takes k h.at room
  pub none : TakeNothing follows

-- a fault is told by DISCONNECT with its code, unless that is longer than the client takes; directly after that the connection is closed, and a
-- close goes out; nothing that follows takes a packet
pub record IsBroken (h : HeldView) (c : ℕ) (client : List ℕ) (fault : PacketFault) (acts : List Act) : Type 0 where
  pub code : ℕ
  pub has_code : disconnect_code fault ≡ Some code
  pub follows : List Act
  pub is : acts ≡ cond (takes_disconnect client code h) (Out (Send c (written (disconnect code))) ∷ []) [] ++ Connection (Closed c) ∷ Out (Close c) ∷ follows
  pub none : TakeNothing follows

abbrev pub EndsWith : HeldView → ℕ → List ℕ → Option PacketFault → List Act → Type 0
EndsWith h c client None acts = acts ≡ []
EndsWith h c client (Some fault) acts = IsBroken h c client fault acts

-- each packet in order, by what the ones before it left, until the connection is closed; after that nothing is done, and else the fault comes last
abbrev pub AreTaken : Place → HeldView → ℕ → List ℕ → List Packet → Option PacketFault → List Act → Type 0
AreTaken p h c client [] fault acts = EndsWith h c client fault acts
AreTaken p h c client (k ∷ ks) fault acts =
    (own : List Act) × (mid : HeldView) × (rest : List Act) × (acts ≡ own ++ rest) × Runs p h own mid × IsTaken h c client k own
    × cond (is_open c mid) (AreTaken p mid c client ks fault rest) (rest ≡ [])

-- the bytes are taken in, and then the packets that they make whole, with those that waited of the stream
pub record TakesBytes (p : Place) (h : HeldView) (c : ℕ) (client bytes : List ℕ) (found : ConnectionView) (acts : List Act) : Type 0 where
  pub own : List Act
  pub is : acts ≡ Connection (Fed c bytes) ∷ own
  pub held : HeldView
  pub runs : Runs p h (Connection (Fed c bytes) ∷ []) held
  pub taken : AreTaken p held c client (cut_of found.stream bytes).packets (cut_of found.stream bytes).fault own

-- first comes what is due, by which no session takes a packet; then these bytes
pub record BytesAreTaken (p : Place) (h : HeldView) (at c : ℕ) (bytes : List ℕ) (acts : List Act) : Type 0 where
  pub first : DueFirst p h at acts
  pub none : TakeNothing first.due
  pub taken :
      (found : ConnectionView) (client : List ℕ) → map.get first.held.connections c ≡ Some found → found.stream.failed ≡ false → IsServed first.held c client
      → TakesBytes p first.held c client bytes found first.rest

-- in each step of a node that has started, to which bytes of a stream come
abbrev pub PacketsAreTaken : Type 0
PacketsAreTaken =
    (e : NodeEvent) (p : Place) (h : HeldView) (acts : List Act) → Decides e (Some tt) p h acts → (c : ℕ) (bytes : List ℕ) → e.kind ≡ kinds.Piece c bytes → h.started ≡ true → BytesAreTaken p h e.at c bytes acts
