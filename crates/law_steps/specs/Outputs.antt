-- To which connections a node sends, and why it closes one (MQTT 5.0, 3.1.4, 3.2, 3.14, 4.11 and 4.13).
use Rattle.std.specs.Prelude.{◌≡◌, ◌≢◌, ◌⊎◌, ℕ, true, false, List, [], ◌∷◌, ◌++◌, Option, Some, None}
use Rattle.std.specs.FinMap as map
use Rattle.home_table.specs.Homes.{IsHome}
use Rattle.mqtt_packets.specs.declared.connect.Connect.{Connect}
use Rattle.mqtt_packets.specs.declared.fault.PacketFault.{PacketFault}
use Rattle.mqtt_packets.specs.declared.packet.Packet.{Packet}
use Rattle.mqtt_packets.specs.declared.packet.Packet.TheVariants as packets
use Rattle.mqtt_packets.specs.Written.{written}
use Rattle.mqtt_sessions.specs.Answers.{disconnect, fits}
use Rattle.mqtt_sessions.specs.State.{limit_in}
use Rattle.session_table.specs.Seats.{Seat}
use Rattle.node_work.specs.declared.outcome.Output.TheVariants.{Send, Close}
use Rattle.node_work.specs.Acts.{Act, Connection, Session, Out, Runs}
use Rattle.node_work.specs.Held.Connections.{Closed, client_at, first_at, is_open}
use Rattle.node_work.specs.Held.Feeding.{cut_of}
use Rattle.node_work.specs.Held.Sessions.{SessionStep, Called, takes_disconnect, takes_packet}
use Rattle.node_work.specs.Packets.{moved_packet, refused_packet}
use Rattle.node_work.specs.View.{Place, HeldView, ConnectionView}
use Rattle.node_clients.specs.Connecting.{address_of}
use Rattle.node_clients.specs.Pieces.{connack_code, disconnect_code, is_connect}
use Rattle.broker_node.specs.declared.event.Event.{Event}
use Rattle.broker_node.specs.declared.event.EventKind.{EventKind}
use Rattle.broker_node.specs.declared.event.EventKind.TheVariants as kinds
use Rattle.broker_node.specs.Turns.{Decides}
use Rattle.law_runs.specs.StepSending.{IsIn}
use Rattle.cluster_play.specs.Worlds.{World}
use Rattle.cluster_play.specs.Runs.{Played}
use Rattle.cluster_play.specs.Histories.{Reached, site, acts_of}
use Rattle.cluster_play.specs.Agreement.{Holds, HoldsAmid}

-- an event, with what its node held when it came
pub record Occasion : Type 0 where
  pub kind : EventKind
  pub held : HeldView

-- each session that is on a connection is on an open one, whose client is its own
abbrev pub SessionsAreOnTheirs : HeldView → Type 0
SessionsAreOnTheirs h = (client : List ℕ) (seat : Seat) (c : ℕ) → map.get h.sessions client ≡ Some seat → seat.connection ≡ Some c → client_at c h ≡ Some client

-- ---- packets of the node's own
-- CONNACK, on an open connection that has no client yet
pub record IsRefusal (h : HeldView) (c : ℕ) (bytes : List ℕ) : Type 0 where
  pub open_there : is_open c h ≡ true
  pub bare : client_at c h ≡ None
  pub code : ℕ
  pub reference : Option (List ℕ)
  pub is : bytes ≡ written (refused_packet code reference)

-- DISCONNECT, on one that has
pub record IsDisconnect (h : HeldView) (c : ℕ) (bytes : List ℕ) : Type 0 where
  pub client : List ℕ
  pub there : client_at c h ≡ Some client
  pub code : ℕ
  pub is : bytes ≡ written (disconnect code)

-- the home of a client, by the table of the node, is another node
pub record IsAway (p : Place) (h : HeldView) (client : List ℕ) (home : ℕ) : Type 0 where
  pub is_home : IsHome h.homes client home
  pub other : home ≢ p.id

-- DISCONNECT with Server moved and the address of that home, on the connection of a client that is away
pub record IsRedirect (p : Place) (h : HeldView) (c : ℕ) (bytes : List ℕ) : Type 0 where
  pub client : List ℕ
  pub there : client_at c h ≡ Some client
  pub home : ℕ
  pub away : IsAway p h client home
  pub address : List ℕ
  pub at : address_of h home ≡ Some address
  pub is : bytes ≡ written (moved_packet address)

-- ---- why a node closes a connection
-- directly before it a packet went out on it
abbrev pub SentLast : List Act → ℕ → Packet → Type 0
SentLast before c packet = (earlier : List Act) × (before ≡ earlier ++ Out (Send c (written packet)) ∷ [])

-- DISCONNECT did, with this code, unless it is longer than the client takes
abbrev pub ToldLast : List Act → HeldView → ℕ → List ℕ → ℕ → Type 0
ToldLast before h c client code = SentLast before c (disconnect code) ⊎ (takes_disconnect client code h ≡ false)

-- a call of its client's session, in the same step, ended the connection with a code: DISCONNECT with that code is the last packet that
-- the call gives out, but for 0, by which none goes out
pub record EndedByCall (before : List Act) (h : HeldView) (c : ℕ) : Type 0 where
  pub client : List ℕ
  pub there : client_at c h ≡ Some client
  pub call : SessionStep
  pub earlier : List Act
  pub later : List Act
  pub is : before ≡ earlier ++ Session (Called call) ∷ later
  pub same : call.client ≡ client
  pub code : ℕ
  pub ends : call.reaction.end ≡ Some code

-- its client is accepted on another connection, on which a CONNECT of that client has come whole, or one without a Client Identifier: Session
-- taken over
pub record TakenOver (o : Occasion) (before : List Act) (h : HeldView) (c : ℕ) : Type 0 where
  pub client : List ℕ
  pub there : client_at c h ≡ Some client
  pub other : ℕ
  pub bytes : List ℕ
  pub event : o.kind ≡ kinds.Piece other bytes
  pub bare : client_at other h ≡ None
  pub found : ConnectionView
  pub was : map.get o.held.connections other ≡ Some found
  pub connect : Connect
  pub among : IsIn (packets.Connect connect) (cut_of found.stream bytes).packets
  pub known : (client ≡ connect.client) ⊎ (connect.client ≡ [])
  pub told : ToldLast before h c client 142

-- a first packet by which no client is accepted: one that is no CONNECT, or a CONNECT that is refused, by a CONNACK that went out directly
-- before unless it is longer than the client takes
abbrev pub IsTurnedAway : List Act → ℕ → Packet → Type 0
IsTurnedAway before c (packets.Connect q) =
    (code : ℕ) × (reference : Option (List ℕ)) × (SentLast before c (refused_packet code reference) ⊎ (fits (limit_in q.properties) (refused_packet code reference) ≡ false))
IsTurnedAway before c packet = Unit {0}

-- the fault of the stream with these bytes, which a CONNACK with its code has told where what is at fault begins as a CONNECT
abbrev pub FaultIsRefused : List Act → HeldView → ℕ → PacketFault → Type 0
FaultIsRefused before h c fault = is_connect (first_at c h) ≡ true → (code : ℕ) × (connack_code fault ≡ Some code) × SentLast before c (refused_packet code None)

-- bytes come on it for which it has no client. Its stream was at fault before them; or a packet that they make whole is turned away; or their
-- stream has a fault, which is told.
pub record RefusedBytes (o : Occasion) (before : List Act) (h : HeldView) (c : ℕ) : Type 0 where
  pub bytes : List ℕ
  pub event : o.kind ≡ kinds.Piece c bytes
  pub bare : client_at c h ≡ None
  pub found : ConnectionView
  pub was : map.get o.held.connections c ≡ Some found
  pub why :
      (found.stream.failed ≡ true)
      ⊎ ((packet : Packet) × IsIn packet (cut_of found.stream bytes).packets × IsTurnedAway before c packet)
      ⊎ ((fault : PacketFault) × ((cut_of found.stream bytes).fault ≡ Some fault) × FaultIsRefused before h c fault)

-- bytes of its client come whose stream was at fault before them; or has a fault with them, by whose code DISCONNECT is sent
pub record FaultyBytes (o : Occasion) (before : List Act) (h : HeldView) (c : ℕ) : Type 0 where
  pub bytes : List ℕ
  pub event : o.kind ≡ kinds.Piece c bytes
  pub client : List ℕ
  pub there : client_at c h ≡ Some client
  pub found : ConnectionView
  pub was : map.get o.held.connections c ≡ Some found
  pub why :
      (found.stream.failed ≡ true)
      ⊎ ((fault : PacketFault) × (code : ℕ) × ((cut_of found.stream bytes).fault ≡ Some fault) × (disconnect_code fault ≡ Some code) × ToldLast before h c client code)

-- the node takes a table of homes, or begins its work
abbrev pub MaySendAway : EventKind → Type 0
MaySendAway kinds.Started = Unit {0}
MaySendAway (kinds.Table homes) = Unit {0}
MaySendAway kind = ⊥

-- directly before it DISCONNECT with Server moved and the address that the table has of the home went out, unless it is longer than the
-- client takes
abbrev pub ToldWhere : List Act → HeldView → ℕ → List ℕ → ℕ → Type 0
ToldWhere before h c client home =
    (address : List ℕ) → address_of h home ≡ Some address → SentLast before c (moved_packet address) ⊎ (takes_packet client (moved_packet address) h ≡ false)

-- the home of its client is another node: the client is sent there
pub record SentAway (o : Occasion) (p : Place) (before : List Act) (h : HeldView) (c : ℕ) : Type 0 where
  pub client : List ℕ
  pub there : client_at c h ≡ Some client
  pub event : MaySendAway o.kind
  pub home : ℕ
  pub away : IsAway p h client home
  pub told : ToldWhere before h c client home

-- or the network or the client has closed it
abbrev pub WhyClosed : Occasion → Place → List Act → HeldView → ℕ → Type 0
WhyClosed o p before h c =
    (o.kind ≡ kinds.Closed c) ⊎ EndedByCall before h c ⊎ TakenOver o before h c ⊎ RefusedBytes o before h c ⊎ FaultyBytes o before h c ⊎ SentAway o p before h c

-- ---- each act that gives something out, or closes a connection
-- unless the network or the client has closed it, a close goes out directly after
abbrev pub IsToldTo : Occasion → ℕ → List Act → Type 0
IsToldTo o c after = (o.kind ≡ kinds.Closed c) ⊎ ((later : List Act) × (after ≡ Out (Close c) ∷ later))

-- the packets of a call go to the connection of its client; those of the node's own are CONNACK before a client is accepted, and DISCONNECT
-- after that; a connection that is closed was open, it is closed for one of these causes, and a close goes out directly after, and at no other
-- place
abbrev pub GoesRight : Occasion → Place → List Act → List Act → HeldView → Act → Type 0
GoesRight o p before after h (Session (Called s)) = (c : ℕ) → s.on ≡ Some c → client_at c h ≡ Some s.client
GoesRight o p before after h (Out (Send c bytes)) = IsRefusal h c bytes ⊎ IsDisconnect h c bytes ⊎ IsRedirect p h c bytes
GoesRight o p before after h (Out (Close c)) = (earlier : List Act) × (before ≡ earlier ++ Connection (Closed c) ∷ [])
GoesRight o p before after h (Connection (Closed c)) = (is_open c h ≡ true) × WhyClosed o p before h c × IsToldTo o c after
GoesRight o p before after h a = Unit {0}

-- in every step of a node whose sessions are on their own connections, and so they are afterwards
abbrev pub OutputsGoRight : Type 0
OutputsGoRight =
    (e : Event) (p : Place) (h last : HeldView) (acts : List Act) → SessionsAreOnTheirs h → Decides e (Some tt) p h acts → Runs p h acts last
    → SessionsAreOnTheirs last
    × ((before after : List Act) (a : Act) (mid : HeldView) → acts ≡ before ++ a ∷ after → Runs p h before mid → GoesRight (record { kind = e.kind; held = h }) p before after mid a)

-- ---- in a run
abbrev pub SessionsStayOnTheirs : Type 0
SessionsStayOnTheirs = (run : List Played) (w : World) → Reached run w → (i : ℕ) (h : HeldView) → Holds w i h → SessionsAreOnTheirs h

pub record ActGoesRight (run : List Played) (m : Played) (before after : List Act) (a : Act) : Type 0 where
  pub world : World
  pub reached : Reached run world
  pub held : HeldView
  pub there : HoldsAmid world m (site m.fate) before held
  pub right : GoesRight (record { kind = there.event.kind; held = there.held }) there.holds.site.node.place before after held a

abbrev pub OutputsOfRunsGoRight : Type 0
OutputsOfRunsGoRight =
    (run later : List Played) (m : Played) (w : World) → Reached (run ++ m ∷ later) w
    → (before after : List Act) (a : Act) → acts_of m.fate ≡ before ++ a ∷ after → ActGoesRight run m before after a
