-- How the first CONNECT of a connection is answered (MQTT 5.0, 3.1.2.4, 3.1.3.1, 3.1.4, 3.2.2 and 4.11).
use Rattle.std.specs.Prelude.{◌≡◌, ◌≢◌, ◌⊎◌, ℕ, ◌<◌, Bool, true, false, cond, length, List, [], ◌∷◌, ◌++◌, Option, Some, None}
use Rattle.std.specs.FinMap as map
use Rattle.home_table.specs.Homes.{IsHome}
use Rattle.mqtt_packets.specs.declared.connect.Connect.{Connect}
use Rattle.mqtt_packets.specs.declared.packet.Packet.{Packet}
use Rattle.mqtt_packets.specs.declared.packet.Packet.TheVariants as packets
use Rattle.mqtt_packets.specs.Written.{written}
use Rattle.mqtt_sessions.specs.declared.reaction.Output.{Output}
use Rattle.mqtt_sessions.specs.declared.reaction.Output.TheVariants.{Answer}
use Rattle.mqtt_sessions.specs.Answers.{connack, disconnect, fits}
use Rattle.mqtt_sessions.specs.Arriving.{has_property}
use Rattle.mqtt_sessions.specs.Reaction.{Reaction}
use Rattle.mqtt_sessions.specs.State.{limit_in}
use Rattle.law_sessions.specs.Runs.{closes, connects, finishes}
use Rattle.node_work.specs.declared.outcome.Output.TheVariants.{Send, Close}
use Rattle.node_work.specs.Acts.{Act, Connection, Session, Out, Named, Runs}
use Rattle.node_work.specs.Held.Connections.{Accepted, Closed, Fed, room_at}
use Rattle.node_work.specs.Held.Feeding.{cut_of}
use Rattle.node_work.specs.Held.Sessions.{SessionStep, Begun, Called, Over, connection_at, has_session, takes_disconnect}
use Rattle.node_work.specs.Packets.{refused_packet}
use Rattle.node_work.specs.View.{Place, HeldView, ConnectionView}
use Rattle.node_clients.specs.Connecting.{address_of, WillIsNamed}
use Rattle.node_clients.specs.Naming.{IsNextNumber, automatic}
use Rattle.broker_node.specs.declared.event.Event.{Event}
use Rattle.broker_node.specs.declared.event.EventKind.TheVariants as kinds
use Rattle.broker_node.specs.Turns.{Decides}

-- ---- why it is refused
-- it has an Authentication Method
abbrev pub HasMethod : Connect → Type 0
HasMethod q = has_property 21 q.properties ≡ true

-- its Client Identifier has more than 256 bytes
abbrev pub HasLongClient : Connect → Type 0
HasLongClient q = 256 < length q.client

-- its client has its home at a node; one without an identifier has it wherever it comes
abbrev pub LivesAt : HeldView → Connect → ℕ → Type 0
LivesAt h q node = (q.client ≢ []) × IsHome h.homes q.client node

abbrev pub LivesHere : Place → HeldView → Connect → Type 0
LivesHere p h q = (q.client ≡ []) ⊎ LivesAt h q p.id

-- the Reason Code, in this order: Bad authentication method; Client Identifier not valid; Use another server, with the address of the
-- home; Topic Name invalid, where its will is for what isn't one
abbrev pub IsRefusedFor : Place → HeldView → Connect → ℕ → Option (List ℕ) → Type 0
IsRefusedFor p h q code reference =
    (HasMethod q × (code ≡ 140) × (reference ≡ None))
    ⊎ ((¬ HasMethod q) × HasLongClient q × (code ≡ 133) × (reference ≡ None))
    ⊎ ((¬ HasMethod q) × (¬ HasLongClient q) × ((node : ℕ) × LivesAt h q node × (node ≢ p.id) × (code ≡ 156) × (reference ≡ address_of h node)))
    ⊎ ((¬ HasMethod q) × (¬ HasLongClient q) × LivesHere p h q × (¬ WillIsNamed q.will) × (code ≡ 144) × (reference ≡ None))

-- a CONNACK with it, unless that is longer than the client takes, and a close
abbrev pub IsRefusedBy : ℕ → Connect → ℕ → Option (List ℕ) → List Act → Type 0
IsRefusedBy c q code reference acts =
    acts ≡ cond (fits (limit_in q.properties) (refused_packet code reference)) (Out (Send c (written (refused_packet code reference))) ∷ []) []
    ++ Connection (Closed c) ∷ Out (Close c) ∷ []

-- ---- else it is accepted
abbrev pub IsWelcome : Place → HeldView → Connect → Type 0
IsWelcome p h q = (¬ HasMethod q) × (¬ HasLongClient q) × LivesHere p h q × WillIsNamed q.will

-- under its Client Identifier; or under one that the node gives, by the next number that names no session here
abbrev pub IsKnownAs : Place → HeldView → Connect → List ℕ → List Act → Type 0
IsKnownAs p h q client named =
    ((q.client ≢ []) × (client ≡ q.client) × (named ≡ []))
    ⊎ ((q.client ≡ []) × ((number : ℕ) × IsNextNumber p h (Some number) × (client ≡ automatic p.id number) × (named ≡ Named number ∷ [])))

-- an older connection of the client gets DISCONNECT 0x8E, unless that is longer than the client takes, and is closed, which its session is
-- told next, before its will or its end where that is due then
pub record LeavesOlder (h : HeldView) (client : List ℕ) (older : ℕ) (acts : List Act) : Type 0 where
  pub leave : SessionStep
  pub rest : List Act
  pub is :
      acts ≡ cond (takes_disconnect client 142 h) (Out (Send older (written (disconnect 142))) ∷ []) []
      ++ Connection (Closed older) ∷ Out (Close older) ∷ Session (Called leave) ∷ rest
  pub of : leave.client ≡ client
  pub off : leave.on ≡ None
  pub event : leave.event ≡ closes leave.at

-- where there is none, nothing is done
abbrev pub IsTakenOver : HeldView → List ℕ → Option ℕ → List Act → Type 0
IsTakenOver h client None acts = acts ≡ []
IsTakenOver h client (Some older) acts = LeavesOlder h client older acts

-- a session ends now, and last of all is over
pub record EndsNow (client : List ℕ) (acts : List Act) : Type 0 where
  pub call : SessionStep
  pub rest : List Act
  pub is : acts ≡ Session (Called call) ∷ (rest ++ Session (Over client) ∷ [])
  pub of : call.client ≡ client
  pub event : call.event ≡ finishes call.at

-- Clean Start 1 ends the session that there is, and Clean Start 0 ends none (3.1.2.4)
abbrev pub IsCleaned : Bool → List ℕ → HeldView → List Act → Type 0
IsCleaned false client h acts = acts ≡ []
IsCleaned true client h acts = cond (has_session client h) (EndsNow client acts) (acts ≡ [])

-- the session's first answer is this CONNACK; only where it is longer than the client takes nothing is sent, and the connection ends
abbrev pub TellsFirst : ℕ → Packet → Reaction → Type 0
TellsFirst limit answer r = ((rest : List Output) × (r.packets ≡ Answer answer ∷ rest)) ⊎ ((fits limit answer ≡ false) × (r.packets ≡ []) × (r.end ≡ Some 0))

-- CONNACK 0x00 with Session Present where the session is continued, with its identifier where the client brought none, and with the server's
-- limits (3.2.2)
abbrev pub TellsSuccess : Bool → Connect → List ℕ → Reaction → Type 0
TellsSuccess continued q client r = TellsFirst (limit_in q.properties) (connack continued q.client client) r

-- In this order, and nothing else before: the client is named, where it brought no identifier; an older connection of it ends; and with Clean
-- Start its session. Then the connection has its client, whose session is continued where one is left, and begins else; it is called on this
-- connection, with the room that this has.
pub record IsAccepted (p : Place) (h : HeldView) (c : ℕ) (q : Connect) (acts : List Act) : Type 0 where
  pub client : List ℕ
  pub named : List Act
  pub known : IsKnownAs p h q client named
  pub over : List Act
  pub clean : List Act
  pub begun : List Act
  pub call : SessionStep
  pub rest : List Act
  pub is : acts ≡ named ++ (over ++ (clean ++ Connection (Accepted c client) ∷ (begun ++ Session (Called call) ∷ rest)))
  pub takes_over : IsTakenOver h client (connection_at client h) over
  pub left : HeldView
  pub leaves : Runs p h (named ++ over) left
  pub cleans : IsCleaned q.clean_start client left clean
  pub held : HeldView
  pub runs : Runs p left clean held
  pub continued : Bool
  pub session : has_session client held ≡ continued
  pub fresh : q.clean_start ≡ true → continued ≡ false
  pub begins : begun ≡ cond continued [] (Session (Begun client) ∷ [])
  pub of : call.client ≡ client
  pub on : call.on ≡ Some c
  pub event : call.event ≡ connects q continued (room_at c held) call.at
  pub tells : TellsSuccess continued q client call.reaction

-- ---- in a step
-- the piece is taken, and then the CONNECT is answered
pub record AnswersConnect (p : Place) (h : HeldView) (c : ℕ) (piece : List ℕ) (q : Connect) (acts : List Act) : Type 0 where
  pub own : List Act
  pub rest : List Act
  pub is : acts ≡ Connection (Fed c piece) ∷ (own ++ rest)
  pub held : HeldView
  pub runs : Runs p h (Connection (Fed c piece) ∷ []) held
  pub answer :
      ((code : ℕ) × (reference : Option (List ℕ)) × IsRefusedFor p held q code reference × IsRefusedBy c q code reference own)
      ⊎ (IsWelcome p held q × IsAccepted p held c q own)

-- a connection that has no client yet, and whose stream isn't at fault; the first packet of the stream that is whole with the piece is a CONNECT
abbrev pub BringsConnect : ConnectionView → List ℕ → Connect → Type 0
BringsConnect found piece q = (found.client ≡ None) × (found.stream.failed ≡ false) × ((more : List Packet) × ((cut_of found.stream piece).packets ≡ packets.Connect q ∷ more))

-- first the node does what it does at a Tick of that moment, which is what is due; where the connection is still open then, its CONNECT is
-- answered
pub record AnswersFirst (p : Place) (h : HeldView) (at c : ℕ) (piece : List ℕ) (acts : List Act) : Type 0 where
  pub due : List Act
  pub rest : List Act
  pub is : acts ≡ due ++ rest
  pub ticks : Decides (record { at = at; kind = kinds.Tick }) (Some tt) p h due
  pub held : HeldView
  pub runs : Runs p h due held
  pub answers : (found : ConnectionView) (q : Connect) → map.get held.connections c ≡ Some found → BringsConnect found piece q → AnswersConnect p held c piece q rest

-- in each step of a node that has started, to which a piece of a stream comes
abbrev pub FirstConnectIsAnswered : Type 0
FirstConnectIsAnswered =
    (e : Event) (p : Place) (h : HeldView) (acts : List Act) → Decides e (Some tt) p h acts → (c : ℕ) (piece : List ℕ) → e.kind ≡ kinds.Piece c piece → h.started ≡ true → AnswersFirst p h e.at c piece acts
