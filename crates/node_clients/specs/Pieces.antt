-- A piece of a client's stream (MQTT 5.0, 2.1 and 4.13): the packets that it makes whole are answered one after the
-- other, and then its fault.
use Rattle.std.specs.Prelude.{ℕ, ◌/◌, ◌==◌, Bool, false, List, Option, Some, None}
use Rattle.std.specs.FinMap as map
use Rattle.mqtt_packets.specs.declared.packet.Packet.{Packet}
use Rattle.mqtt_packets.specs.declared.packet.Packet.TheVariants as packets
use Rattle.mqtt_packets.specs.declared.fault.PacketFault.{PacketFault}
use Rattle.mqtt_packets.specs.declared.fault.PacketFault.TheVariants.{Malformed, ProtocolError, WrongVersion, TooLarge, NoMemory}
use Rattle.node_work.specs.Acts.{Connection}
use Rattle.node_work.specs.Doings.{Sends, Disconnects}
use Rattle.node_work.specs.Held.Connections.{Fed, Closed, is_open, client_at, first_at}
use Rattle.node_work.specs.Held.Feeding.{cut_of}
use Rattle.node_work.specs.Packets.{refused_packet}
use Rattle.node_work.specs.View.{ConnectionView}
use Rattle.node_work.specs.Working.{Doing, Returns, Acting, Looks, If, Then, Each}
use Rattle.node_clients.specs.Connecting.{Connects}
use Rattle.node_clients.specs.Ending.{ClosesConnection, ClosesBy, Parts}
use Rattle.node_clients.specs.Serving.{ServesPacket}

-- ---- packets
-- the first packet of a connection is a CONNECT; another one closes it
abbrev pub AnswersFirstPacket : ℕ → Packet → Option (Unit {0}) → Doing
AnswersFirstPacket c (packets.Connect p) = Connects c p
AnswersFirstPacket c p = ClosesConnection c

-- by whether the client of the connection is accepted
abbrev pub AnswersPacketBy : ℕ → Packet → Option (List ℕ) → Option (Unit {0}) → Doing
AnswersPacketBy c p None = AnswersFirstPacket c p
AnswersPacketBy c p (Some client) = ServesPacket c client p

abbrev pub AnswersPacket : ℕ → Packet → Option (Unit {0}) → Doing
AnswersPacket c p = Looks (λ place h. client_at c h) (AnswersPacketBy c p)

-- what follows the close of a connection is dropped
abbrev pub AnswersIfOpen : ℕ → Packet → Option (Unit {0}) → Doing
AnswersIfOpen c p = Looks (λ place h. is_open c h) (λ is_there. If is_there (AnswersPacket c p) (Returns tt))

-- ---- faults
-- a packet with this first byte is a CONNECT
abbrev pub is_connect : Option ℕ → Bool
is_connect None = false
is_connect (Some byte) = byte / 16 == 1

-- the Reason Code of a fault; want of memory isn't one of the stream
abbrev pub disconnect_code : PacketFault → Option ℕ
disconnect_code Malformed = Some 129
disconnect_code ProtocolError = Some 130
disconnect_code WrongVersion = Some 130
disconnect_code TooLarge = Some 149
disconnect_code NoMemory = None

abbrev pub connack_code : PacketFault → Option ℕ
connack_code Malformed = Some 129
connack_code ProtocolError = Some 130
connack_code WrongVersion = Some 132
connack_code TooLarge = Some 149
connack_code NoMemory = None

abbrev pub SendsRefusal : ℕ → Option ℕ → Option (Unit {0}) → Doing
SendsRefusal c None out p h acts = ⊥
SendsRefusal c (Some code) out p h acts = Sends c (refused_packet code None) out p h acts

abbrev pub SendsDisconnect : ℕ → List ℕ → Option ℕ → Option (Unit {0}) → Doing
SendsDisconnect c client None out p h acts = ⊥
SendsDisconnect c client (Some code) out p h acts = Disconnects c client code out p h acts

-- an accepted client gets a DISCONNECT, a CONNECT at fault a CONNACK, and nothing else an answer (4.13.1)
abbrev pub TellsBy : ℕ → PacketFault → Option (List ℕ) → Option (Unit {0}) → Doing
TellsBy c fault None = Looks (λ p h. is_connect (first_at c h)) (λ connects. If connects (SendsRefusal c (connack_code fault)) (Returns tt))
TellsBy c fault (Some client) = SendsDisconnect c client (disconnect_code fault)

-- and the connection closes
abbrev pub BreaksBy : ℕ → PacketFault → Option (List ℕ) → Option (Unit {0}) → Doing
BreaksBy c fault client = Then (TellsBy c fault client) (λ _. ClosesBy c client)

abbrev pub Breaks : ℕ → PacketFault → Option (Unit {0}) → Doing
Breaks c fault = Looks (λ p h. client_at c h) (BreaksBy c fault)

abbrev pub BreaksIfOpen : ℕ → Option PacketFault → Option (Unit {0}) → Doing
BreaksIfOpen c None = Returns tt
BreaksIfOpen c (Some fault) = Looks (λ p h. is_open c h) (λ is_there. If is_there (Breaks c fault) (Returns tt))

-- ---- a piece
abbrev pub TakesPackets : ℕ → List Packet → Option PacketFault → Option (Unit {0}) → Doing
TakesPackets c packets fault = Then (Each (AnswersIfOpen c) packets) (λ _. BreaksIfOpen c fault)

-- of an open connection's stream whose fault hasn't come
abbrev pub Feeds : ℕ → List ℕ → ConnectionView → Option (Unit {0}) → Doing
Feeds c piece found = Then (Acting (λ p h. Connection (Fed c piece))) (λ _. TakesPackets c (cut_of found.stream piece).packets (cut_of found.stream piece).fault)

-- a stream that has failed closes its connection
abbrev pub Shuts : ℕ → Option (Unit {0}) → Doing
Shuts c = Looks (λ p h. client_at c h) (ClosesBy c)

abbrev pub PieceAt : ℕ → List ℕ → Option ConnectionView → Option (Unit {0}) → Doing
PieceAt c piece None = Returns tt
PieceAt c piece (Some found) = If found.stream.failed (Shuts c) (Feeds c piece found)

abbrev pub Piece : ℕ → List ℕ → Option (Unit {0}) → Doing
Piece c piece = Looks (λ p h. map.get h.connections c) (PieceAt c piece)

-- ---- a client that goes away
abbrev pub PartsBy : Option (List ℕ) → Option (Unit {0}) → Doing
PartsBy None = Returns tt
PartsBy (Some client) = Parts client

abbrev pub LeavesBy : ℕ → Option (List ℕ) → Option (Unit {0}) → Doing
LeavesBy c client = Then (Acting (λ p h. Connection (Closed c))) (λ _. PartsBy client)

abbrev pub Leaves : ℕ → Option (Unit {0}) → Doing
Leaves c = Looks (λ p h. is_open c h) (λ is_there. If is_there (Looks (λ p h. client_at c h) (LeavesBy c)) (Returns tt))
