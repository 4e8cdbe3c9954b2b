-- What becomes of a client's connection by what is sent on it, and what is told of that.
use Rattle.std.specs.Prelude.{ℕ, ◌==◌, Bool, false, List, [], ◌∷◌, Option, Some, None, Result, Ok, Err, if◌then◌else◌}
use Rattle.mqtt_fields.specs.Properties.{first_text}
use Rattle.mqtt_packets.specs.Stream.{packet_at}
use Rattle.mqtt_packets.specs.declared.connack.Connack.{Connack as ConnackPacket}
use Rattle.mqtt_packets.specs.declared.fault.PacketFault.{PacketFault}
use Rattle.mqtt_packets.specs.declared.packet.Packet.{Packet}
use Rattle.mqtt_packets.specs.declared.packet.Packet.TheVariants.{Connect, Connack, Disconnect}
use Rattle.mqtt3_packets.specs.Version.{version_of}
use Rattle.mqtt3_packets.specs.declared.level.Level.TheVariants.{Three, Four}
use Rattle.mqtt3_packets.specs.declared.version.Version.{Version}
use Rattle.mqtt3_packets.specs.declared.version.Version.TheVariants.{Before}
use Rattle.door_log.specs.declared.line.Departure.{Departure}
use Rattle.door_log.specs.declared.line.Departure.TheVariants.{Closed, Lost, KeepAlive, TakenOver, Fault}
use Rattle.door_log.specs.declared.line.Earlier.{Earlier}
use Rattle.door_log.specs.declared.line.Earlier.TheVariants.{Mqtt311, Mqtt31}
use Rattle.door_log.specs.declared.line.LogLine.{LogLine}
use Rattle.door_log.specs.declared.line.LogLine.TheVariants.{ClientAccepted, ClientRefused, ClientOfEarlier, ClientUnanswered, ClientGone}
use Rattle.door_log.specs.declared.clients.Stage.{Stage}
use Rattle.door_log.specs.declared.clients.Stage.TheVariants.{Coming, Accepted}

-- how far it has come then, or nothing where no more is told of it; and what is told
abbrev pub Upshot : Type 0
Upshot = Option Stage × LogLine

abbrev pub packet_of : Result (Option (Packet × List ℕ)) PacketFault → Option Packet
packet_of (Ok (Some x)) = Some x.0
packet_of (Ok None) = None
packet_of (Err fault) = None

-- the packet in front, if it is there whole
abbrev pub packet_in : List ℕ → Option Packet
packet_in bytes = packet_of (packet_at bytes)

-- the identifier that a CONNECT asks for (MQTT 5.0, 3.1.3.1)
abbrev pub asked_by : Option Packet → Option (List ℕ)
asked_by (Some (Connect packet)) = Some packet.client
asked_by _ = None

-- the identifier of an accepted client: the one that the server assigns, or that which it asked for (3.2.3.7)
abbrev pub name_with : Option (List ℕ) → Option (List ℕ) → List ℕ
name_with (Some assigned) asked = assigned
name_with None (Some name) = name
name_with None None = []

abbrev pub accepted : List ℕ → Upshot
accepted name = (Some (Accepted name), ClientAccepted name)

-- the version before 5 that a client's first bytes tell, where it is one that --mqtt3 serves
abbrev pub earlier_at : Option Version → Option Earlier
earlier_at (Some (Before Four bridge)) = Some Mqtt311
earlier_at (Some (Before Three bridge)) = Some Mqtt31
earlier_at _ = None

-- reason code 0x84, Unsupported Protocol Version, names that version (3.2.2.2)
abbrev pub refused_by : ℕ → Option (List ℕ) → Option Earlier → LogLine
refused_by reason asked None = ClientRefused reason asked
refused_by reason asked (Some earlier) = if reason == 132 then ClientOfEarlier earlier else ClientRefused reason asked

abbrev pub refused : ℕ → Option (List ℕ) → List ℕ → LogLine
refused reason asked held = refused_by reason asked (earlier_at (version_of 1048576 held))

-- reason code 0 accepts a client, and any other refuses it (3.2.2.2); property 18 is the identifier that the server assigns
abbrev pub by_connack : ConnackPacket → Option (List ℕ) → List ℕ → Upshot
by_connack packet asked held =
    if packet.reason == 0 then accepted (name_with (first_text 18 packet.properties) asked)
    else (None, refused packet.reason asked held)

-- to a client that wasn't answered yet, of which this came
abbrev pub answered : Option Packet → List ℕ → Option Upshot
answered (Some (Connack packet)) held = Some (by_connack packet (asked_by (packet_in held)) held)
answered _ held = None

-- why a client is gone to which a DISCONNECT with this reason code is sent (3.14.2.1)
abbrev pub departure_by : ℕ → Departure
departure_by code = if code == 141 then KeepAlive else if code == 142 then TakenOver else Fault code

-- a DISCONNECT begins with 0xE0 (3.14.1)
abbrev pub is_disconnect : List ℕ → Bool
is_disconnect [] = false
is_disconnect (first ∷ more) = first == 224

-- to a client that was accepted under this identifier
abbrev pub parted : Option Packet → List ℕ → Option Upshot
parted (Some (Disconnect packet)) name = Some (None, ClientGone (departure_by packet.reason) name)
parted _ name = None

-- of a connection that has come so far, where these bytes are sent on it
abbrev pub upshot_of : List ℕ → Stage → Option Upshot
upshot_of bytes (Coming held) = answered (packet_in bytes) held
upshot_of bytes (Accepted name) = if is_disconnect bytes then parted (packet_in bytes) name else None

-- ---- of one that is closed, or lost

abbrev pub closing : Stage → LogLine
closing (Coming held) = ClientUnanswered
closing (Accepted name) = ClientGone Closed name

-- nothing is told of a client that was lost before it was answered
abbrev pub losing : Stage → Option LogLine
losing (Coming held) = None
losing (Accepted name) = Some (ClientGone Lost name)
