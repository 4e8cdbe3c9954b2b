-- What a session is (MQTT 5.0, 4.1): what outlives its connections, and its connection.
use Rattle.std.specs.Prelude.{ℕ, ◌<◌, ◌-◌, ◌^◌, min, Bool, true, nat_lt, List, [], ◌∷◌, Option, Some, None, unwrap_or}
use Rattle.mqtt_fields.specs.declared.value.Property.{Property}
use Rattle.mqtt_fields.specs.Properties.{first_four}
use Rattle.mqtt_packets.specs.declared.connect.Will.{Will}
use Rattle.mqtt_message.specs.declared.delivery.Delivery.{Delivery}
pub use Rattle.session_rows.specs.Durable.{IsPublishableIf}
use Rattle.qos_handshakes.specs.Incoming.{Received}
use Rattle.qos_handshakes.specs.Length.{length_of}
use Rattle.qos_handshakes.specs.Outbox.{Outbox, Sent, empty_outbox}
use Rattle.qos_handshakes.specs.Touched.{Watched}
use Rattle.mqtt_sessions.specs.Aliases.{Aliases}
use Rattle.mqtt_sessions.specs.declared.kept.Phase.{Phase}
use Rattle.mqtt_sessions.specs.declared.kept.Phase.TheVariants.{Connected, Closed}
use Rattle.mqtt_sessions.specs.declared.link.Asked.{Asked}

-- the client, its Session Expiry Interval in seconds, whether it is connected, and its will
pub record Kept : Type 0 where
  pub client : List ℕ
  pub expiry : ℕ
  pub phase : Phase
  pub will : Option Will

-- an open connection: the longest packet that the client takes, its Keep Alive in seconds, the moment of its last packet,
-- what it waits for, and the topics that its aliases stand for
pub record Link : Type 0 where
  pub limit : ℕ
  pub keep_alive : ℕ
  pub last : ℕ
  pub asked : Option Asked
  pub aliases : Aliases

-- of the outbox and the incoming exchanges, what was sent and opened on this connection, and its quota, go with it; `room` is
-- how many bytes of PUBLISHes its connection takes from now on, where that is counted
pub record State : Type 0 where
  pub kept : Kept
  pub outbox : Outbox
  pub incoming : Received
  pub link : Option Link
  pub room : Option ℕ

-- a session, and the places of its copies that were touched since they were last asked for
pub record Tracked : Type 0 where
  pub state : State
  pub touched : List ℕ

abbrev pub watched : Tracked → Watched
watched t = record { box = t.state.outbox; touched = t.touched }

-- a session before its first connection
abbrev pub new_session : List ℕ → State
new_session client = record {
  kept = record { client = client; expiry = 0; phase = Closed 0; will = None };
  outbox = empty_outbox;
  incoming = [];
  link = None;
  room = None;
}

-- the connection is gone
abbrev pub cut : State → State
cut s = record s { link = None }

abbrev pub with_outbox : State → Outbox → State
with_outbox s o = record s { outbox = o }

-- ---- room for PUBLISHes at QoS 1 and 2
-- some is left, or it isn't counted
abbrev pub has_room : Option ℕ → Bool
has_room None = true
has_room (Some n) = nat_lt 0 n

-- what is left of it after a PUBLISH; the last one may be longer than it
abbrev pub room_less : ℕ → Option ℕ → Delivery → Option ℕ
room_less now None d = None
room_less now (Some n) d = Some (n - length_of now d)

abbrev pub room_after : ℕ → Option ℕ → List Sent → Option ℕ
room_after now room [] = room
room_after now room (s ∷ ss) = room_after now (room_less now room s.copy) ss

-- these were sent, and this is what is left in the outbox
abbrev pub sent_from : State → Outbox → ℕ → List Sent → State
sent_from s o now sents = record s { outbox = o; room = room_after now s.room sents }

-- the longest packet that the client takes; none has more than 268,435,460 bytes (2.1.4, 3.1.2.11.4)
abbrev pub limit_in : List Property → ℕ
limit_in ps = min 268435460 (unwrap_or (first_four 39 ps) 268435460)

abbrev pub limit_of : Option Link → Option ℕ
limit_of None = None
limit_of (Some l) = Some l.limit

-- the aliases of the connection; without one there are none
abbrev pub aliases_of : Option Link → Aliases
aliases_of None = []
aliases_of (Some l) = l.aliases

-- a packet came
abbrev pub heard_by : Option Link → ℕ → Option Link
heard_by None now = None
heard_by (Some l) now = Some (record l { last = now })

abbrev pub heard : State → ℕ → State
heard s now = record s { link = heard_by s.link now }

-- ---- how the code keeps it
abbrev pub IsMoment : Phase → Type 0
IsMoment Connected = Unit {0}
IsMoment (Closed at) = at < 2 ^ 62

-- a will that can be published, and a moment below 2^62
pub record IsKept (will : Option Will) (phase : Phase) : Type 0 where
  pub publishable : IsPublishableIf will
  pub moment : IsMoment phase
