-- One client of a version before 5: what the handler inside is told of the packets that it sends.
use Rattle.std.specs.Prelude.{◌≡◌, ℕ, zero, suc, ◌-◌, ◌==◌, nat_lt, ◌&&◌, ◌||◌, not, Bool, true, false, List, [], ◌∷◌, ◌++◌, length, take, Option, Some, None, is_some, Result, Ok, Err, if◌then◌else◌}
use Rattle.std.specs.FinSet as set
use Rattle.mqtt_fields.specs.declared.options.Qos.{Qos}
use Rattle.mqtt_fields.specs.declared.options.Qos.TheVariants.{ExactlyOnce}
use Rattle.mqtt_packets.specs.declared.fault.PacketFault.{PacketFault}
use Rattle.mqtt_packets.specs.declared.fault.PacketFault.TheVariants.{Malformed, ProtocolError, TooLarge}
use Rattle.mqtt_packets.specs.declared.packet.Packet.{Packet}
use Rattle.mqtt_packets.specs.declared.packet.Packet.TheVariants as packets
use Rattle.mqtt_packets.specs.Written.{HasSpelling, written}
use Rattle.mqtt3_packets.specs.declared.level.Level.{Level}
use Rattle.mqtt3_packets.specs.Stream.{packet_at}
use Rattle.door_mqtt3.specs.Asked.{asked, is_refused}
use Rattle.door_mqtt3.specs.declared.client.Client.{Client}
use Rattle.door_mqtt3.specs.declared.client.Order.{Order}
use Rattle.door_mqtt3.specs.declared.client.Order.TheVariants.{Coming, Waiting}

-- ---- what the handler inside is told

-- a packet of MQTT 5.0; in place of a fault bytes that are one there too; or bytes as they came
pub data Notice : Type 0 where
  Asks : (p : Packet) → Notice
  Faults : (f : PacketFault) → Notice
  Same : (bytes : List ℕ) → Notice

-- no packet of MQTT 5.0 begins with 0, and none is as long as 268,435,455 bytes
abbrev pub fault_bytes : PacketFault → List ℕ
fault_bytes TooLarge = 0x30 ∷ 0xff ∷ 0xff ∷ 0xff ∷ 0x7f ∷ []
fault_bytes _ = 0 ∷ []

-- a packet that no bytes spell is told as a fault
abbrev pub IsSpelled : Notice → List ℕ → Type 0
IsSpelled (Asks p) bs = (HasSpelling p → bs ≡ written p) × ((HasSpelling p → ⊥) → bs ≡ 0 ∷ [])
IsSpelled (Faults f) bs = bs ≡ fault_bytes f
IsSpelled (Same bytes) bs = bs ≡ bytes

-- one behind the other
abbrev pub AreSpelled : List Notice → List ℕ → Type 0
AreSpelled [] bs = bs ≡ []
AreSpelled (n ∷ ns) bs = (front : List ℕ) × (back : List ℕ) × (bs ≡ front ++ back) × IsSpelled n front × AreSpelled ns back

-- ---- packets that are held back

-- the most exchanges at QoS 2 that the node takes at a time, its Receive Maximum
abbrev pub most_open : ℕ
most_open = 100

-- how many bytes a packet may have, and how many are held back
abbrev pub limit : ℕ
limit = 1048576

abbrev pub has_room : Client → Bool
has_room c = nat_lt (set.len c.exchanges) most_open

-- these end exchanges, or ask for nothing else, and DISCONNECT ends all
abbrev pub overtakes : Packet → Bool
overtakes (packets.Puback a) = true
overtakes (packets.Pubrec a) = true
overtakes (packets.Pubrel a) = true
overtakes (packets.Pubcomp a) = true
overtakes packets.Pingreq = true
overtakes (packets.Disconnect e) = true
overtakes _ = false

abbrev pub is_disconnect : Packet → Bool
is_disconnect (packets.Disconnect e) = true
is_disconnect _ = false

abbrev pub opened_at : Qos → ℕ → Option ℕ
opened_at ExactlyOnce identifier = Some identifier
opened_at _ identifier = None

-- the exchange at QoS 2 that a packet begins
abbrev pub opened_by : Packet → Option ℕ
opened_by (packets.Publish p) = opened_at p.qos p.identifier
opened_by _ = None

-- a PUBLISH at QoS 2 for which there is no room waits, and all that doesn't overtake waits behind it
abbrev pub waits : Client → Packet → Bool
waits c p =
    if overtakes p then false
    else if length c.held == 0 then is_some (opened_by p) && not (has_room c)
    else true

-- ---- what comes of one packet

-- the client after it, what the handler inside is told, and what is sent to the client before all else
pub record Outcome : Type 0 where
  pub client : Client
  pub told : List Notice
  pub first : List ℕ

abbrev pub over : Client → Client
over c = record c { ended = true }

abbrev pub opened_with : Option ℕ → Client → Client
opened_with None c = c
opened_with (Some identifier) c = record c { exchanges = set.insert c.exchanges identifier }

-- CONNACK with return code 2 (3.2.2.3)
abbrev pub rejected : List ℕ
rejected = 0x20 ∷ 2 ∷ 0 ∷ 2 ∷ []

-- it is handed on
abbrev pub handed : Client → Packet → Outcome
handed c p =
    if is_refused c.level p then record { client = over c; told = Faults ProtocolError ∷ []; first = rejected }
    else record { client = opened_with (opened_by p) c; told = Asks (asked c.bridge p) ∷ []; first = [] }

abbrev pub front_handed : Client → Result (Option (Packet × List ℕ)) PacketFault → Outcome
front_handed c (Ok (Some x)) = let o = handed c x.0 in record { client = over o.client; told = o.told; first = o.first }
front_handed c _ = record { client = over c; told = []; first = [] }

-- where no more can be held back the first packet that waits is handed on, so that the node ends the connection
abbrev pub overrun : Client → Outcome
overrun c = front_handed c (packet_at c.level limit c.held)

abbrev pub dropped_if : Bool → Client → Client
dropped_if drops c = if drops then record c { held = [] } else c

-- it is held back with its bytes
abbrev pub withheld : Client → List ℕ → Outcome
withheld c bytes = if nat_lt (limit - length c.held) (length bytes) then overrun c else record { client = record c { held = c.held ++ bytes }; told = []; first = [] }

-- it is held back, or handed on
abbrev pub received : Client → Packet → List ℕ → Outcome
received c p bytes =
    if waits c p then withheld c bytes
    else handed (dropped_if (is_disconnect p) c) p

-- ---- packets, one after another

-- with what is left of the bytes
pub record Walk : Type 0 where
  pub client : Client
  pub told : List Notice
  pub first : List ℕ
  pub rest : List ℕ

abbrev pub walk_on : Outcome → (Client → Walk) → Walk
walk_on o next = let w = next o.client in record { client = w.client; told = o.told ++ w.told; first = o.first ++ w.first; rest = w.rest }

abbrev pub halt : Client → List ℕ → Walk
halt c rest = record { client = c; told = []; first = []; rest = rest }

abbrev pub halts : Order → Client → Bool
halts Coming c = c.ended
halts Waiting c = c.ended || not (has_room c)

abbrev pub done_with : Order → Client → Packet → List ℕ → Outcome
done_with Coming c p bytes = received c p bytes
done_with Waiting c p bytes = handed c p

abbrev pub walk_at : Order → Client → List ℕ → (Client → List ℕ → Walk) → Result (Option (Packet × List ℕ)) PacketFault → Walk
walk_at order c bs next (Ok None) = halt c bs
walk_at order c bs next (Ok (Some x)) = walk_on (done_with order c x.0 (take (length bs - length x.1) bs)) (λ d. next d x.1)
walk_at order c bs next (Err f) = record { client = over c; told = Faults f ∷ []; first = []; rest = bs }

-- at most k packets
unfoldable pub walk_within : ℕ → Order → Client → List ℕ → Walk
walk_within zero order c bs = halt c bs
walk_within (suc k) order c bs = if halts order c then halt c bs else walk_at order c bs (λ d rest. walk_within k order d rest) (packet_at c.level limit bs)

abbrev pub walk : Order → Client → List ℕ → Walk
walk order c bs = walk_within (length bs) order c bs

-- ---- bytes

-- a client of which nothing came
abbrev pub fresh : Level → Bool → Bool → Client
fresh level bridge served = record {
  level = level;
  bridge = bridge;
  served = served;
  partial = [];
  held = [];
  exchanges = set.empty;
  ended = false;
  silenced = false;
}

-- what isn't a whole packet yet is kept, until the connection ends
abbrev pub kept : Walk → Outcome
kept w = record { client = if w.client.ended then w.client else record w.client { partial = w.rest }; told = w.told; first = w.first }

abbrev pub come_on : Client → List ℕ → Outcome
come_on c bytes = kept (walk Coming (record c { partial = [] }) (c.partial ++ bytes))

-- what comes of bytes
abbrev pub come : Client → List ℕ → Outcome
come c bytes =
    if not c.served then record { client = c; told = Same bytes ∷ []; first = [] }
    else if c.ended then record { client = c; told = Faults Malformed ∷ []; first = [] }
    else come_on c bytes

abbrev pub let_through : Walk → Outcome
let_through w = record { client = record w.client { held = w.rest }; told = w.told; first = w.first }

-- what was held back is handed on, as far as there is room
abbrev pub went_on : Client → Outcome
went_on c = let_through (walk Waiting (record c { held = [] }) c.held)
