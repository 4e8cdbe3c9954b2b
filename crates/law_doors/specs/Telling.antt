-- What a client of a level before 5 is told: only what the handler inside gave for it.
use Rattle.std.specs.Prelude.{◌≡◌, ℕ, zero, suc, true, false, List, [], ◌∷◌, length, flat_map, Option, Some, Result, Ok, if◌then◌else◌}
use Rattle.std.specs.Int.{w16, to_be_bytes}
use Rattle.std.specs.List.{list_any}
use Rattle.mqtt_packets.specs.declared.ack.Ack.{Ack}
use Rattle.mqtt_packets.specs.declared.connack.Connack.{Connack}
use Rattle.mqtt_packets.specs.declared.fault.PacketFault.{PacketFault}
use Rattle.mqtt_packets.specs.declared.packet.Packet.{Packet}
use Rattle.mqtt_packets.specs.declared.packet.Packet.TheVariants as packets
use Rattle.mqtt_packets.specs.Stream.{packet_at}
use Rattle.mqtt3_packets.specs.declared.level.Level.{Level}
use Rattle.mqtt3_packets.specs.Written.{code_of, ends, is_failure, written}
use Rattle.door_mqtt3.specs.Sending.{gotten}
use Rattle.door_mqtt3.specs.declared.client.Client.{Client}

-- ---- the packets that are given

abbrev pub given_by : (List ℕ → List Packet) → Result (Option (Packet × List ℕ)) PacketFault → List Packet
given_by next (Ok (Some x)) = x.0 ∷ next x.1
given_by next _ = []

-- at most k whole packets of MQTT 5.0
unfoldable pub given_within : ℕ → List ℕ → List Packet
given_within zero bs = []
given_within (suc k) bs = given_by (λ rest. given_within k rest) (packet_at bs)

abbrev pub given_packets : List ℕ → List Packet
given_packets bs = given_within (length bs) bs

-- those before the first that can't be told
abbrev pub before_end : Level → List Packet → List Packet
before_end level [] = []
before_end level (p ∷ ps) = if ends level p then [] else p ∷ before_end level ps

-- They are sent, each written for the client's level, in order. One that can't be told ends this, and nothing is sent from then on.
pub record SentIsWritten : Type 0 where
  pub sent : (c : Client) (bytes : List ℕ) → c.silenced ≡ false → (gotten c bytes).sent ≡ flat_map (written c.level) (before_end c.level (given_packets bytes))
  pub silenced : (c : Client) (bytes : List ℕ) → c.silenced ≡ false → (gotten c bytes).client.silenced ≡ list_any (ends c.level) (given_packets bytes)
  pub nothing : (c : Client) (bytes : List ℕ) → c.silenced ≡ true → (gotten c bytes).sent ≡ []

-- ---- what a packet tells

-- PUBACK and PUBREC (MQTT 3.1.1, 3.4 and 3.5): the message was taken
pub record IsTakenBy (kind : Ack → Packet) (p : Packet) (high low : ℕ) : Type 0 where
  pub ack : Ack
  pub is : p ≡ kind ack
  pub number : to_be_bytes w16 ack.identifier ≡ high ∷ low ∷ []
  pub taken : is_failure ack.reason ≡ false

abbrev pub PubacksAreTrue : Type 0
PubacksAreTrue = (level : Level) (p : Packet) (high low : ℕ) → ends level p ≡ false → written level p ≡ 0x40 ∷ 2 ∷ high ∷ low ∷ [] → IsTakenBy packets.Puback p high low

abbrev pub PubrecsAreTrue : Type 0
PubrecsAreTrue = (level : Level) (p : Packet) (high low : ℕ) → ends level p ≡ false → written level p ≡ 0x50 ∷ 2 ∷ high ∷ low ∷ [] → IsTakenBy packets.Pubrec p high low

-- PUBCOMP (3.7): the exchange is over
pub record IsOver (p : Packet) (high low : ℕ) : Type 0 where
  pub ack : Ack
  pub is : p ≡ packets.Pubcomp ack
  pub number : to_be_bytes w16 ack.identifier ≡ high ∷ low ∷ []

abbrev pub PubcompsAreTrue : Type 0
PubcompsAreTrue = (level : Level) (p : Packet) (high low : ℕ) → written level p ≡ 0x70 ∷ 2 ∷ high ∷ low ∷ [] → IsOver p high low

-- CONNACK with return code 0 (3.2.2.3): the client is accepted
pub record IsAccepted (p : Packet) : Type 0 where
  pub connack : Connack
  pub is : p ≡ packets.Connack connack
  pub accepted : connack.reason ≡ 0

abbrev pub ConnacksAreTrue : Type 0
ConnacksAreTrue = (level : Level) (p : Packet) (present : ℕ) → written level p ≡ 0x20 ∷ 2 ∷ present ∷ 0 ∷ [] → IsAccepted p

-- a return code of SUBACK (3.9.3): a QoS is the one that was granted, and each failure is 0x80
pub record GrantsAreTrue : Type 0 where
  pub granted : (n : ℕ) → is_failure (code_of n) ≡ false → code_of n ≡ n
  pub failed : (n : ℕ) → is_failure n ≡ true → code_of n ≡ 0x80
