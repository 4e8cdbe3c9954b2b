-- What is sent to a client of a version before 5 where the handler inside gives packets of MQTT 5.0 for it.
use Rattle.std.specs.Prelude.{◌≡◌, ◌≤◌, ℕ, zero, suc, List, [], ◌++◌, Bool, true, false, length, drop, Option, Some, Result, Ok, if◌then◌else◌}
use Rattle.std.specs.FinSet as set
use Rattle.std.specs.Ordering.{nat_cmp}
use Rattle.mqtt_packets.specs.declared.fault.PacketFault.{PacketFault}
use Rattle.mqtt_packets.specs.declared.packet.Packet.{Packet}
use Rattle.mqtt_packets.specs.declared.packet.Packet.TheVariants as packets
use Rattle.mqtt_packets.specs.Stream.{packet_at}
use Rattle.mqtt3_packets.specs.declared.level.Level.{Level}
use Rattle.mqtt3_packets.specs.Written.{ends, written}
use Rattle.door_mqtt3.specs.declared.client.Client.{Client}
use Rattle.door_mqtt3.specs.declared.sending.Next.{Next}
use Rattle.door_mqtt3.specs.declared.sending.Next.TheVariants as nexts

abbrev pub Exchanges : Type 0
Exchanges = set.FinSet nat_cmp

-- an exchange is over where its PUBCOMP is sent
abbrev pub closed_by : Packet → Exchanges → Exchanges
closed_by (packets.Pubcomp a) exchanges = set.remove exchanges a.identifier
closed_by _ exchanges = exchanges

-- the bytes, the exchanges that are open then, and whether the connection has to end behind them
pub record Sent : Type 0 where
  pub bytes : List ℕ
  pub exchanges : Exchanges
  pub ends : Bool

abbrev pub sent_then : List ℕ → Sent → Sent
sent_then bytes sent = record { bytes = bytes ++ sent.bytes; exchanges = sent.exchanges; ends = sent.ends }

abbrev pub sent_as : List ℕ → Exchanges → Bool → Sent
sent_as bytes exchanges ends = record { bytes = bytes; exchanges = exchanges; ends = ends }

abbrev pub none_sent : Exchanges → Bool → Sent
none_sent exchanges ends = sent_as [] exchanges ends

-- a packet that can't be told ends the connection, and of what comes behind it nothing is sent
abbrev pub sent_for : Level → Exchanges → (Exchanges → List ℕ → Sent) → Result (Option (Packet × List ℕ)) PacketFault → Sent
sent_for level exchanges next (Ok (Some x)) = if ends level x.0 then none_sent exchanges true else sent_then (written level x.0) (next (closed_by x.0 exchanges) x.1)
sent_for level exchanges next _ = none_sent exchanges false

-- What the packet in front of some bytes comes to: it takes so many of them, or the connection has to end, or no packet stands there. What is to be
-- sent behind what was there is then what is to be sent of the rest, behind what is there now.
abbrev pub IsNext : Level → List ℕ → Exchanges → Exchanges → List ℕ → List ℕ → Next → Type 0
IsNext level bs old new was now (nexts.Put used) = (used ≤ length bs) × ((next : Exchanges → List ℕ → Sent) → sent_then was (sent_for level old next (packet_at bs)) ≡ sent_then now (next new (drop used bs)))
IsNext level bs old new was now nexts.Ends = (next : Exchanges → List ℕ → Sent) → sent_then was (sent_for level old next (packet_at bs)) ≡ sent_as now new true
IsNext level bs old new was now nexts.Stops = (next : Exchanges → List ℕ → Sent) → sent_then was (sent_for level old next (packet_at bs)) ≡ sent_as now new false

-- each packet in order, at most k
unfoldable pub sent_within : ℕ → Level → Exchanges → List ℕ → Sent
sent_within zero level exchanges bs = none_sent exchanges false
sent_within (suc k) level exchanges bs = sent_for level exchanges (λ left rest. sent_within k level left rest) (packet_at bs)

abbrev pub sent_of : Level → Exchanges → List ℕ → Sent
sent_of level exchanges bs = sent_within (length bs) level exchanges bs

-- a client whose connection has to end isn't looked at any more, and nothing more is sent to it
abbrev pub after_sent : Client → Sent → Client
after_sent c sent = if sent.ends then record c { exchanges = sent.exchanges; partial = []; held = []; ended = true; silenced = true } else record c { exchanges = sent.exchanges }

-- the client then, and what is sent to it
pub record Gotten : Type 0 where
  pub client : Client
  pub sent : List ℕ
  pub ends : Bool

abbrev pub gotten : Client → List ℕ → Gotten
gotten c bytes =
    if c.silenced then record { client = c; sent = []; ends = false }
    else record { client = after_sent c (sent_of c.level c.exchanges bytes); sent = (sent_of c.level c.exchanges bytes).bytes; ends = (sent_of c.level c.exchanges bytes).ends }
