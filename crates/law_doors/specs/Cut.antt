-- The packets of what a client of a level before 5 sends, one after another.
use Rattle.std.specs.Prelude.{ℕ, zero, suc, List, [], length, None}
use Rattle.mqtt_packets.specs.declared.packet.Packet.{Packet}
use Rattle.mqtt_packets.specs.Stream.{Cut, cut_after}
use Rattle.mqtt3_packets.specs.declared.level.Level.{Level}
use Rattle.mqtt3_packets.specs.Stream.{packet_at}
use Rattle.door_mqtt3.specs.Client.{limit}

-- at most k packets, and then a rest that isn't whole, or a fault at the rest
unfoldable pub cut_within : ℕ → Level → List ℕ → Cut
cut_within zero level bs = record { packets = []; rest = bs; fault = None }
cut_within (suc k) level bs = cut_after bs (λ rest. cut_within k level rest) (packet_at level limit bs)

abbrev pub cut : Level → List ℕ → Cut
cut level bs = cut_within (length bs) level bs

-- the whole packets in front
abbrev pub packets_of : Level → List ℕ → List Packet
packets_of level bs = (cut level bs).packets
