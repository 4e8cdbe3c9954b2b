-- What is read in front of some bytes.
use Rattle.std.proofs.Common.{◌≡◌, ◌≤◌, ℕ, List, length, Option, Some, None, Result, Ok, refl, sym, subst}
use Rattle.std.specs.Prelude.{IfSome}
use Rattle.mqtt_packets.specs.Reading.{Fails}
use Rattle.mqtt_packets.specs.Stream.{packet_at, rest_at}
use Rattle.mqtt_packets.specs.declared.fault.PacketFault.{PacketFault}
use Rattle.mqtt_packets.specs.declared.fault.PacketFault.TheVariants as faults
use Rattle.mqtt_packets.specs.declared.packet.Packet.{Packet}
use Rattle.door_packets.specs.Front.{IsFront, IsNoPacket}

pub front_given : (bs : List ℕ) (o : Option (Packet × ℕ)) → packet_at bs ≡ Ok (rest_at bs o) → IfSome o (λ x. x.1 ≤ length bs) → IsFront bs o
front_given bs (Some x) e used = (e, used)
front_given bs None e used = subst IsNoPacket (sym e) tt

fails_case : (f : PacketFault) (r : Result (Option (Packet × List ℕ)) PacketFault) → (f ≡ faults.NoMemory → ⊥) → Fails f r → IsNoPacket r
fails_case faults.NoMemory r other e = absurd (other refl)
fails_case faults.Malformed r other e = subst IsNoPacket (sym e) tt
fails_case faults.ProtocolError r other e = subst IsNoPacket (sym e) tt
fails_case faults.TooLarge r other e = subst IsNoPacket (sym e) tt
fails_case faults.WrongVersion r other e = subst IsNoPacket (sym e) tt

pub front_fails : (bs : List ℕ) (f : PacketFault) → (f ≡ faults.NoMemory → ⊥) → Fails f (packet_at bs) → IsFront bs None
front_fails bs f other e = fails_case f (packet_at bs) other e
