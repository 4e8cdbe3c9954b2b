-- What is read in front of some bytes.
use Rattle.std.proofs.Common.{◌≡◌, ◌≤◌, ℕ, Bool, false, List, length, drop, Option, Some, None, Result, Ok, Err, refl, sym, ap, subst, ◌∙◌}
use Rattle.std.specs.Prelude.{IfSome}
use Rattle.mqtt_packets.specs.Reading.{Fails}
use Rattle.mqtt_packets.specs.Stream.{packet_at, rest_at}
use Rattle.mqtt_packets.specs.declared.fault.PacketFault.{PacketFault}
use Rattle.mqtt_packets.specs.declared.fault.PacketFault.TheVariants as faults
use Rattle.mqtt_packets.specs.declared.packet.Packet.{Packet}
use Rattle.mqtt_bounds.specs.Bounded.{bounded, mended}
use Rattle.mqtt_bounds.specs.declared.bounds.Bounds.{Bounds}
use Rattle.mqtt_bounds.specs.declared.verdict.Mend.{Mend}
use Rattle.mqtt_bounds.specs.declared.verdict.Mend.TheVariants as mends
use Rattle.mqtt_bounds.specs.declared.verdict.Verdict.{Verdict}
use Rattle.mqtt_bounds.specs.declared.verdict.Verdict.TheVariants as verdicts
use Rattle.door_bounds.specs.Front.{IsFront, IsNoPacket}
use Rattle.door_bounds.specs.Mending.{IsMendedAt, IsReplaced}
use Rattle.door_bounds.specs.Walk.{verdict_at}

pub front_given : (bs : List ℕ) (o : Option (Packet × ℕ)) → packet_at bs ≡ Ok (rest_at bs o) → IfSome o (λ x. x.1 ≤ length bs) → IsFront bs o
front_given bs (Some x) e used = (e, used)
front_given bs None e used = subst IsNoPacket (sym e) tt

fails_case : (f : PacketFault) (r : Result (Option (Packet × List ℕ)) PacketFault) → (f ≡ faults.NoMemory → ⊥) → Fails f r → IsNoPacket r
fails_case faults.NoMemory r other e = absurd (other refl)
fails_case faults.Malformed r other e = subst IsNoPacket (sym e) tt
fails_case faults.ProtocolError r other e = subst IsNoPacket (sym e) tt
fails_case faults.TooLarge r other e = subst IsNoPacket (sym e) tt
fails_case faults.WrongVersion r other e = subst IsNoPacket (sym e) tt

pub front_fails : (bs : List ℕ) (f : PacketFault) → (f ≡ faults.NoMemory → ⊥) → Fails f (packet_at bs) → IsFront bs None
front_fails bs f other e = fails_case f (packet_at bs) other e

-- ---- a verdict

pub verdict_some : (b : Bounds) (full : Bool) (bs : List ℕ) (x : Packet × ℕ) (v : Verdict) → IsFront bs (Some x) → v ≡ bounded b full x.0 → v ≡ verdict_at b full (packet_at bs)
verdict_some b full bs x v front e = e ∙ sym (ap (verdict_at b full) front.0)

none_case : (b : Bounds) (full : Bool) (r : Result (Option (Packet × List ℕ)) PacketFault) → IsNoPacket r → verdicts.Goes mends.Nothing ≡ verdict_at b full r
none_case b full (Ok (Some x)) not_one = absurd not_one
none_case b full (Ok None) not_one = refl
none_case b full (Err f) not_one = refl

pub verdict_none : (b : Bounds) (full : Bool) (bs : List ℕ) → IsFront bs None → verdicts.Goes mends.Nothing ≡ verdict_at b full (packet_at bs)
verdict_none b full bs front = none_case b full (packet_at bs) front

-- ---- what is mended

pub mended_some : (m : Mend) (bs x : List ℕ) (y : Packet × ℕ) (q : Packet) → IsFront bs (Some y) → mended m y.0 ≡ Some q → IsReplaced q (drop y.1 bs) bs x → IsMendedAt m bs x (packet_at bs)
mended_some m bs x y q front e is = rw (front.0, e) is

pub mended_same : (m : Mend) (bs : List ℕ) (y : Packet × ℕ) → IsFront bs (Some y) → mended m y.0 ≡ None → IsMendedAt m bs bs (packet_at bs)
mended_same m bs y front e = rw (front.0, e) refl

same_case : (m : Mend) (bs : List ℕ) (r : Result (Option (Packet × List ℕ)) PacketFault) → IsNoPacket r → IsMendedAt m bs bs r
same_case m bs (Ok (Some x)) not_one = absurd not_one
same_case m bs (Ok None) not_one = refl
same_case m bs (Err f) not_one = refl

pub mended_none : (m : Mend) (bs : List ℕ) → IsFront bs None → IsMendedAt m bs bs (packet_at bs)
mended_none m bs front = same_case m bs (packet_at bs) front
