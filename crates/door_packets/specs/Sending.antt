-- What goes out of that which the handler inside gives.
use Rattle.std.specs.Prelude.{◌≡◌, ◌==◌, ◌&&◌, ◌⊎◌, ℕ, List, [], ◌∷◌, ◌++◌, length, Bool, true, false, Option, Some, None, Result, Ok, Err, Vec, if◌then◌else◌}
use Rattle.std.specs.List.{list_all}
use Rattle.std.specs.declared.alloc.Global.{Global}
use Rattle.mqtt_packets.specs.Stream.{packet_at}
use Rattle.mqtt_packets.specs.Written.{HasSpelling, written}
use Rattle.mqtt_packets.specs.declared.fault.PacketFault.{PacketFault}
use Rattle.mqtt_packets.specs.declared.packet.Packet.{Packet}
use Rattle.mqtt_packets.specs.declared.packet.Packet.TheVariants as packets
use Rattle.mqtt_packets.specs.declared.publish.Publish.{Publish}
use Rattle.mqtt_packets.specs.declared.reasons.Reasons.{Reasons}
use Rattle.door_packets.specs.Answers.{suback}
use Rattle.door_packets.specs.Codes.{merged}
use Rattle.door_packets.specs.Rights.{Rights}
use Rattle.door_packets.specs.declared.access.Login.{Login}
use Rattle.door_packets.specs.declared.codes.Awaited.{Awaited}

-- bytes of an event, or of what goes out
abbrev pub Buffer : Type 0
Buffer = Vec ℕ Global

-- a packet's shortest spelling; nothing of one that has none
abbrev pub IsSpelled : Packet → List ℕ → Type 0
IsSpelled p bs = (HasSpelling p × (bs ≡ written p)) ⊎ ((HasSpelling p → ⊥) × (bs ≡ []))

-- ---- SUBACK

abbrev pub mended_by : Awaited → List ℕ → Packet → List ℕ → List ℕ
mended_by a bs (packets.Suback s) rest = if s.identifier == a.identifier then suback s.identifier (merged a.codes s.reasons) ++ rest else bs
mended_by a bs p rest = bs

abbrev pub mended_at : Awaited → List ℕ → Result (Option (Packet × List ℕ)) PacketFault → List ℕ
mended_at a bs (Ok (Some x)) = mended_by a bs x.0 x.1
mended_at a bs _ = bs

-- the SUBACK in front has all codes, where it is the one that is to come
abbrev pub mended : Option Awaited → List ℕ → List ℕ
mended None bs = bs
mended (Some a) bs = mended_at a bs (packet_at bs)

-- ---- PUBLISH

abbrev pub may_receive : Rights → Option Login → Publish → Bool
may_receive r None p = false
may_receive r (Some l) p = r.may_read l p.topic

abbrev pub readable_by : Rights → Option Login → Packet → Bool
readable_by r l (packets.Publish p) = may_receive r l p
readable_by r l p = true

abbrev pub readable_at : Rights → Option Login → Result (Option (Packet × List ℕ)) PacketFault → Bool
readable_at r l (Ok (Some x)) = readable_by r l x.0
readable_at r l _ = false

-- a packet is no PUBLISH, or one that this client may receive; nobody who wasn't let in may
abbrev pub is_readable : Rights → Option Login → List ℕ → Bool
is_readable r l bs = readable_at r l (packet_at bs)
