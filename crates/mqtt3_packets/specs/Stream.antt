-- The packet of a client in front of some bytes.
use Rattle.std.specs.Prelude.{◌≡◌, ◌≤◌, ℕ, ◌+◌, ◌-◌, nat_lt, List, [], ◌∷◌, length, take, drop, Option, Some, None, Result, Ok, Err, if◌then◌else◌}
use Rattle.mqtt_fields.specs.Reading.{◌>>=◌}
use Rattle.mqtt_fields.specs.Numbers.{vbi}
use Rattle.mqtt_packets.specs.declared.fault.PacketFault.{PacketFault}
use Rattle.mqtt_packets.specs.declared.fault.PacketFault.TheVariants.{Malformed, TooLarge}
use Rattle.mqtt_packets.specs.declared.packet.Packet.{Packet}
use Rattle.mqtt_packets.specs.Stream.{inside_at}
use Rattle.mqtt3_packets.specs.declared.level.Level.{Level}
use Rattle.mqtt3_packets.specs.declared.packet.Kind.{Kind}
use Rattle.mqtt3_packets.specs.Kinds.{kind_of, packet_of}

-- some of the bytes, up to the last
abbrev pub IsRest : List ℕ → List ℕ → Type 0
IsRest bs rest = (length rest ≤ length bs) × (rest ≡ drop (length bs - length rest) bs)

abbrev pub with_kind : Kind → Option (ℕ × List ℕ) → Option (Kind × ℕ × List ℕ)
with_kind k None = None
with_kind k (Some n) = Some (k, n.0, n.1)

abbrev pub header_after : Option Kind → List ℕ → Result (Option (Kind × ℕ × List ℕ)) PacketFault
header_after None bs = Err Malformed
header_after (Some k) bs = inside_at (vbi.at bs) >>= λ o. Ok (with_kind k o)

-- the kind, the length of the body, and what follows; None: not whole yet
unfoldable pub header_at : Level → List ℕ → Result (Option (Kind × ℕ × List ℕ)) PacketFault
header_at level [] = Ok None
header_at level (b ∷ bs) = header_after (kind_of level b) bs

-- a packet above the limit is too large as soon as its length is read; else it waits until it is whole
abbrev pub body_at : Level → ℕ → List ℕ → Option (Kind × ℕ × List ℕ) → Result (Option (Packet × List ℕ)) PacketFault
body_at level limit bs None = Ok None
body_at level limit bs (Some h) =
    if nat_lt limit (length bs - length h.2 + h.1) then Err TooLarge
    else if nat_lt (length h.2) h.1 then Ok None
    else (packet_of level h.0 (take h.1 h.2) >>= λ p. Ok (Some (p, drop h.1 h.2)))

unfoldable pub packet_at : Level → ℕ → List ℕ → Result (Option (Packet × List ℕ)) PacketFault
packet_at level limit bs = header_at level bs >>= body_at level limit bs
