-- Packets, one after another.
use Rattle.std.specs.Prelude.{◌≡◌, ℕ, zero, suc, ◌+◌, ◌-◌, ◌<◌, ◌^◌, nat_lt, Bool, List, [], ◌∷◌, ◌++◌, length, take, drop, Option, Some, None, Result, Ok, Err, if◌then◌else◌, IsTrue}
use Rattle.mqtt_fields.specs.declared.fault.FieldFault.{FieldFault}
use Rattle.mqtt_fields.specs.declared.fault.FieldFault.TheVariants as fields
use Rattle.mqtt_fields.specs.Reading.{◌>>=◌}
use Rattle.mqtt_fields.specs.Numbers.{vbi}
use Rattle.mqtt_packets.specs.declared.fault.PacketFault.{PacketFault}
use Rattle.mqtt_packets.specs.declared.fault.PacketFault.TheVariants.{Malformed, TooLarge}
use Rattle.mqtt_packets.specs.declared.head.Head.{Head}
use Rattle.mqtt_packets.specs.declared.packet.Packet.{Packet}
use Rattle.mqtt_packets.specs.Head.{first_byte, is_head, head_at}
use Rattle.mqtt_packets.specs.Packet.{head_of, SpellsBody, body_of}

-- The grammar (MQTT 5.0, 2.1): a first byte, Remaining Length, and that many bytes.
pub record Spells (bytes : List ℕ) (p : Packet) : Type 0 where
  pub inside : List ℕ
  pub whole : bytes ≡ first_byte (head_of p) ∷ vbi.bytes (length inside) ++ inside
  pub begins : IsTrue (is_head (head_of p))
  pub short : length inside < 2 ^ 28
  pub spells : SpellsBody p inside

-- what comes after the first byte: None where the length, or as many bytes, haven't come
abbrev pub inside_at : Result (ℕ × List ℕ) FieldFault → Result (Option (ℕ × List ℕ)) PacketFault
inside_at (Err fields.Short) = Ok None
inside_at (Err _) = Err Malformed
inside_at (Ok n) = Ok (Some n)

abbrev pub with_head : Head → Option (ℕ × List ℕ) → Option (Head × ℕ × List ℕ)
with_head h None = None
with_head h (Some n) = Some (h, n.0, n.1)

abbrev pub header_after : Option Head → List ℕ → Result (Option (Head × ℕ × List ℕ)) PacketFault
header_after None bs = Err Malformed
header_after (Some h) bs = inside_at (vbi.at bs) >>= λ o. Ok (with_head h o)

-- the first byte, the length of the body, and what follows; None: not whole yet
unfoldable pub header_at : List ℕ → Result (Option (Head × ℕ × List ℕ)) PacketFault
header_at [] = Ok None
header_at (b ∷ bs) = header_after (head_at b) bs

abbrev pub body_at : Option (Head × ℕ × List ℕ) → Result (Option (Packet × List ℕ)) PacketFault
body_at None = Ok None
body_at (Some h) = if nat_lt (length h.2) h.1 then Ok None else (body_of h.0 (take h.1 h.2) >>= λ p. Ok (Some (p, drop h.1 h.2)))

-- The packet in front and what follows it; None: not whole yet; or the first fault.
unfoldable pub packet_at : List ℕ → Result (Option (Packet × List ℕ)) PacketFault
packet_at bs = header_at bs >>= body_at

-- a packet, and what comes after so many bytes
abbrev pub rest_at : List ℕ → Option (Packet × ℕ) → Option (Packet × List ℕ)
rest_at bs None = None
rest_at bs (Some x) = Some (x.0, drop x.1 bs)

-- a packet whose whole length is above the limit is too large, as soon as its length is read
abbrev pub limited : ℕ → List ℕ → Option (Head × ℕ × List ℕ) → Result (Option (Head × ℕ × List ℕ)) PacketFault
limited limit bs None = Ok None
limited limit bs (Some h) = if nat_lt limit (length bs - length h.2 + h.1) then Err TooLarge else Ok (Some h)

unfoldable pub step_at : ℕ → List ℕ → Result (Option (Packet × List ℕ)) PacketFault
step_at limit bs = header_at bs >>= limited limit bs >>= body_at

-- Packets, one after another, and then a rest that isn't whole, or a fault at the rest.
pub record Cut : Type 0 where
  pub packets : List Packet
  pub rest : List ℕ
  pub fault : Option PacketFault

abbrev pub before : List Packet → Cut → Cut
before ps c = record { packets = ps ++ c.packets; rest = c.rest; fault = c.fault }

abbrev pub cut_after : List ℕ → (List ℕ → Cut) → Result (Option (Packet × List ℕ)) PacketFault → Cut
cut_after bs next (Ok None) = record { packets = []; rest = bs; fault = None }
cut_after bs next (Ok (Some x)) = before (x.0 ∷ []) (next x.1)
cut_after bs next (Err f) = record { packets = []; rest = bs; fault = Some f }

-- at most k packets
unfoldable pub cut_within : ℕ → ℕ → List ℕ → Cut
cut_within limit zero bs = record { packets = []; rest = bs; fault = None }
cut_within limit (suc k) bs = cut_after bs (λ rest. cut_within limit k rest) (step_at limit bs)

abbrev pub cut : ℕ → List ℕ → Cut
cut limit bs = cut_within limit (suc (length bs)) bs

-- what is kept of the bytes that no packet took: all of them, or of a packet at fault the first byte alone
abbrev pub kept_of : Option PacketFault → List ℕ → List ℕ
kept_of None rest = rest
kept_of (Some f) rest = take 1 rest

abbrev pub kept : Cut → Cut
kept c = record { packets = c.packets; rest = kept_of c.fault c.rest; fault = c.fault }

-- what a framer holds
pub record Held : Type 0 where
  pub limit : ℕ
  pub rest : List ℕ
  pub failed : Bool

-- what is shown of bytes that are kept, or of a packet at fault
abbrev pub held_rest : Option ℕ → List ℕ → List ℕ
held_rest None bytes = bytes
held_rest (Some first) bytes = first ∷ []
