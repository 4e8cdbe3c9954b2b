-- The shortest spelling of a packet.
use Rattle.std.specs.Prelude.{ℕ, ◌<◌, ◌^◌, List, ◌∷◌, ◌++◌, length, IsTrue}
use Rattle.mqtt_fields.specs.Numbers.{vbi}
use Rattle.mqtt_packets.specs.declared.packet.Packet.{Packet}
use Rattle.mqtt_packets.specs.Head.{first_byte, is_head}
use Rattle.mqtt_packets.specs.Packet.{head_of, body_bytes, BodyFits}
use Rattle.mqtt_packets.specs.Stream.{Spells}

unfoldable pub written : Packet → List ℕ
written p = first_byte (head_of p) ∷ vbi.bytes (length (body_bytes p)) ++ body_bytes p

-- Some bytes spell it.
abbrev pub HasSpelling : Packet → Type 0
HasSpelling p = (bytes : List ℕ) × Spells bytes p

-- the same, in terms of the packet's parts
pub record IsSound (p : Packet) : Type 0 where
  pub begins : IsTrue (is_head (head_of p))
  pub fits : BodyFits p
  pub short : length (body_bytes p) < 2 ^ 28
