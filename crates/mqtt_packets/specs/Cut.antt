-- A cut of a stream in the grammar's words.
use Rattle.std.specs.Prelude.{◌≡◌, ℕ, ◌+◌, ◌<◌, ◌≤◌, ◌^◌, List, [], ◌∷◌, ◌++◌, length, Option, Some, None, IsTrue}
use Rattle.std.specs.List.{concat}
use Rattle.mqtt_fields.specs.Numbers.{vbi}
use Rattle.mqtt_packets.specs.declared.fault.PacketFault.{PacketFault}
use Rattle.mqtt_packets.specs.declared.fault.PacketFault.TheVariants.{TooLarge}
use Rattle.mqtt_packets.specs.declared.head.Head.{Head}
use Rattle.mqtt_packets.specs.declared.packet.Packet.{Packet}
use Rattle.mqtt_packets.specs.Head.{first_byte, is_head}
use Rattle.mqtt_packets.specs.Stream.{Spells, Cut}
use Rattle.mqtt_packets.specs.Faults.{Faulty, IsBeginning}

-- The bytes begin with a packet's first byte and its whole Remaining Length (MQTT 5.0, 2.1), so that the packet's length
-- in all is known.
pub record Announces (bs : List ℕ) (total : ℕ) : Type 0 where
  pub head : Head
  pub remaining : ℕ
  pub more : List ℕ
  pub parts : bs ≡ first_byte head ∷ vbi.bytes remaining ++ more
  pub allowed : IsTrue (is_head head)
  pub short : remaining < 2 ^ 28
  pub sum : total ≡ 1 + length (vbi.bytes remaining) + remaining

-- no packet longer than the limit is announced
abbrev pub IsWithin : ℕ → List ℕ → Type 0
IsWithin limit bs = (total : ℕ) → Announces bs total → total ≤ limit

-- these are spellings of the packets, one of each, and none is longer than the limit
abbrev pub AreSpellings : ℕ → List (List ℕ) → List Packet → Type 0
AreSpellings limit [] [] = Unit {0}
AreSpellings limit (s ∷ ss) (p ∷ ps) = Spells s p × (length s ≤ limit) × AreSpellings limit ss ps
AreSpellings limit _ _ = ⊥

-- What is left begins a packet that may be within the limit; or it is faulty; or it announces a packet above the limit.
abbrev pub Ends : ℕ → List ℕ → Option PacketFault → Type 0
Ends limit rest None = IsBeginning rest × IsWithin limit rest
Ends limit rest (Some TooLarge) = (total : ℕ) × Announces rest total × (limit < total)
Ends limit rest (Some f) = Faulty rest f × IsWithin limit rest

-- The stream is the spellings of the packets, one after the other, and then the rest.
pub record IsCut (limit : ℕ) (stream : List ℕ) (c : Cut) : Type 0 where
  pub spellings : List (List ℕ)
  pub whole : stream ≡ concat spellings ++ c.rest
  pub spelled : AreSpellings limit spellings c.packets
  pub ends : Ends limit c.rest c.fault
