-- What faults mean, and what is not whole yet.
use Rattle.std.specs.Prelude.{◌≡◌, ℕ, ◌<◌, ◌^◌, ◌⊎◌, List, ◌∷◌, ◌++◌, length, Err, IsTrue}
use Rattle.mqtt_fields.specs.Numbers.{vbi}
use Rattle.mqtt_packets.specs.declared.fault.PacketFault.{PacketFault}
use Rattle.mqtt_packets.specs.declared.head.Head.{Head}
use Rattle.mqtt_packets.specs.declared.packet.Packet.{Packet}
use Rattle.mqtt_packets.specs.Head.{first_byte, is_head}
use Rattle.mqtt_packets.specs.Stream.{Spells, packet_at}

-- A packet stands in front, whatever follows it.
pub record IsFronted (bs : List ℕ) : Type 0 where
  pub packet : Packet
  pub front : List ℕ
  pub rest : List ℕ
  pub parts : bs ≡ front ++ rest
  pub spelled : Spells front packet

-- The first fault, by the order of reading.
abbrev pub Faulty : List ℕ → PacketFault → Type 0
Faulty bs f = packet_at bs ≡ Err f

-- The bytes begin a frame and don't end it: some more make them a first byte of a packet, a length and so many bytes,
-- whether these spell something or not.
pub record IsBeginning (bs : List ℕ) : Type 0 where
  pub head : Head
  pub inside : List ℕ
  pub more : List ℕ
  pub frame : bs ++ more ≡ first_byte head ∷ vbi.bytes (length inside) ++ inside
  pub allowed : IsTrue (is_head head)
  pub short : length inside < 2 ^ 28
  pub some : 0 < length more

-- one of the three, and no two of them
pub record IsOneOfThree (bs : List ℕ) : Type 0 where
  pub one : IsFronted bs ⊎ ((f : PacketFault) × Faulty bs f) ⊎ IsBeginning bs
  pub no_fault_behind_packet : (f : PacketFault) → IsFronted bs → Faulty bs f → ⊥
  pub no_packet_in_beginning : IsFronted bs → IsBeginning bs → ⊥
  pub no_fault_in_beginning : (f : PacketFault) → Faulty bs f → IsBeginning bs → ⊥
