-- What holds of every stream of bytes, and of every packet.
use Rattle.std.specs.Prelude.{◌≡◌, ℕ, ◌≤◌, List, [], ◌∷◌, ◌++◌, length, Option, Some, None}
use Rattle.std.specs.List.{concat}
use Rattle.mqtt_fields.specs.Field.{IsBytes}
use Rattle.mqtt_packets.specs.declared.fault.PacketFault.{PacketFault}
use Rattle.mqtt_packets.specs.declared.fault.PacketFault.TheVariants.{TooLarge, NoMemory}
use Rattle.mqtt_packets.specs.declared.packet.Packet.{Packet}
use Rattle.mqtt_packets.specs.Stream.{Spells, Cut, before, cut}
use Rattle.mqtt_packets.specs.Written.{written, HasSpelling}
use Rattle.mqtt_packets.specs.Faults.{Faulty, IsOneOfThree}
use Rattle.mqtt_packets.specs.Cut.{IsCut}

-- what is written is a spelling, and there is no shorter one
abbrev pub WrittenSpells : Type 0
WrittenSpells = (p : Packet) → HasSpelling p → Spells (written p) p

abbrev pub WrittenShortest : Type 0
WrittenShortest = (bytes : List ℕ) (p : Packet) → Spells bytes p → length (written p) ≤ length bytes

-- no packet's spelling begins another's
abbrev pub OneFront : Type 0
OneFront = (a b x y : List ℕ) (p q : Packet) → Spells a p → Spells b q → a ++ x ≡ b ++ y → (x ≡ y) × (p ≡ q)

-- any bytes have a packet in front, or a fault, or are the beginning of a frame
abbrev pub OneOfThree : Type 0
OneOfThree = (bs : List ℕ) → IsBytes bs → IsOneOfThree bs

-- no continuation of faulty bytes begins with a packet
abbrev pub NeverSpelled : Type 0
NeverSpelled = (bs more front rest : List ℕ) (f : PacketFault) (p : Packet) → Faulty bs f → bs ++ more ≡ front ++ rest → Spells front p → ⊥

-- what a cut becomes when more bytes come
abbrev pub more_at : ℕ → List Packet → List ℕ → Option PacketFault → List ℕ → Cut
more_at limit ps rest None b = before ps (cut limit (rest ++ b))
more_at limit ps rest (Some f) b = record { packets = ps; rest = rest ++ b; fault = Some f }

abbrev pub more : ℕ → Cut → List ℕ → Cut
more limit c b = more_at limit c.packets c.rest c.fault b

-- the same, piece by piece
abbrev pub more_pieces : ℕ → Cut → List (List ℕ) → Cut
more_pieces limit c [] = c
more_pieces limit c (b ∷ bs) = more_pieces limit (more limit c b) bs

-- it doesn't matter how a stream is cut into pieces
abbrev pub AnyPieces : Type 0
AnyPieces = (limit : ℕ) (pieces : List (List ℕ)) → IsBytes (concat pieces) → more_pieces limit (cut limit []) pieces ≡ cut limit (concat pieces)

-- a stream is cut into spellings, one after the other, and a rest
abbrev pub CutIsSpelled : Type 0
CutIsSpelled = (limit : ℕ) (stream : List ℕ) → IsBytes stream → IsCut limit stream (cut limit stream)

-- want of memory is no fault of bytes, and without a limit no packet is too large
pub record NeverFaulty : Type 0 where
  pub no_want_of_memory : (bs : List ℕ) → Faulty bs NoMemory → ⊥
  pub no_limit : (bs : List ℕ) → Faulty bs TooLarge → ⊥
