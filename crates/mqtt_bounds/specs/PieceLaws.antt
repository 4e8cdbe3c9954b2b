-- What holds of every stream of bytes.
use Rattle.std.specs.Prelude.{◌≡◌, ◌≤◌, ℕ, List, [], ◌∷◌, ◌++◌, length}
use Rattle.std.specs.List.{AllByRecursion, concat}
use Rattle.mqtt_fields.specs.Field.{IsBytes}
use Rattle.mqtt_fields.specs.Numbers.{vbi}
use Rattle.mqtt_bounds.specs.declared.cut.End.{End}
use Rattle.mqtt_bounds.specs.declared.cut.End.TheVariants as ends
use Rattle.mqtt_bounds.specs.declared.front.Front.TheVariants as fronts
use Rattle.mqtt_bounds.specs.Pieces.{Cut, before, cut, front_at}

-- what a cut becomes when more bytes come
abbrev pub more_at : ℕ → List (List ℕ) → List ℕ → End → List ℕ → Cut
more_at limit ps rest ends.Open b = before ps (cut limit (rest ++ b))
more_at limit ps rest end b = record { packets = ps; rest = rest ++ b; end = end }

abbrev pub more : ℕ → Cut → List ℕ → Cut
more limit c b = more_at limit c.packets c.rest c.end b

-- the same, piece by piece
abbrev pub more_pieces : ℕ → Cut → List (List ℕ) → Cut
more_pieces limit c [] = c
more_pieces limit c (b ∷ bs) = more_pieces limit (more limit c b) bs

-- it doesn't matter how a stream is cut into pieces
abbrev pub AnyPieces : Type 0
AnyPieces = (limit : ℕ) (pieces : List (List ℕ)) → more_pieces limit (cut limit []) pieces ≡ cut limit (concat pieces)

-- a first byte, Remaining Length, and just as many bytes (MQTT 5.0, 2.1), no more than the limit in all
pub record IsPacket (limit : ℕ) (p : List ℕ) : Type 0 where
  pub first : ℕ
  pub inside : List ℕ
  pub whole : p ≡ first ∷ vbi.bytes (length inside) ++ inside
  pub short : length p ≤ limit

-- what is left begins no whole packet, and begins as its end says
abbrev pub Ends : ℕ → List ℕ → End → Type 0
Ends limit rest ends.Open = front_at limit rest ≡ fronts.Waits
Ends limit rest ends.TooLong = front_at limit rest ≡ fronts.TooLong
Ends limit rest ends.Broken = front_at limit rest ≡ fronts.Broken

pub record IsCut (limit : ℕ) (stream : List ℕ) (c : Cut) : Type 0 where
  pub whole : stream ≡ concat c.packets ++ c.rest
  pub packets : AllByRecursion (IsPacket limit) c.packets
  pub ends : Ends limit c.rest c.end

abbrev pub CutIsWhole : Type 0
CutIsWhole = (limit : ℕ) (stream : List ℕ) → IsBytes stream → IsCut limit stream (cut limit stream)
