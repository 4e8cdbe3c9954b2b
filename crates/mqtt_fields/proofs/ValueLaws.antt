-- Values are read as they are spelled, whatever their type.
use Rattle.std.proofs.Common.{◌≡◌, ℕ, List, Some, refl, sym, ap}
use Rattle.std.proofs.lemmas.Option.{same_Some}
use Rattle.std.specs.Int.{w8, w16, w32}
use Rattle.mqtt_fields.specs.declared.table.ValueKind.{ValueKind}
use Rattle.mqtt_fields.specs.declared.table.ValueKind.TheVariants as kinds
use Rattle.mqtt_fields.specs.declared.value.Value.{Value}
use Rattle.mqtt_fields.specs.declared.value.Value.TheVariants.{Byte, Two, Four, Vbi, Text, Blob, Pair}
use Rattle.mqtt_fields.specs.Numbers.{number, vbi, text, blob, pair}
use Rattle.mqtt_fields.specs.Value.{as_byte, as_two, as_four, as_vbi, as_text, as_blob, as_pair, value, value_bytes, VbiFits}
use Rattle.mqtt_fields.proofs.Laws.{IsField, variant_is}
use Rattle.mqtt_fields.proofs.NumberLaws.{wide8, wide16, wide32, number_is, vbi_is, blob_is, text_is, pair_is}

byte_back : (b : Value) (a : ℕ) → as_byte b ≡ Some a → Byte a ≡ b
byte_back (Byte x) a e = cc
byte_back (Two x) a e = absurd cc
byte_back (Four x) a e = absurd cc
byte_back (Vbi x) a e = absurd cc
byte_back (Text x) a e = absurd cc
byte_back (Blob x) a e = absurd cc
byte_back (Pair x y) a e = absurd cc

two_back : (b : Value) (a : ℕ) → as_two b ≡ Some a → Two a ≡ b
two_back (Byte x) a e = absurd cc
two_back (Two x) a e = cc
two_back (Four x) a e = absurd cc
two_back (Vbi x) a e = absurd cc
two_back (Text x) a e = absurd cc
two_back (Blob x) a e = absurd cc
two_back (Pair x y) a e = absurd cc

four_back : (b : Value) (a : ℕ) → as_four b ≡ Some a → Four a ≡ b
four_back (Byte x) a e = absurd cc
four_back (Two x) a e = absurd cc
four_back (Four x) a e = cc
four_back (Vbi x) a e = absurd cc
four_back (Text x) a e = absurd cc
four_back (Blob x) a e = absurd cc
four_back (Pair x y) a e = absurd cc

vbi_back : (b : Value) (a : ℕ) → as_vbi b ≡ Some a → Vbi a ≡ b
vbi_back (Byte x) a e = absurd cc
vbi_back (Two x) a e = absurd cc
vbi_back (Four x) a e = absurd cc
vbi_back (Vbi x) a e = cc
vbi_back (Text x) a e = absurd cc
vbi_back (Blob x) a e = absurd cc
vbi_back (Pair x y) a e = absurd cc

text_back : (b : Value) (a : List ℕ) → as_text b ≡ Some a → Text a ≡ b
text_back (Byte x) a e = absurd cc
text_back (Two x) a e = absurd cc
text_back (Four x) a e = absurd cc
text_back (Vbi x) a e = absurd cc
text_back (Text x) a e = cc
text_back (Blob x) a e = absurd cc
text_back (Pair x y) a e = absurd cc

blob_back : (b : Value) (a : List ℕ) → as_blob b ≡ Some a → Blob a ≡ b
blob_back (Byte x) a e = absurd cc
blob_back (Two x) a e = absurd cc
blob_back (Four x) a e = absurd cc
blob_back (Vbi x) a e = absurd cc
blob_back (Text x) a e = absurd cc
blob_back (Blob x) a e = cc
blob_back (Pair x y) a e = absurd cc

pair_back : (b : Value) (a : List ℕ × List ℕ) → as_pair b ≡ Some a → Pair a.0 a.1 ≡ b
pair_back (Byte x) a e = absurd cc
pair_back (Two x) a e = absurd cc
pair_back (Four x) a e = absurd cc
pair_back (Vbi x) a e = absurd cc
pair_back (Text x) a e = absurd cc
pair_back (Blob x) a e = absurd cc
pair_back (Pair x y) a e = ap (λ (p : List ℕ × List ℕ). Pair p.0 p.1) (same_Some a (x, y) (sym e))

pub value_is : (k : ValueKind) → IsField (value k)
value_is kinds.Byte = variant_is Byte as_byte (number w8) (λ a. refl) byte_back (number_is w8 wide8)
value_is kinds.Two = variant_is Two as_two (number w16) (λ a. refl) two_back (number_is w16 wide16)
value_is kinds.Four = variant_is Four as_four (number w32) (λ a. refl) four_back (number_is w32 wide32)
value_is kinds.Vbi = variant_is Vbi as_vbi vbi (λ a. refl) vbi_back vbi_is
value_is kinds.Text = variant_is Text as_text text (λ a. refl) text_back text_is
value_is kinds.Blob = variant_is Blob as_blob blob (λ a. refl) blob_back blob_is
value_is kinds.Pair = variant_is (λ x. Pair x.0 x.1) as_pair pair (λ a. refl) pair_back pair_is

pub same_bytes : (k : ValueKind) (v : Value) → (value k).Fits v → (value k).bytes v ≡ value_bytes v
same_bytes kinds.Byte (Byte n) fits = refl
same_bytes kinds.Two (Two n) fits = refl
same_bytes kinds.Four (Four n) fits = refl
same_bytes kinds.Vbi (Vbi n) fits = refl
same_bytes kinds.Text (Text t) fits = refl
same_bytes kinds.Blob (Blob b) fits = refl
same_bytes kinds.Pair (Pair a b) fits = refl
same_bytes _ _ fits = absurd fits

pub vbi_fits : (k : ValueKind) (v : Value) → (value k).Fits v → VbiFits v
vbi_fits kinds.Vbi (Vbi n) fits = fits
vbi_fits k (Vbi n) fits = absurd fits
vbi_fits k _ fits = tt
