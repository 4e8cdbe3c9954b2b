-- A property's value, by its type (MQTT 5.0, 2.2.2.2).
use Rattle.std.specs.Prelude.{◌++◌, ◌<◌, ◌^◌, ℕ, List, Option, Some, None}
use Rattle.std.specs.Int.{w8, w16, w32}
use Rattle.mqtt_fields.specs.declared.table.ValueKind.{ValueKind}
use Rattle.mqtt_fields.specs.declared.table.ValueKind.TheVariants as kinds
use Rattle.mqtt_fields.specs.declared.value.Value.{Value}
use Rattle.mqtt_fields.specs.declared.value.Value.TheVariants.{Byte, Two, Four, Vbi, Text, Blob, Pair}
use Rattle.mqtt_fields.specs.Field.{Field, variant}
use Rattle.mqtt_fields.specs.Numbers.{number, vbi, text, blob, pair}

-- its value, if it is a byte
abbrev pub as_byte : Value → Option ℕ
as_byte (Byte n) = Some n
as_byte _ = None

-- its value, if it is a Two Byte Integer
abbrev pub as_two : Value → Option ℕ
as_two (Two n) = Some n
as_two _ = None

-- its value, if it is a Four Byte Integer
abbrev pub as_four : Value → Option ℕ
as_four (Four n) = Some n
as_four _ = None

-- its value, if it is a Variable Byte Integer
abbrev pub as_vbi : Value → Option ℕ
as_vbi (Vbi n) = Some n
as_vbi _ = None

-- its value, if it is a UTF-8 Encoded String
abbrev pub as_text : Value → Option (List ℕ)
as_text (Text t) = Some t
as_text _ = None

-- its value, if it is Binary Data
abbrev pub as_blob : Value → Option (List ℕ)
as_blob (Blob b) = Some b
as_blob _ = None

-- its value, if it is a UTF-8 String Pair
abbrev pub as_pair : Value → Option (List ℕ × List ℕ)
as_pair (Pair a b) = Some (a, b)
as_pair _ = None

-- a value of this type
abbrev pub value : ValueKind → Field Value
value kinds.Byte = variant Byte as_byte (number w8)
value kinds.Two = variant Two as_two (number w16)
value kinds.Four = variant Four as_four (number w32)
value kinds.Vbi = variant Vbi as_vbi vbi
value kinds.Text = variant Text as_text text
value kinds.Blob = variant Blob as_blob blob
value kinds.Pair = variant (λ x. Pair x.0 x.1) as_pair pair

-- a value's spelling, whatever its type
abbrev pub value_bytes : Value → List ℕ
value_bytes (Byte n) = (number w8).bytes n
value_bytes (Two n) = (number w16).bytes n
value_bytes (Four n) = (number w32).bytes n
value_bytes (Vbi n) = vbi.bytes n
value_bytes (Text t) = text.bytes t
value_bytes (Blob b) = blob.bytes b
value_bytes (Pair a b) = text.bytes a ++ text.bytes b

-- it has a spelling: of all types only a Variable Byte Integer may be too large
abbrev pub VbiFits : Value → Type 0
VbiFits (Vbi n) = n < 2 ^ 28
VbiFits _ = Unit {0}

-- a value's type
abbrev pub kind_of : Value → ValueKind
kind_of (Byte n) = kinds.Byte
kind_of (Two n) = kinds.Two
kind_of (Four n) = kinds.Four
kind_of (Vbi n) = kinds.Vbi
kind_of (Text t) = kinds.Text
kind_of (Blob b) = kinds.Blob
kind_of (Pair a b) = kinds.Pair
