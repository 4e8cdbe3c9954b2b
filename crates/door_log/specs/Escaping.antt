-- Identifiers of clients, as text.
use Rattle.std.specs.Prelude.{ℕ, ◌/◌, ◌%◌, ◌==◌, ◌&&◌, not, nat_lt, Bool, List, [], ◌∷◌, ◌++◌, codes, flat_map, slice_index, if◌then◌else◌}
use Rattle.hex.specs.Hex.{upper_digits}

-- the two digits of a byte, the high four bits first
abbrev pub digits_of : ℕ → List ℕ
digits_of b = slice_index upper_digits (b / 16) ∷ slice_index upper_digits (b % 16) ∷ []

-- a visible character of ASCII, and no backslash
abbrev pub is_plain : ℕ → Bool
is_plain b = nat_lt 32 b && nat_lt b 127 && not (b == 92)

-- itself, or a backslash, an x and its two digits
abbrev pub escaped_byte : ℕ → List ℕ
escaped_byte b = if is_plain b then b ∷ [] else codes "\\x" ++ digits_of b

abbrev pub escaped : List ℕ → List ℕ
escaped bytes = flat_map escaped_byte bytes

-- a reason code (MQTT 5.0, 2.4)
abbrev pub reason_text : ℕ → List ℕ
reason_text code = codes "0x" ++ digits_of code
