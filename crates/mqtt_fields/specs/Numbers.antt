-- Integers, strings and binary data (MQTT 5.0, 1.5).
use Rattle.std.specs.Prelude.{ℕ, zero, suc, ◌+◌, ◌-◌, ◌*◌, ◌/◌, ◌%◌, ◌^◌, ◌<◌, List, [], ◌∷◌, ◌++◌, length, take, drop, Result, Ok, Err, nat_lt, ◌==◌, if◌then◌else◌, IsTrue, not, Bool, ◌&&◌}
use Rattle.std.specs.Int.{Width, byte_len, from_be_bytes, to_be_bytes, w16, w32}
use Rattle.std.specs.Str.{is_utf8}
use Rattle.std.specs.List.{list_all}
use Rattle.mqtt_fields.specs.declared.fault.FieldFault.{FieldFault}
use Rattle.mqtt_fields.specs.declared.fault.FieldFault.TheVariants.{Short, Malformed}
use Rattle.mqtt_fields.specs.Reading.{◌>>=◌}
use Rattle.mqtt_fields.specs.Field.{Field, after, tested}

-- so many bytes, whatever they are
abbrev pub run_of : ℕ → Field (List ℕ)
run_of n = record {
  at = λ bs. if nat_lt (length bs) n then Err Short else Ok (take n bs, drop n bs);
  bytes = λ xs. xs;
  Fits = λ xs. Unit {0};
}

-- an integer of this width, the highest byte first: Two and Four Byte Integers (MQTT 5.0, 1.5.2 and 1.5.3)
abbrev pub number : Width → Field ℕ
number w = record {
  at = λ bs. if nat_lt (length bs) (byte_len w) then Err Short else Ok (from_be_bytes w (take (byte_len w) bs), drop (byte_len w) bs);
  bytes = to_be_bytes w;
  Fits = λ n. n < 256 ^ byte_len w;
}

-- A Variable Byte Integer (MQTT 5.0, 1.5.5) of at most k + 1 bytes, the lowest seven bits first: a byte below 128 is
-- the last one, and the bytes after another stand for the rest.
abbrev pub groups : ℕ → ℕ → List ℕ
groups zero n = n ∷ []
groups (suc k) n = if nat_lt n 128 then n ∷ [] else (n % 128 + 128) ∷ groups k (n / 128)

-- The same, read: another byte after the last one that there may be, and a rest of 0, are Malformed. So only the
-- fewest bytes are taken.
abbrev pub group_at : ℕ → List ℕ → Result (ℕ × List ℕ) FieldFault
group_at k [] = Err Short
group_at zero (b ∷ rest) = if nat_lt b 128 then Ok (b, rest) else Err Malformed
group_at (suc k) (b ∷ rest) = if nat_lt b 128 then Ok (b, rest) else
    (group_at k rest >>= λ high. if high.0 == 0 then Err Malformed else Ok (b - 128 + 128 * high.0, high.1))

-- a Variable Byte Integer: one to four bytes
abbrev pub vbi : Field ℕ
vbi = record { at = group_at 3; bytes = groups 3; Fits = λ n. n < 2 ^ 28 }

-- a length of this width, and that many bytes
abbrev pub counted : Width → Field (List ℕ)
counted w = record {
  at = λ bs. (number w).at bs >>= λ n. (run_of n.0).at n.1;
  bytes = λ xs. to_be_bytes w (length xs) ++ xs;
  Fits = λ xs. length xs < 256 ^ byte_len w;
}

-- Binary Data (MQTT 5.0, 1.5.6)
abbrev pub blob : Field (List ℕ)
blob = counted w16

-- longer data, which stands in no packet
abbrev pub long : Field (List ℕ)
long = counted w32

-- well-formed UTF-8 without U+0000, whose byte in UTF-8 is 0, as no other character's is
abbrev pub is_text : List ℕ → Bool
is_text bs = is_utf8 bs && list_all (λ b. not (b == 0)) bs

-- a UTF-8 Encoded String (MQTT 5.0, 1.5.4)
abbrev pub text : Field (List ℕ)
text = tested is_text Malformed blob

-- a UTF-8 String Pair (MQTT 5.0, 1.5.7)
abbrev pub pair : Field (List ℕ × List ℕ)
pair = after text (λ _. text)

-- the bytes of a string that has a spelling
abbrev pub IsText : List ℕ → Type 0
IsText bs = (length bs < 2 ^ 16) × IsTrue (is_text bs)

-- binary data that has a spelling
abbrev pub IsBlob : List ℕ → Type 0
IsBlob bs = length bs < 2 ^ 16
