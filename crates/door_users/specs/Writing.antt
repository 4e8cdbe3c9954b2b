-- The line of a user, as `mosquitto_passwd` writes it.
use Rattle.std.specs.Prelude.{ℕ, ◌==◌, ◌^◌, not, ◌&&◌, ◌||◌, Bool, List, ◌∷◌, [], ◌++◌, codes, length, nat_eq, nat_lt}
use Rattle.std.specs.List.{list_any, starts_with}
use Rattle.std.specs.Str.{bytes_eq, trim}
use Rattle.std.specs.Fmt.{decimal}
use Rattle.base64.specs.Engines.{standard}
use Rattle.base64.specs.GeneralPurpose.{encode_of}
use Rattle.mqtt_access.specs.Pbkdf2.{derived_key}

abbrev pub head_of : List ℕ → ℕ → List ℕ
head_of name iterations = name ++ (codes ":$7$" ++ decimal iterations)

abbrev pub line_of : List ℕ → List ℕ → List ℕ → List ℕ
line_of head salt hash = head ++ (codes "$" ++ (salt ++ (codes "$" ++ hash)))

abbrev pub line_for : List ℕ → List ℕ → List ℕ → ℕ → List ℕ
line_for name password salt iterations = line_of (head_of name iterations) (encode_of standard salt) (encode_of standard (derived_key password salt iterations))

-- a colon, a line feed or U+0000
abbrev pub is_mark : ℕ → Bool
is_mark b = (b == 58) || ((b == 10) || (b == 0))

-- a name that a line may have
abbrev pub is_user_name : List ℕ → Bool
is_user_name name =
    not (length name == 0) && (nat_lt (length name) (2 ^ 16) && (not (starts_with nat_eq name (35 ∷ [])) && (bytes_eq (trim name) name && not (list_any is_mark name))))
