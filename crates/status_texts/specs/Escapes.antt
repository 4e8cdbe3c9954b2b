-- Names as they stand in the texts.
use Rattle.std.specs.Prelude.{◌≡◌, ◌≢◌, ◌⊎◌, ℕ, ◌==◌, List, codes, encode_utf8, if◌then◌else◌}
use Rattle.std.specs.List.{All, flat_map}
use Rattle.std.specs.Str.{chars}

-- a character in HTML: `&`, `<`, `>`, `"` and `'` are references, and any other is itself
abbrev pub escape_of : ℕ → List ℕ
escape_of c =
    if c == 38 then codes "&amp;"
    else if c == 60 then codes "&lt;"
    else if c == 62 then codes "&gt;"
    else if c == 34 then codes "&quot;"
    else if c == 39 then codes "&#39;"
    else encode_utf8 c

-- a text in HTML, character by character
unfoldable pub escaped : List ℕ → List ℕ
escaped text = flat_map escape_of (chars text)

-- a character in the value of a label: `\`, `"` and the end of a line have a `\` before them
abbrev pub label_escape_of : ℕ → List ℕ
label_escape_of c =
    if c == 92 then codes "\\\\"
    else if c == 34 then codes "\\\""
    else if c == 10 then codes "\\n"
    else encode_utf8 c

-- a text in the value of a label, character by character
unfoldable pub label : List ℕ → List ℕ
label text = flat_map label_escape_of (chars text)

-- a byte that means nothing in HTML but itself
abbrev pub IsPlain : ℕ → Type 0
IsPlain b = (b ≢ 38) × (b ≢ 60) × (b ≢ 62) × (b ≢ 34) × (b ≢ 39)

-- a reference, or bytes that are plain
abbrev pub IsPiece : List ℕ → Type 0
IsPiece piece =
    (piece ≡ codes "&amp;") ⊎ (piece ≡ codes "&lt;") ⊎ (piece ≡ codes "&gt;") ⊎ (piece ≡ codes "&quot;") ⊎ (piece ≡ codes "&#39;")
    ⊎ All IsPlain piece

-- bytes that end no element and no attribute, and begin none
pub record IsNoMarkup (bytes : List ℕ) : Type 0 where
  pub pieces : List (List ℕ)
  pub joined : flat_map (λ piece. piece) pieces ≡ bytes
  pub each : All IsPiece pieces

-- a `\` with what it is before, or bytes that end neither a label's value nor a line
abbrev pub IsLabelPiece : List ℕ → Type 0
IsLabelPiece piece =
    (piece ≡ codes "\\\\") ⊎ (piece ≡ codes "\\\"") ⊎ (piece ≡ codes "\\n")
    ⊎ All (λ b. (b ≢ 92) × (b ≢ 34) × (b ≢ 10)) piece

-- bytes that stay within the quotes of a label's value
pub record IsWithinQuotes (bytes : List ℕ) : Type 0 where
  pub pieces : List (List ℕ)
  pub joined : flat_map (λ piece. piece) pieces ≡ bytes
  pub each : All IsLabelPiece pieces
