-- Names character by character.
use Rattle.std.proofs.Common.{◌≡◌, ℕ, List, [], ◌++◌, length, chars, encode_utf8, IsUtf8, ap, ◌∙◌}
use Rattle.std.proofs.lemmas.Str.{chars_past_char, chars-nil}
use Rattle.std.proofs.lemmas.List.{nil_from_length}
use Rattle.status_texts.specs.Escapes.{escape_of, escaped, label, label_escape_of}

chars_of_empty : (text : List ℕ) → length text ≡ 0 → chars text ≡ []
chars_of_empty text none = ap chars (nil_from_length text none) ∙ chars-nil

pub escaped_empty : (text : List ℕ) → length text ≡ 0 → escaped text ≡ []
unfolding escaped
escaped_empty text none = rw (chars_of_empty text none)

pub escaped_step : (text rest : List ℕ) (c : ℕ) → IsUtf8 text → text ≡ encode_utf8 c ++ rest → escaped text ≡ escape_of c ++ escaped rest
unfolding escaped
escaped_step text rest c utf8 parts = rw (chars_past_char text rest c utf8 parts)

pub label_empty : (text : List ℕ) → length text ≡ 0 → label text ≡ []
unfolding label
label_empty text none = rw (chars_of_empty text none)

pub label_step : (text rest : List ℕ) (c : ℕ) → IsUtf8 text → text ≡ encode_utf8 c ++ rest → label text ≡ label_escape_of c ++ label rest
unfolding label
label_step text rest c utf8 parts = rw (chars_past_char text rest c utf8 parts)
