-- Hexadecimal text, one more byte at a time.
use Rattle.std.proofs.Common.{◌≡◌, ℕ, ◌+◌, ◌/◌, ◌%◌, ◌<◌, List, [], ◌∷◌, ◌++◌, take, length, get_or, ap, ◌∙◌, refl}
use Rattle.std.proofs.lemmas.List.{take_more}
use Rattle.std.specs.Prelude.{slice_index}
use Rattle.hex.specs.Hex.{encode_lower, encode_with, lower_digits}

encode_with-append : (t xs ys : List ℕ) → encode_with t (xs ++ ys) ≡ encode_with t xs ++ encode_with t ys
unfolding encode_with
encode_with-append t [] ys = refl
encode_with-append t (x ∷ xs) ys = ap (λ rest. slice_index t (x / 16) ∷ slice_index t (x % 16) ∷ rest) (encode_with-append t xs ys)

-- the digits of one more byte come at the end
pub encode_lower-take_more : (xs : List ℕ) (i : ℕ) → i < length xs
    → encode_lower (take (i + 1) xs) ≡ encode_lower (take i xs) ++ (slice_index lower_digits (get_or xs i 0 / 16) ∷ slice_index lower_digits (get_or xs i 0 % 16) ∷ [])
unfolding encode_with
encode_lower-take_more xs i h = ap (encode_with lower_digits) (take_more xs i 0 h) ∙ encode_with-append lower_digits (take i xs) (get_or xs i 0 ∷ [])
