-- The first line of a text, and the others.
use Rattle.std.proofs.Common.{◌≡◌, ◌≢◌, ℕ, ◌+◌, ◌≤◌, length, false, List, [], ◌∷◌, get_or, Option, Some, None, MatchOption, Bor, lit<, arith}
use Rattle.std.proofs.lemmas.Bool.Decides.{nat_tests}
use Rattle.std.proofs.lemmas.Str.Pattern.{IsSplitOnceResult, split_once_first, split_parts}
use Rattle.std.proofs.lemmas.List.Elements.{All-from_get_or}
use Rattle.std.proofs.lemmas.List.Splits.{length-slice_split, slice_split_first, slice_split_none}
use Rattle.std.proofs.lemmas.List.Sums.{count_by-le-length}
use Rattle.door_users.specs.Lines.{file_lines, is_newline}

no_newline : (b : ℕ) → b ≢ 10 → is_newline b ≡ false
no_newline b other = grind (arith, nat_tests)

-- what `split_once` at a newline says of the lines
pub lines_split : (text : List ℕ) (r : Option (Bor (List ℕ) × Bor (List ℕ))) → IsSplitOnceResult 10 text r → MatchOption r (file_lines text ≡ text ∷ []) (λ x. file_lines text ≡ x.0.now ∷ file_lines x.1.now)
lines_split text None cut =
    slice_split_none is_newline text (All-from_get_or (λ b. is_newline b ≡ false) text 0 (λ i inside. no_newline (get_or text i 0) (split_parts 10 text None cut (lit< tt) i inside)))
lines_split text (Some x) cut =
    let parts = split_once_first 10 text (Some x) cut (lit< tt) in
    rw (parts.1, parts.2) (slice_split_first is_newline text 0 parts.0)

-- a text has at most one line more than bytes
pub lines_bound : (text : List ℕ) → length (file_lines text) ≤ length text + 1
lines_bound text = omega (arith, length-slice_split is_newline text, count_by-le-length is_newline text)
