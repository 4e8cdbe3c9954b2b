-- The names between the commas of a text.
use Rattle.std.proofs.Common.{◌≡◌, ◌≢◌, ℕ, eqb, false, List, [], ◌∷◌, get_or, Option, Some, None, MatchOption, Bor, lit<, arith}
use Rattle.std.proofs.lemmas.Bool.Decides.{nat_tests}
use Rattle.std.proofs.lemmas.Str.Pattern.{IsSplitOnceResult, split_once_first, split_parts}
use Rattle.std.proofs.lemmas.List.Elements.{All-from_get_or}
use Rattle.std.proofs.lemmas.List.Splits.{slice_split_first, slice_split_none}
use Rattle.status_pages.specs.Hosts.{names_in}

no_comma : (b : ℕ) → b ≢ 44 → eqb b 44 ≡ false
no_comma b other = grind (arith, nat_tests)

-- what `split_once` at a comma says of the names
pub names_split : (text : List ℕ) (r : Option (Bor (List ℕ) × Bor (List ℕ))) → IsSplitOnceResult 44 text r → MatchOption r (names_in text ≡ text ∷ []) (λ x. names_in text ≡ x.0.now ∷ names_in x.1.now)
names_split text None cut =
    slice_split_none (λ b. eqb b 44) text (All-from_get_or (λ b. eqb b 44 ≡ false) text 0 (λ i inside. no_comma (get_or text i 0) (split_parts 44 text None cut (lit< tt) i inside)))
names_split text (Some x) cut =
    let parts = split_once_first 44 text (Some x) cut (lit< tt) in
    rw (parts.1, parts.2) (slice_split_first (λ b. eqb b 44) text 0 parts.0)
