-- Identifiers that a node gives by itself, and how they are read.
use Rattle.std.proofs.Common.{◌≡◌, ◌≢◌, ◌<◌, ◌^◌, ℕ, true, ◌&&◌, List, [], ◌∷◌, ◌++◌, length, drop, get_or, rules, Option, Some, None, MatchOption, Result, Ok, Err, MatchResult, Bor, zero, suc, refl, sym, ap, ◌∙◌, subst, lit<, arith}
use Rattle.std.specs.Prelude.{codes, decimal}
use Rattle.std.specs.List.{list_all}
use Rattle.std.specs.Char.{is_ascii_digit}
use Rattle.std.specs.Str.{all_ascii_digits}
use Rattle.std.specs.Str.Parse.{ParsesUnsigned, digits_value}
use Rattle.std.proofs.lemmas.Fmt.{decimal_digit, first_decimal, decimal_nonempty, parse-decimal, decimal-digits_value, decimal_injective, digits_decimal}
use Rattle.std.proofs.lemmas.Str.Parse.{IsNumeralModel, numerals_by_value, parse_plain}
use Rattle.std.proofs.lemmas.Str.Pattern.{IsSplitOnceResult, split_after}
use Rattle.std.proofs.lemmas.Bool.{and_parts}
use Rattle.home_table.specs.Homes.{IsWholeNumber, IsAutomatic}

pub numeral : IsNumeralModel (λ ds. all_ascii_digits ds ≡ true) (digits_value 10)
numeral = numerals_by_value _ (search rules)

pub digits-list_all : (bs : List ℕ) → list_all is_ascii_digit bs ≡ all_ascii_digits bs
digits-list_all [] = refl
digits-list_all (b ∷ bs) = ap (λ r. is_ascii_digit b && r) (digits-list_all bs)

-- a number in decimal is a whole number
pub decimal_is_whole : (n : ℕ) → n < 2 ^ 64 → IsWholeNumber (decimal n)
decimal_is_whole zero small =
    let e : decimal 0 ≡ 48 ∷ [] = decimal_digit 0 (omega arith) in
    subst IsWholeNumber (sym e) (record { some = omega arith; digits = refl; plain = λ _. refl })
decimal_is_whole (suc n) small =
    let f = first_decimal (suc n) (omega arith) small in
    record { some = decimal_nonempty (suc n) small; digits = digits_decimal numeral (suc n) small; plain = λ e. absurd (omega (arith, f, e)) }

-- the first byte of digits is no plus
not_plus : (bs : List ℕ) → 0 < length bs → all_ascii_digits bs ≡ true → get_or bs 0 0 ≢ 43
not_plus [] some all e = omega arith
not_plus (b ∷ bs) some all e = low b (and_parts (is_ascii_digit b) (all_ascii_digits bs) all).0 e where
  low : (c : ℕ) → is_ascii_digit c ≡ true → c ≡ 43 → ⊥
  low c h e' = let P : ℕ → Type 0 = λ n. is_ascii_digit n ≡ true in plus (subst P e' h) where
    plus : is_ascii_digit 43 ≡ true → ⊥
    plus h' = cc

-- what `parse` answers on a whole number
pub number_read : {E : Type 0} (bs : List ℕ) (r : Result ℕ E) → ParsesUnsigned 16 10 bs r → IsWholeNumber bs
    → MatchResult r (λ n. (n < 2 ^ 16) × (bs ≡ decimal n)) (λ _. (n : ℕ) → n < 2 ^ 16 → bs ≡ decimal n → ⊥)
number_read {E} bs (Ok n) parsed whole =
    let got = parse_plain numeral {E = E} 16 bs (Ok n) parsed (not_plus bs whole.some whole.digits) in
    let text = decimal-digits_value numeral bs got.0.0 got.0.1 whole.plain (omega (arith, got.0.2)) in
    (subst (λ n. n < 2 ^ 16) (sym got.1) got.0.2, sym text ∙ ap decimal (sym got.1))
number_read {E} bs (Err e) parsed whole = λ n small is.
    let found = parse-decimal {E = E} 16 n bs (Err e) small (omega arith) is parsed in cc found

-- no digit is a dash
pub no_dash : (bs : List ℕ) → all_ascii_digits bs ≡ true → (i : ℕ) → i < length bs → get_or bs i 0 ≢ 45
no_dash [] all i inside e = omega arith
no_dash (b ∷ bs) all zero inside e = dash b (and_parts (is_ascii_digit b) (all_ascii_digits bs) all).0 e where
  dash : (c : ℕ) → is_ascii_digit c ≡ true → c ≡ 45 → ⊥
  dash c h e' = let P : ℕ → Type 0 = λ n. is_ascii_digit n ≡ true in minus (subst P e' h) where
    minus : is_ascii_digit 45 ≡ true → ⊥
    minus h' = cc
no_dash (b ∷ bs) all (suc i) inside e = no_dash bs (and_parts (is_ascii_digit b) (all_ascii_digits bs) all).1 i (omega arith) e

auto_no_dash : (i : ℕ) → i < 4 → get_or (codes "auto") i 0 ≢ 45
auto_no_dash zero h e = omega arith
auto_no_dash (suc zero) h e = omega arith
auto_no_dash (suc (suc zero)) h e = omega arith
auto_no_dash (suc (suc (suc zero))) h e = omega arith
auto_no_dash (suc (suc (suc (suc i)))) h e = omega arith

-- what the first cut gives of such an identifier
pub cut_auto : (identifier : List ℕ) (node : ℕ) (r : Option (Bor (List ℕ) × Bor (List ℕ))) → IsSplitOnceResult 45 identifier r → IsAutomatic identifier node
    → MatchOption r ⊥ (λ x. (x.0.now ≡ codes "auto") × ((number : List ℕ) × IsWholeNumber number × (x.1.now ≡ decimal node ++ (45 ∷ number))))
cut_auto identifier node None cut (number, whole, e) = split_after 45 identifier (codes "auto") (decimal node ++ (45 ∷ number)) None cut (lit< tt) e auto_no_dash
cut_auto identifier node (Some x) cut (number, whole, e) =
    let parts = split_after 45 identifier (codes "auto") (decimal node ++ (45 ∷ number)) (Some x) cut (lit< tt) e auto_no_dash in
    (parts.0, (number, whole, parts.1))

-- what the second cut gives
pub cut_node : (rest number : List ℕ) (node : ℕ) (r : Option (Bor (List ℕ) × Bor (List ℕ))) → node < 2 ^ 64 → IsSplitOnceResult 45 rest r → rest ≡ decimal node ++ (45 ∷ number)
    → MatchOption r ⊥ (λ x. (x.0.now ≡ decimal node) × (x.1.now ≡ number))
cut_node rest number node r small cut e = split_after 45 rest (decimal node) number r cut (lit< tt) e (no_dash (decimal node) (digits_decimal numeral node small))

-- both cuts, joined again
pub joined : (identifier auto rest node number : List ℕ) (n : ℕ) → identifier ≡ auto ++ (45 ∷ rest) → auto ≡ codes "auto" → rest ≡ node ++ (45 ∷ number) → node ≡ decimal n → IsWholeNumber number
    → IsAutomatic identifier n
joined identifier auto rest node number n e front later is whole =
    (number, whole, e ∙ ap (λ a. a ++ (45 ∷ rest)) front ∙ ap (λ r. codes "auto" ++ (45 ∷ r)) (later ∙ ap (λ t. t ++ (45 ∷ number)) is))

-- digits before a dash end there alone
same_front : (a b x y : List ℕ) → all_ascii_digits a ≡ true → all_ascii_digits b ≡ true → a ++ (45 ∷ x) ≡ b ++ (45 ∷ y) → a ≡ b
same_front [] [] x y ha hb e = refl
same_front [] (b ∷ bs) x y ha hb e = absurd (no_dash (b ∷ bs) hb 0 (omega arith) (let h : 45 ≡ b = cc in sym h))
same_front (a ∷ as') [] x y ha hb e = absurd (no_dash (a ∷ as') ha 0 (omega arith) (let h : a ≡ 45 = cc in h))
same_front (a ∷ as') (b ∷ bs) x y ha hb e =
    let heads : a ≡ b = cc in
    let tails : as' ++ (45 ∷ x) ≡ bs ++ (45 ∷ y) = cc in
    let rest = same_front as' bs x y (and_parts (is_ascii_digit a) (all_ascii_digits as') ha).1 (and_parts (is_ascii_digit b) (all_ascii_digits bs) hb).1 tails in
    ap (λ c. c ∷ as') heads ∙ ap (λ cs. b ∷ cs) rest

-- one node alone gives an identifier
pub automatic_alone : (identifier : List ℕ) (i j : ℕ) → i < 2 ^ 64 → j < 2 ^ 64 → IsAutomatic identifier i → IsAutomatic identifier j → i ≡ j
automatic_alone identifier i j low low_too (x, wx, ex) (y, wy, ey) =
    let both : codes "auto-" ++ (decimal i ++ (45 ∷ x)) ≡ codes "auto-" ++ (decimal j ++ (45 ∷ y)) = sym ex ∙ ey in
    let rests : decimal i ++ (45 ∷ x) ≡ decimal j ++ (45 ∷ y) = ap (drop 5) both in
    decimal_injective i j low low_too (same_front (decimal i) (decimal j) x y (digits_decimal numeral i low) (digits_decimal numeral j low_too) rests)
