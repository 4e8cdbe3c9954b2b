-- Numbers of iterations.
use Rattle.std.proofs.Common.{◌≡◌, ◌≢◌, ℕ, ◌<◌, ◌≤◌, ◌^◌, Bool, true, false, not, ◌&&◌, List, [], ◌∷◌, length, get_or, refl, sym, ◌∙◌, arith}
use Rattle.std.specs.Prelude.{nat_eq, nat_le, nat_lt, Result, Ok, Err}
use Rattle.std.specs.List.{starts_with}
use Rattle.std.specs.Str.{all_ascii_digits}
use Rattle.std.specs.Str.Parse.{ParsesUnsigned, digits_value}
use Rattle.std.proofs.lemmas.Bool.Decides.{nat_tests}
use Rattle.std.proofs.lemmas.Str.Parse.{IsNumeralModel, numerals_by_value, parse_plain, tells_all_ascii_digits}
use Rattle.mqtt_access.proofs.Tests.{and_first, and_second, false_of, never}
use Rattle.door_users.specs.declared.fault.LineFlaw.TheVariants.{BadIterations}
use Rattle.door_users.specs.Accounts.{has_none, is_count, iterations_in}
use Rattle.door_users.specs.Counts.{IsRead}

own : IsNumeralModel (λ ds. all_ascii_digits ds ≡ true) (digits_value 10)
own = numerals_by_value (λ ds. all_ascii_digits ds ≡ true) tells_all_ascii_digits

-- a text that begins with `0`, or with `+`, is no count
pub zero_first : (text : List ℕ) → starts_with nat_eq text (48 ∷ []) ≡ true → iterations_in text ≡ Err BadIterations
zero_first text e = rw (no (has_none text) (starts_with nat_eq text (48 ∷ [])) (all_ascii_digits text && (nat_lt 0 (digits_value 10 text) && nat_le (digits_value 10 text) 100000)) e) refl
  where
    no : (a b z : Bool) → b ≡ true → ((not a && not b) && z) ≡ false
    no true true z e = refl
    no false true z e = refl
    no a false z e = never e

not_count : (text : List ℕ) → (is_count text ≡ true → ⊥) → iterations_in text ≡ Err BadIterations
not_count text fails = rw (false_of (is_count text) fails) refl

digits_of_count : (text : List ℕ) → is_count text ≡ true → all_ascii_digits text ≡ true
digits_of_count text e = and_first (all_ascii_digits text) _ (and_second (not (has_none text) && not (starts_with nat_eq text (48 ∷ []))) _ e)

bounds_of_count : (text : List ℕ) → is_count text ≡ true → (nat_lt 0 (digits_value 10 text) && nat_le (digits_value 10 text) 100000) ≡ true
bounds_of_count text e = and_second (all_ascii_digits text) _ (and_second (not (has_none text) && not (starts_with nat_eq text (48 ∷ []))) _ e)

pub plus_first : (text : List ℕ) → starts_with nat_eq text (43 ∷ []) ≡ true → iterations_in text ≡ Err BadIterations
plus_first text e = not_count text (λ c. never (sym (first_byte text e) ∙ digits_of_count text c))
  where
    first_byte : (text : List ℕ) → starts_with nat_eq text (43 ∷ []) ≡ true → all_ascii_digits text ≡ false
    first_byte [] e = never e
    first_byte (x ∷ xs) e = let h : x ≡ 43 = grind (arith, nat_tests) in rw h refl

not_plus : (text : List ℕ) → starts_with nat_eq text (43 ∷ []) ≡ false → get_or text 0 0 ≢ 43
not_plus [] e h = grind arith
not_plus (x ∷ xs) e h = grind (arith, nat_tests)

-- what `parse` reads
pub read_by : {E : Type 0} (text : List ℕ) (r : Result ℕ E) (n : ℕ) → starts_with nat_eq text (43 ∷ []) ≡ false → ParsesUnsigned 32 10 text r → r ≡ Ok n → IsRead text n
read_by text r n no_plus parsed is = given (rw is at (parse_plain {P = λ ds. all_ascii_digits ds ≡ true} {v = digits_value 10} own 32 text r parsed (not_plus text no_plus)))
  where
    given : ((all_ascii_digits text ≡ true) × (0 < length text) × (digits_value 10 text < 2 ^ 32)) × (n ≡ digits_value 10 text) → IsRead text n
    given h = record { digits = h.0.0; some = h.0.1; fits = h.0.2; value = h.1 }

-- is the count, where it is in its bounds
pub count_read : (text : List ℕ) (n : ℕ) → starts_with nat_eq text (48 ∷ []) ≡ false → IsRead text n → 1 ≤ n → n ≤ 100000 → iterations_in text ≡ Ok n
count_read text n no_zero read some most =
    let v = digits_value 10 text in
    let none : has_none text ≡ false = let l = read.some in grind (arith, nat_tests) in
    let low : nat_lt 0 v ≡ true = let e = read.value in grind (arith, nat_tests) in
    let high : nat_le v 100000 ≡ true = let e = read.value in grind (arith, nat_tests) in
    rw (all (has_none text) (starts_with nat_eq text (48 ∷ [])) (all_ascii_digits text) (nat_lt 0 v) (nat_le v 100000) none no_zero read.digits low high) (rw (sym read.value) refl)
  where
    all : (a b c d e : Bool) → a ≡ false → b ≡ false → c ≡ true → d ≡ true → e ≡ true → ((not a && not b) && (c && (d && e))) ≡ true
    all a b c d e p q r s t = rw (p, q, r, s, t) refl

-- and none past them
count_out : (text : List ℕ) (n : ℕ) → IsRead text n → (0 < n → n ≤ 100000 → ⊥) → iterations_in text ≡ Err BadIterations
count_out text n read fails = not_count text (λ c.
    let v = digits_value 10 text in
    let low : 0 < v = let e = and_first (nat_lt 0 v) (nat_le v 100000) (bounds_of_count text c) in grind (arith, nat_tests) in
    let high : v ≤ 100000 = let e = and_second (nat_lt 0 v) (nat_le v 100000) (bounds_of_count text c) in grind (arith, nat_tests) in
    let is = read.value in fails (omega (arith, low)) (omega (arith, high)))

pub count_few : (text : List ℕ) (n : ℕ) → IsRead text n → n < 1 → iterations_in text ≡ Err BadIterations
count_few text n read few = count_out text n read (λ some most. omega (arith, few))

pub count_many : (text : List ℕ) (n : ℕ) → IsRead text n → 100000 < n → iterations_in text ≡ Err BadIterations
count_many text n read many = count_out text n read (λ some most. omega (arith, many))

-- what it doesn't read is none
pub count_unread : {E : Type 0} (text : List ℕ) (error : E) → starts_with nat_eq text (43 ∷ []) ≡ false → ParsesUnsigned 32 10 text (Err error) → iterations_in text ≡ Err BadIterations
count_unread text error no_plus parsed = not_count text (λ c.
    let v = digits_value 10 text in
    let high : v ≤ 100000 = let e = and_second (nat_lt 0 v) (nat_le v 100000) (bounds_of_count text c) in grind (arith, nat_tests) in
    let some : 0 < length text = let e = and_first (not (has_none text)) _ (and_first (not (has_none text) && not (starts_with nat_eq text (48 ∷ []))) _ c) in grind (arith, nat_tests) in
    parse_plain {P = λ ds. all_ascii_digits ds ≡ true} {v = digits_value 10} own 32 text (Err error) parsed (not_plus text no_plus) (digits_of_count text c, some, omega (arith, high)))
