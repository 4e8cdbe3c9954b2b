-- An identifier is read back from its text.
use Rattle.std.proofs.Common.{◌≡◌, ◌<◌, ◌≤◌, ◌+◌, ◌*◌, ◌/◌, ◌%◌, ◌==◌, ◌&&◌, not, ℕ, zero, suc, Bool, true, false, cond, List, [], ◌∷◌, ◌++◌, Option, Some, length, get_or, drop, slice_index, refl, sym, ap, subst, ◌∙◌, arith}
use Rattle.std.specs.Prelude.{codes, if◌then◌else◌, nat_lt}
use Rattle.hex.specs.Hex.{hex_digit_value, upper_digits}
use Rattle.hex.proofs.HexLemmas.{IsDigits-upper_digits}
use Rattle.door_log.specs.Escaping.{digits_of, escaped, escaped_byte, is_plain}
use Rattle.door_log.specs.LineLaws.{AreBytes}

pub first_same : (x y : ℕ) (xs ys : List ℕ) → x ∷ xs ≡ y ∷ ys → x ≡ y
first_same x y xs ys e = ap (λ l. get_or l 0 0) e

pub rest_same : (x y : ℕ) (xs ys : List ℕ) → x ∷ xs ≡ y ∷ ys → xs ≡ ys
rest_same x y xs ys e = ap (λ l. drop 1 l) e

abbrev is_nothing : List ℕ → Bool
is_nothing [] = true
is_nothing (x ∷ xs) = false

pub nothing_more : (x : ℕ) (xs : List ℕ) → [] ≡ x ∷ xs → ⊥
nothing_more x xs e = let z : true ≡ false = ap is_nothing e in absurd (cc)

some_same : (a b : ℕ) → Some a ≡ Some b → a ≡ b
some_same a b e = cc

-- no two numbers below 16 have the same digit
digit_same : (a b : ℕ) → a < 16 → b < 16 → slice_index upper_digits a ≡ slice_index upper_digits b → a ≡ b
digit_same a b la lb e = some_same a b (sym (IsDigits-upper_digits a la) ∙ ap hex_digit_value e ∙ IsDigits-upper_digits b lb)

-- no two bytes have the same digits
digits_same : (a b : ℕ) → a < 256 → b < 256 → slice_index upper_digits (a / 16) ≡ slice_index upper_digits (b / 16)
    → slice_index upper_digits (a % 16) ≡ slice_index upper_digits (b % 16) → a ≡ b
digits_same a b la lb high low =
    let h : a / 16 ≡ b / 16 = digit_same (a / 16) (b / 16) (omega (arith, la)) (omega (arith, lb)) high in
    let l : a % 16 ≡ b % 16 = digit_same (a % 16) (b % 16) (omega arith) (omega arith) low in
    omega (arith, h, l)

-- a backslash doesn't stand for itself
no_backslash : (x : ℕ) → is_plain x ≡ true → x ≡ 92 → ⊥
no_backslash x plain is = let e : false ≡ true = sym (ap is_plain is) ∙ plain in cc

-- the text of a byte, plain or not
piece : Bool → ℕ → List ℕ
piece c b = if c then b ∷ [] else codes "\\x" ++ digits_of b

byte_by : (c d : Bool) (x y : ℕ) (xs ys : List ℕ) → is_plain x ≡ c → is_plain y ≡ d → x < 256 → y < 256 → piece c x ++ xs ≡ piece d y ++ ys → x ≡ y
unfolding piece
byte_by true true x y xs ys p q lx ly e = first_same x y xs ys e
byte_by true false x y xs ys p q lx ly e = absurd (no_backslash x p (ap (λ l. get_or l 0 0) e))
byte_by false true x y xs ys p q lx ly e = absurd (no_backslash y q (sym (ap (λ l. get_or l 0 0) e)))
byte_by false false x y xs ys p q lx ly e = digits_same x y lx ly (ap (λ l. get_or l 2 0) e) (ap (λ l. get_or l 3 0) e)

behind_by : (c : Bool) (x : ℕ) (xs ys : List ℕ) → piece c x ++ xs ≡ piece c x ++ ys → xs ≡ ys
unfolding piece
behind_by true x xs ys e = ap (λ l. drop 1 l) e
behind_by false x xs ys e = ap (λ l. drop 4 l) e

some_by : (c : Bool) (x : ℕ) (xs : List ℕ) → [] ≡ piece c x ++ xs → ⊥
unfolding piece
some_by true x xs e = nothing_more x xs e
some_by false x xs e = nothing_more 92 (120 ∷ slice_index upper_digits (x / 16) ∷ slice_index upper_digits (x % 16) ∷ xs) e

pub read_back : (a b : List ℕ) → AreBytes a → AreBytes b → escaped a ≡ escaped b → a ≡ b
unfolding piece
read_back [] [] p q e = refl
read_back [] (y ∷ ys) p q e = absurd (some_by (is_plain y) y (escaped ys) e)
read_back (x ∷ xs) [] p q e = absurd (some_by (is_plain x) x (escaped xs) (sym e))
read_back (x ∷ xs) (y ∷ ys) p q e =
    let same : x ≡ y = byte_by (is_plain x) (is_plain y) x y (escaped xs) (escaped ys) refl refl p.0 q.0 e in
    let e' : piece (is_plain x) x ++ escaped xs ≡ piece (is_plain x) x ++ escaped ys = e ∙ ap (λ z. piece (is_plain z) z ++ escaped ys) (sym same) in
    let more : xs ≡ ys = read_back xs ys p.1 q.1 (behind_by (is_plain x) x (escaped xs) (escaped ys) e') in
    ap (λ z. z ∷ xs) same ∙ ap (λ l. y ∷ l) more
