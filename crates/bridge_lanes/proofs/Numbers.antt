-- Numbers in two and in eight bytes stand in the order of the bytes.
use Rattle.std.proofs.Common.{◌≡◌, inl, inr, ℕ, zero, suc, ◌+◌, ◌*◌, ◌^◌, ◌<◌, ◌≤◌, List, [], ◌∷◌, length, Ordering, Less, Equal, Greater, arith, refl, sym, subst}
use Rattle.std.specs.Cmp.{ranked}
use Rattle.std.specs.Cmp.Lexicographic.{slice_cmp}
use Rattle.std.specs.Int.{w16, w64, to_be_bytes}
use Rattle.std.specs.List.{AllByRecursion}
use Rattle.std.specs.Ordering.{nat_cmp, ordering_then}
use Rattle.std.proofs.Math.Nat.{pow-succ'}
use Rattle.std.proofs.lemmas.Bool.{cases_lt}

-- the number that bytes spell
value : List ℕ → ℕ
value [] = 0
value (b ∷ bs) = b * 256 ^ length bs + value bs

abbrev AreBytes : List ℕ → Type 0
AreBytes bs = AllByRecursion (λ b. b < 256) bs

times_more : (a b p : ℕ) → a < b → a * p + p ≤ b * p
times_more a zero p low = absurd (omega (arith, low))
times_more a (suc b) p low = elim (cases_lt a b) [
  | inl less ↦ omega (arith, times_more a b p less)
  | inr most ↦ (let same : a ≡ b = omega (arith, low, most) in rw same (omega arith))
]

value_below : (bs : List ℕ) → AreBytes bs → value bs < 256 ^ length bs
unfolding value
value_below [] are = omega arith
value_below (b ∷ bs) are =
    let p = 256 ^ length bs in
    omega (arith, value_below bs are.1, times_more b 256 p are.0, pow-succ' 256 (length bs))

less_decides : (x y p v w : ℕ) → v < p → w < p → x * p + v < y * p + w → (o : Ordering) → nat_cmp x y ≡ o → (r : Ordering) → (x ≡ y → v < w → r ≡ Less) → ordering_then o r ≡ Less
less_decides x y p v w hv hw low Less is r more = refl
less_decides x y p v w hv hw low Equal is r more =
    let same : x ≡ y = ranked x y Equal (sym is) in
    more same (omega (arith, (subst (λ z. x * p + v < z * p + w) (sym same) low)))
less_decides x y p v w hv hw low Greater is r more =
    let above : y < x = ranked x y Greater (sym is) in
    absurd (omega (arith, times_more y x p above, low, hv, hw))

rise : (xs ys : List ℕ) → length xs ≡ length ys → AreBytes xs → AreBytes ys → value xs < value ys → slice_cmp nat_cmp xs ys ≡ Less
unfolding value
rise [] [] long one other low = absurd (omega (arith, low))
rise [] (y ∷ ys) long one other low = refl
rise (x ∷ xs) [] long one other low = absurd (omega (arith, long))
rise (x ∷ xs) (y ∷ ys) long one other low =
    let same : length xs ≡ length ys = omega (arith, long) in
    let p = 256 ^ length ys in
    less_decides x y p (value xs) (value ys) (subst (λ n. value xs < 256 ^ n) same (value_below xs one.1)) (value_below ys other.1)
    (subst (λ n. x * 256 ^ n + value xs < y * p + value ys) same low) (nat_cmp x y) refl (slice_cmp nat_cmp xs ys)
    (λ _ less. rise xs ys same one.1 other.1 less)

value_of : (n : ℕ) → n < 2 ^ 64 → value (to_be_bytes w64 n) ≡ n
unfolding value
value_of n low = omega (arith, low)

bytes_of : (n : ℕ) → AreBytes (to_be_bytes w64 n)
bytes_of n = (omega arith, (omega arith, (omega arith, (omega arith, (omega arith, (omega arith, (omega arith, (omega arith, tt))))))))

pub bytes_rise : (n m : ℕ) → n < m → m < 2 ^ 64 → slice_cmp nat_cmp (to_be_bytes w64 n) (to_be_bytes w64 m) ≡ Less
bytes_rise n m low small =
    rise (to_be_bytes w64 n) (to_be_bytes w64 m) refl (bytes_of n) (bytes_of m) (rw (value_of n (omega (arith, low, small)), value_of m small) low)

short_value : (n : ℕ) → n < 2 ^ 16 → value (to_be_bytes w16 n) ≡ n
unfolding value
short_value n low = omega (arith, low)

short_bytes : (n : ℕ) → AreBytes (to_be_bytes w16 n)
short_bytes n = (omega arith, (omega arith, tt))

pub short_rise : (n m : ℕ) → n < m → m < 2 ^ 16 → slice_cmp nat_cmp (to_be_bytes w16 n) (to_be_bytes w16 m) ≡ Less
short_rise n m low small =
    rise (to_be_bytes w16 n) (to_be_bytes w16 m) refl (short_bytes n) (short_bytes m) (rw (short_value n (omega (arith, low, small)), short_value m small) low)
