-- Numbers that are put one after the other, each before the first that isn't less, ascend, and each stands as often as before.
use Rattle.std.proofs.Common.{◌≡◌, ◌+◌, ◌≤◌, ℕ, true, false, refl, List, [], ◌∷◌, inl, inr, arith}
use Rattle.std.specs.Prelude.{◌==◌, nat_le, if◌then◌else◌}
use Rattle.std.specs.List.{AllByRecursion}
use Rattle.std.proofs.lemmas.Bool.{cases_Bool}
use Rattle.std.proofs.lemmas.Bool.Decides.{nat_tests}
use Rattle.bridge_routes.specs.Ascending.{Ascend, IsAscending, times, put_number, put_numbers, ascending}

all_above : (a b : ℕ) (xs : List ℕ) → a ≤ b → AllByRecursion (λ y. b ≤ y) xs → AllByRecursion (λ y. a ≤ y) xs
all_above a b [] low all = tt
all_above a b (x ∷ xs) low all = (omega (arith, low, all.0), all_above a b xs low all.1)

is_low : (n x : ℕ) → nat_le n x ≡ true → n ≤ x
is_low n x h = grind (arith, nat_tests)

is_high : (n x : ℕ) → nat_le n x ≡ false → x ≤ n
is_high n x h = grind (arith, nat_tests)

put_above : (a n : ℕ) (xs : List ℕ) → a ≤ n → AllByRecursion (λ y. a ≤ y) xs → AllByRecursion (λ y. a ≤ y) (put_number n xs)
put_above a n [] low all = (low, tt)
put_above a n (x ∷ xs) low all = elim (cases_Bool (nat_le n x)) [
  | inl t ↦ rw t (low, all)
  | inr f ↦ rw f (all.0, put_above a n xs low all.1)
]

put_ascends : (n : ℕ) (xs : List ℕ) → Ascend xs → Ascend (put_number n xs)
put_ascends n [] up = (tt, tt)
put_ascends n (x ∷ xs) up = elim (cases_Bool (nat_le n x)) [
  | inl t ↦ rw t ((is_low n x t, all_above n x xs (is_low n x t) up.0), up)
  | inr f ↦ rw f (put_above x n xs (is_high n x f) up.0, put_ascends n xs up.1)
]

put_times : (k n : ℕ) (xs : List ℕ) → times k (put_number n xs) ≡ (if n == k then 1 else 0) + times k xs
put_times k n [] = refl
put_times k n (x ∷ xs) = elim (cases_Bool (nat_le n x)) [
  | inl t ↦ rw t refl
  | inr f ↦ rw f (omega (arith, put_times k n xs))
]

all_ascend : (ns xs : List ℕ) → Ascend xs → Ascend (put_numbers ns xs)
all_ascend [] xs up = up
all_ascend (n ∷ ns) xs up = all_ascend ns (put_number n xs) (put_ascends n xs up)

all_times : (k : ℕ) (ns xs : List ℕ) → times k (put_numbers ns xs) ≡ times k ns + times k xs
all_times k [] xs = omega arith
all_times k (n ∷ ns) xs = omega (arith, all_times k ns (put_number n xs), put_times k n xs)

none_more : (k : ℕ) (ns : List ℕ) → times k (put_numbers ns []) ≡ times k ns
none_more k ns = omega (arith, all_times k ns [])

pub ascending_ascends : (ns : List ℕ) → IsAscending ns (ascending ns)
ascending_ascends ns = record { ascend = all_ascend ns [] tt; same = λ k. none_more k ns }
