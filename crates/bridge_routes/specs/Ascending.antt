-- Numbers in ascending order.
use Rattle.std.specs.Prelude.{◌≡◌, ◌+◌, ◌≤◌, ◌==◌, ℕ, List, [], ◌∷◌, nat_le, if◌then◌else◌}
use Rattle.std.specs.List.{AllByRecursion}

-- each is at most those after it
abbrev pub Ascend : List ℕ → Type 0
Ascend [] = Unit {0}
Ascend (x ∷ xs) = AllByRecursion (λ y. x ≤ y) xs × Ascend xs

-- how often a number stands in a list
abbrev pub times : ℕ → List ℕ → ℕ
times n [] = 0
times n (x ∷ xs) = (if x == n then 1 else 0) + times n xs

-- the second list is the ascending permutation of the first: each number stands in it as often
pub record IsAscending (numbers sorted : List ℕ) : Type 0 where
  pub ascend : Ascend sorted
  pub same : (n : ℕ) → times n sorted ≡ times n numbers

-- ---- there is one: the numbers are put, one after the other, each before the first that isn't less; and no other (laws `IdentifiersAscend`, `OneAscends`)
abbrev pub put_number : ℕ → List ℕ → List ℕ
put_number n [] = n ∷ []
put_number n (x ∷ xs) = if nat_le n x then n ∷ x ∷ xs else x ∷ put_number n xs

abbrev pub put_numbers : List ℕ → List ℕ → List ℕ
put_numbers [] xs = xs
put_numbers (n ∷ ns) xs = put_numbers ns (put_number n xs)

-- the ascending permutation of some numbers
abbrev pub ascending : List ℕ → List ℕ
ascending numbers = put_numbers numbers []
