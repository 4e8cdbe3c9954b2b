-- Of some numbers one list alone is their ascending permutation.
use Rattle.std.proofs.Common.{◌≡◌, ◌+◌, ◌≤◌, ℕ, true, refl, sym, subst, ◌∙◌, List, [], ◌∷◌, inl, inr, eqb-true, arith}
use Rattle.std.specs.Prelude.{◌==◌}
use Rattle.std.specs.List.{AllByRecursion}
use Rattle.std.proofs.lemmas.Bool.{cases_Bool}
use Rattle.std.proofs.lemmas.Bool.Decides.{nat_tests}
use Rattle.bridge_routes.specs.Ascending.{Ascend, times}
use Rattle.bridge_routes.specs.Laws.{OneAscends}

-- a number that stands in a list is no less than what is below all of it
no_less : (a k : ℕ) (xs : List ℕ) → AllByRecursion (λ y. a ≤ y) xs → 1 ≤ times k xs → a ≤ k
no_less a k [] all some = absurd (omega (arith, some))
no_less a k (x ∷ xs) all some = elim (cases_Bool (x == k)) [
  | inl t ↦ (let same : x ≡ k = eqb-true x k t in omega (arith, same, all.0))
  | inr f ↦ (let more : 1 ≤ 0 + times k xs = rw f at some in no_less a k xs all.1 (omega (arith, more)))
]

itself : (x : ℕ) → (x == x) ≡ true
itself x = grind (arith, nat_tests)

first_stands : (x : ℕ) (xs : List ℕ) → 1 ≤ times x (x ∷ xs)
first_stands x xs = rw (itself x) (omega arith)

-- the first of an ascending list is no more than another one that stands in it
first_least : (x k : ℕ) (xs : List ℕ) → Ascend (x ∷ xs) → 1 ≤ times k (x ∷ xs) → x ≤ k
first_least x k xs up some = no_less x k (x ∷ xs) (omega arith, up.0) some

same_times : (xs ys : List ℕ) → Ascend xs → Ascend ys → ((n : ℕ) → times n xs ≡ times n ys) → xs ≡ ys
same_times [] [] up also same = refl
same_times [] (y ∷ ys) up also same = absurd (omega (arith, same y, first_stands y ys))
same_times (x ∷ xs) [] up also same = absurd (omega (arith, same x, first_stands x xs))
same_times (x ∷ xs) (y ∷ ys) up also same =
    let one = first_least x y xs up (omega (arith, same y, first_stands y ys)) in
    let other = first_least y x ys also (omega (arith, same x, first_stands x xs)) in
    let first : y ≡ x = omega (arith, one, other) in
    let rest : (n : ℕ) → times n xs ≡ times n ys = λ n. omega (arith, subst (λ z. times n (x ∷ xs) ≡ times n (z ∷ ys)) first (same n)) in
    λ i. sym first i ∷ same_times xs ys up.1 also.1 rest i

pub one_ascends : OneAscends
one_ascends numbers xs ys one other = same_times xs ys one.ascend other.ascend (λ n. one.same n ∙ sym (other.same n))
