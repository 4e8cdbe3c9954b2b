-- A range of dots between its ends.
use Rattle.std.proofs.Common.{◌≡◌, ℕ, Bool, true, false, ◌&&◌, not, refl, ◌∙◌, arith, Some, None, if◌then◌else◌, ◌^◌}
use Rattle.std.specs.Prelude.{nat_le, nat_lt, ◌==◌}
use Rattle.std.specs.Ordering.{nat_cmp, ordering_then, is_le, is_lt}
use Rattle.std.proofs.lemmas.Bool.Decides.{nat_tests}
use Rattle.causal_context.specs.Dots.{Dot, dot_of, dot_cmp}
use Rattle.causal_context.specs.declared.ranges.Range.{Range}
use Rattle.causal_context.specs.Ranges.{covers}

from_first : (f k : ℕ) → is_le (nat_cmp f k) ≡ nat_le f k
from_first f k = grind (arith, nat_tests)

to_last : (l k : ℕ) → not (is_lt (nat_cmp l k)) ≡ nat_le k l
to_last l k = grind (arith, nat_tests)

numbers : (n m f l k : ℕ) → (is_le (ordering_then (nat_cmp n m) (nat_cmp f k)) && not (is_lt (ordering_then (nat_cmp n m) (nat_cmp l k)))) ≡ ((n == m) && (nat_le f k && nat_le k l))
numbers n m f l k = by (nat_lt n m) (n == m) refl refl
  where
    by : (a b : Bool) → nat_lt n m ≡ a → (n == m) ≡ b
        → (is_le (ordering_then (nat_cmp n m) (nat_cmp f k)) && not (is_lt (ordering_then (nat_cmp n m) (nat_cmp l k)))) ≡ ((n == m) && (nat_le f k && nat_le k l))
    by true true p q = grind (arith, nat_tests)
    by true false p q = grind (arith, nat_tests)
    by false true p q = grind (arith, nat_tests)
    by false false p q = grind (arith, nat_tests)

pub between_is : (r : Range) (a b : Dot) → a ≡ record { node = r.node; number = r.first } → b ≡ record { node = r.node; number = r.last } → (d : Dot) → (is_le (dot_cmp a d) && not (is_lt (dot_cmp b d))) ≡ covers d r
between_is r a b p q d = (λ i. is_le (dot_cmp (p i) d) && not (is_lt (dot_cmp (q i) d))) ∙ numbers r.node d.node r.first r.last d.number

-- the dot of a node and a number
pub dot_is : (node number : ℕ) (d : Dot) → dot_of node number ≡ Some d → d ≡ record { node = node; number = number }
dot_is node number d e = by (nat_le 1 number && nat_lt number (2 ^ 62)) e
  where
    by : (b : Bool) → (if b then Some (record { node = node; number = number }) else None) ≡ Some d → d ≡ record { node = node; number = number }
    by true e = cc
    by false e = cc
