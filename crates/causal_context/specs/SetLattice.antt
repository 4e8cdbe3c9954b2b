-- Finite sets are a lattice by union, as a grow-only set and a causal context are.
-- (Almeida, Shoker, Baquero, on state-based CRDTs and on causal contexts)
use Rattle.std.specs.Prelude.{◌≡◌, Bool, true, false, ◌||◌, refl}
use Rattle.std.proofs.Common.{ap, sym, ◌∙◌}
use Rattle.std.specs.declared.cmp.Ordering.{Ordering}
use Rattle.std.specs.Cmp.{IsTotalOrder}
use Rattle.std.specs.FinSet.{FinSet, IsAntisymmetric, contains, union, contains-union, same_set}
use Rattle.causal_context.specs.Lattices.{JoinLaws}

-- each member of the first is one of the second
abbrev pub IsSubset : {K : Type 0} {R : K → K → Ordering} → FinSet R → FinSet R → Type 0
IsSubset s t = (q : _) → contains s q ≡ true → contains t q ≡ true

or_same : (a : Bool) → (a || a) ≡ a
or_same true = refl
or_same false = refl

or_swap : (a b : Bool) → (a || b) ≡ (b || a)
or_swap true true = refl
or_swap true false = refl
or_swap false true = refl
or_swap false false = refl

or_group : (a b c : Bool) → ((a || b) || c) ≡ (a || (b || c))
or_group true b c = refl
or_group false b c = refl

or_below : (a b : Bool) → (a ≡ true → b ≡ true) → (a || b) ≡ b
or_below true b h = sym (h refl)
or_below false b h = refl

below_or : (a b : Bool) → (a || b) ≡ b → a ≡ true → b ≡ true
below_or true b e h = sym e
below_or false b e h = cc

pub set_lattice : {K : Type 0} {R : K → K → Ordering} → IsTotalOrder R → IsAntisymmetric R → JoinLaws (union {R = R}) (IsSubset {R = R})
set_lattice o same = record {
  idempotent = λ s. same_set o same _ _ (λ q. contains-union o s s q ∙ or_same _);
  commutative = λ s t. same_set o same _ _ (λ q. contains-union o s t q ∙ or_swap (contains s q) (contains t q) ∙ sym (contains-union o t s q));
  associative = λ s t u. same_set o same _ _ (λ q. contains-union o _ u q ∙ ap (λ b. b || contains u q) (contains-union o s t q) ∙ or_group (contains s q) (contains t q) (contains u q) ∙ ap (λ b. contains s q || b) (sym (contains-union o t u q)) ∙ sym (contains-union o s _ q));
  to_order = λ s t e q. below_or (contains s q) (contains t q) (sym (contains-union o s t q) ∙ ap (λ u. contains u q) e);
  from_order = λ s t b. same_set o same _ _ (λ q. contains-union o s t q ∙ or_below (contains s q) (contains t q) (b q));
}
