-- Sorted lists: what a place says.
use Rattle.std.proofs.Common.{◌≡◌, ℕ, zero, suc, ◌<◌, ◌≤◌, Bool, true, false, cond, ◌&&◌, List, [], ◌∷◌, length, get_or, Some, None, T, refl, sym, ap, ◌∙◌, ◌⊎◌, inl, inr, arith}
use Rattle.std.proofs.lemmas.Cmp.{tied_itself}
use Rattle.std.proofs.lemmas.Bool.{cases_order}
use Rattle.std.proofs.lemmas.List.{get_or_default}
use Rattle.std.specs.Ordering.{ordering_reverse, is_lt, is_eq}
use Rattle.std.specs.declared.cmp.Ordering.{Ordering}
use Rattle.std.specs.declared.cmp.Ordering.TheVariants.{Less, Equal, Greater}
use Rattle.std.specs.Cmp.{IsTotalOrder}
use Rattle.std.specs.FinMap.Entries.{find, below_all}
use Rattle.subscription_set.specs.Sorted.{Rises}

-- lesser keys before the place, and none from it on
record IsPlace {K X : Type 0} (R : K → K → Ordering) (es : List (K × X)) (k : K) (i : ℕ) : Type 0 where
  bound : i ≤ length es
  before : (j : ℕ) (d : K × X) → j < i → is_lt (R (get_or es j d).0 k) ≡ true
  after : (j : ℕ) (d : K × X) → i ≤ j → j < length es → is_lt (R (get_or es j d).0 k) ≡ false

pub first_part : (a b : Bool) → T (a && b) → T a
first_part true b p = tt
first_part false b p = absurd p

pub second_part : (a b : Bool) → T (a && b) → T b
second_part true b p = p
second_part false b p = absurd p

less : (r : Ordering) → T (is_lt r) → r ≡ Less
less Less p = refl
less Equal p = absurd p
less Greater p = absurd p

turned : (r : Ordering) → is_lt r ≡ true → ordering_reverse r ≡ Greater
turned Less e = refl
turned Equal e = cc
turned Greater e = cc

not_after : (r : Ordering) → is_lt (ordering_reverse r) ≡ false → is_lt r ≡ false → r ≡ Equal
not_after Less a b = cc
not_after Equal a b = refl
not_after Greater a b = cc

pub lessly : (r : Ordering) → is_lt r ≡ true → r ≡ Less
lessly Less e = refl
lessly Equal e = cc
lessly Greater e = cc

later_not : (r : Ordering) → r ≡ Less → is_lt (ordering_reverse r) ≡ false
later_not Less e = refl
later_not Equal e = refl
later_not Greater e = cc

module _ {K : Type 0} {R : K → K → Ordering} (o : IsTotalOrder R) where
  -- the key at the place's front is before k: k is after it
  after_key : (x k : K) → is_lt (R x k) ≡ true → R k x ≡ Greater
  after_key x k e = o.antisymm k x ∙ turned (R x k) e

  -- neither is before the other
  pub tied : (x k : K) → is_lt (R x k) ≡ false → is_lt (R k x) ≡ false → R k x ≡ Equal
  tied x k a b = not_after (R k x) (ap is_lt (sym (o.antisymm x k)) ∙ a) b

  lt_trans : (x y k : K) → R x y ≡ Less → is_lt (R y k) ≡ true → is_lt (R x k) ≡ true
  lt_trans x y k a b = ap is_lt (o.trans x y k a (lessly _ b))

  -- what is after one that is not before k is not before k
  not_before : (x y k : K) → R x y ≡ Less → is_lt (R x k) ≡ false → is_lt (R y k) ≡ false
  not_before x y k a b = by (is_lt (R y k)) (λ t. lt_trans x y k a t)
    where
      by : (t : Bool) → (t ≡ true → is_lt (R x k) ≡ true) → t ≡ false
      by true h = (let e = h refl in cc)
      by false h = refl

  not_less_self : (k : K) → is_lt (R k k) ≡ false
  not_less_self k = ap is_lt (tied_itself o k)

module _ {K X : Type 0} {R : K → K → Ordering} (o : IsTotalOrder R) where
  below_at : (x : K) (es : List (K × X)) (j : ℕ) (d : K × X) → T (below_all R x es) → j < length es → R x (get_or es j d).0 ≡ Less
  below_at x [] j d h lt = absurd (omega (arith, lt))
  below_at x (e ∷ es) zero d h lt = less _ (first_part _ _ h)
  below_at x (e ∷ es) (suc j) d h lt = below_at x es j d (second_part _ _ h) (omega (arith, lt))

  -- by index
  pub rises : (es : List (K × X)) (i j : ℕ) (d : K × X) → Rises R es → i < j → j < length es → R (get_or es i d).0 (get_or es j d).0 ≡ Less
  rises [] i j d h a b = absurd (omega (arith, b))
  rises (e ∷ es) zero zero d h a b = absurd (omega (arith, a))
  rises (e ∷ es) (suc i) zero d h a b = absurd (omega (arith, a))
  rises (e ∷ es) zero (suc j) d h a b = below_at e.0 es j d (first_part _ _ h) (omega (arith, b))
  rises (e ∷ es) (suc i) (suc j) d h a b = rises es i j d (second_part _ _ h) (omega (arith, a)) (omega (arith, b))

  under : (es : List (K × X)) (e : K × X) (k : K) (i : ℕ) → IsPlace R (e ∷ es) k (suc i) → IsPlace R es k i
  under es e k i p = record { bound = omega (arith, p.bound); before = λ j d lt. p.before (suc j) d (omega (arith, lt)); after = λ j d le lt. p.after (suc j) d (omega (arith, le)) (omega (arith, lt)) }

  -- what is found at the place
  found_at : (es : List (K × X)) (k : K) (i : ℕ) (d : K × X) → IsPlace R es k i → i < length es → R k (get_or es i d).0 ≡ Equal → find R k es ≡ Some (get_or es i d).1
  found_at [] k i d p lt t = absurd (omega (arith, lt))
  found_at (e ∷ es) k zero d p lt t = ap (λ r. cond (is_eq r) (Some e.1) (find R k es)) t
  found_at (e ∷ es) k (suc i) d p lt t = (let g = after_key o e.0 k (p.before zero e (omega arith)) in ap (λ r. cond (is_eq r) (Some e.1) (find R k es)) g ∙ found_at es k i d (under es e k i p) (omega (arith, lt)) t)

  pub found_none : (es : List (K × X)) (k : K) → T (below_all R k es) → find R k es ≡ None
  found_none [] k h = refl
  found_none (e ∷ es) k h = ap (λ r. cond (is_eq r) (Some e.1) (find R k es)) (less _ (first_part _ _ h)) ∙ found_none es k (second_part _ _ h)

  -- an element stands at its place
  own_place : (es : List (K × X)) (i : ℕ) (x : K × X) → Rises R es → i < length es → x ≡ get_or es i x → IsPlace R es x.0 i
  own_place es i x h lt is = record {
    bound = omega (arith, lt);
    before = λ j d less. ap is_lt (ap (λ (y : K × X). R (get_or es j d).0 y.0) (sym (here d)) ∙ rises es j i d h less lt);
    after = λ j d le b. at j d le b (cases_order j i);
  }
    where
      here : (d : K × X) → get_or es i d ≡ x
      here d = get_or_default es i d x lt ∙ sym is

      at : (j : ℕ) (d : K × X) → i ≤ j → j < length es → (j ≡ i) ⊎ ((j < i) ⊎ (i < j)) → is_lt (R (get_or es j d).0 x.0) ≡ false
      at j d le b (inl e) = ap (λ n. is_lt (R (get_or es n d).0 x.0)) e ∙ ap (λ (y : K × X). is_lt (R y.0 x.0)) (here d) ∙ not_less_self o x.0
      at j d le b (inr (inl l)) = absurd (omega (arith, le, l))
      at j d le b (inr (inr m)) = ap is_lt (o.antisymm (get_or es j d).0 x.0) ∙ later_not (R x.0 (get_or es j d).0) (ap (λ (y : K × X). R y.0 (get_or es j d).0) (sym (here d)) ∙ rises es i j d h m b)

  -- and is found by its dot
  pub found_here : (es : List (K × X)) (i : ℕ) (x : K × X) → Rises R es → i < length es → x ≡ get_or es i x → find R x.0 es ≡ Some x.1
  found_here es i x h lt is = found_at es x.0 i x (own_place es i x h lt is) lt (ap (λ (y : K × X). R x.0 y.0) (sym is) ∙ tied_itself o x.0) ∙ ap (λ (y : K × X). Some y.1) (sym is)
