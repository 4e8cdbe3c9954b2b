-- Whether the dots of one range are among those of others.
use Rattle.std.proofs.Common.{◌≡◌, ℕ, ◌+◌, ◌-◌, ◌<◌, ◌≤◌, true, false, ◌||◌, List, [], ◌∷◌, length, get_or, take, refl, sym, ap, subst, ◌∙◌, inl, inr, arith}
use Rattle.std.proofs.lemmas.Bool.{cases_order}
use Rattle.std.proofs.lemmas.List.{take_all}
use Rattle.std.proofs.lemmas.List.Folds.{list_any_more, list_any_at}
use Rattle.causal_context.specs.Dots.{Dot}
use Rattle.causal_context.specs.declared.ranges.Range.{Range}
use Rattle.causal_context.specs.Ranges.{covers, covered, IsFine, IsSound, AreBelow}
use Rattle.causal_context.specs.RangeSteps.{StartsBy, IsStarted, LiesIn}
use Rattle.causal_context.proofs.RangeLemmas.{in_from_covers, covers_from_in, or_cases, or_left, or_false}
use Rattle.causal_context.proofs.Below.{after_is_free}
use Rattle.causal_context.proofs.Searching.{covered_at, covered_none}

one_covers : (q : Dot) (r : Range) → covers q r ≡ true → covered q (r ∷ []) ≡ true
one_covers q r e = or_left (covers q r) false e

only_covers : (q : Dot) (r : Range) → covered q (r ∷ []) ≡ true → covers q r ≡ true
only_covers q r e = sym (or_false (covers q r)) ∙ e

abbrev start_of : Range → Dot
start_of r = record { node = r.node; number = r.first }

start_there : (r : Range) → IsFine r → covered (start_of r) (r ∷ []) ≡ true
start_there r fine = one_covers (start_of r) r (covers_from_in (start_of r) r (record { node = refl; from = omega arith; to = fine.not_empty }))

-- no range starts by the range's first dot
pub none_within : (r : Range) (rs : List Range) → IsFine r → IsStarted rs (record { node = r.node; number = r.first }) 0 → AreBelow (r ∷ []) rs → ⊥
none_within r rs fine s below =
    let there = below (start_of r) (start_there r fine) in
    let none = covered_none rs (start_of r) s in cc

module _ (r : Range) (rs : List Range) (i : ℕ) (s : Range) (fine : IsFine r) (sound : IsSound rs) (started : IsStarted rs (record { node = r.node; number = r.first }) i) (some : 0 < i) (is : s ≡ get_or rs (i - 1) s) where
  in_range : i - 1 < length rs
  in_range = omega (arith, started.in_range)

  pub within : LiesIn r s → AreBelow (r ∷ []) rs
  within lies q e = (let inside = in_from_covers q r (only_covers q r e) in
      list_any_at (covers q) rs (i - 1) s in_range (subst (λ (x : Range). covers q x ≡ true) is (covers_from_in q s (record { node = sym lies.node ∙ inside.node; from = omega (arith, inside.from, lies.from); to = omega (arith, inside.to, lies.to) }))))

  -- the last range that starts by its first dot
  pub lies_there : AreBelow (r ∷ []) rs → LiesIn r s
  lies_there below =
      let only = covered_at rs (start_of r) (i - 1) s sound in_range is (subst (StartsBy (start_of r)) (sym is) (started.by (i - 1) s (omega arith))) (λ k e above lt. started.after k e (omega (arith, above)) lt) in
      let at = in_from_covers (start_of r) s (sym only ∙ below (start_of r) (start_there r fine)) in
      elim (cases_order s.last r.last) [
        | inl same ↦ record { node = sym at.node; from = at.from; to = omega arith }
        | inr (inr more) ↦ record { node = sym at.node; from = at.from; to = omega arith }
        | inr (inl less) ↦ (let q : Dot = record { node = r.node; number = s.last + 1 } in
            let there = below q (one_covers q r (covers_from_in q r (record { node = refl; from = omega (arith, at.to); to = omega arith }))) in
            let free = (λ k. covered (record { node = sym at.node k; number = s.last + 1 }) rs) ∙ after_is_free rs (i - 1) s sound in_range is in cc)
      ]

-- the ranges before a place, and the one at it
pub one_more_within : (a b : List Range) (i : ℕ) (r : Range) → i < length a → r ≡ get_or a i r → AreBelow (take i a) b → AreBelow (r ∷ []) b → AreBelow (take (i + 1) a) b
one_more_within a b i r lt is before one q e = elim (or_cases (covered q (take i a)) (covers q r) (ap (λ (x : Range). covered q (take i a) || covers q x) is ∙ sym (list_any_more (covers q) a i r lt) ∙ e)) [
  | inl x ↦ before q x
  | inr y ↦ one q (one_covers q r y)
]

pub all_within : (a b : List Range) (i : ℕ) → length a ≤ i → AreBelow (take i a) b → AreBelow a b
all_within a b i past before q e = before q (ap (covered q) (take_all i a past) ∙ e)

-- one of ranges that are all below
pub one_of_them : (a b : List Range) (i : ℕ) (r : Range) → i < length a → r ≡ get_or a i r → AreBelow a b → AreBelow (r ∷ []) b
one_of_them a b i r lt is below q e = below q (list_any_at (covers q) a i r lt (subst (λ (x : Range). covers q x ≡ true) is (only_covers q r e)))
