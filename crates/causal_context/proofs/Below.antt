-- When the dots of ranges are among those of others.
use Rattle.std.proofs.Common.{◌≡◌, ℕ, ◌+◌, ◌<◌, ◌≤◌, true, false, ◌||◌, List, [], ◌∷◌, length, get_or, take, refl, sym, ap, subst, ◌∙◌, inl, inr, arith}
use Rattle.std.specs.Cmp.{both_ways}
use Rattle.std.proofs.lemmas.Bool.{cases_order}
use Rattle.std.proofs.lemmas.List.{get_or_default, take_all}
use Rattle.std.proofs.lemmas.List.Folds.{list_any_more, list_any_at, list_any_none}
use Rattle.causal_context.specs.Dots.{Dot}
use Rattle.causal_context.specs.declared.ranges.Range.{Range}
use Rattle.causal_context.specs.Ranges.{covers, covered, IsFine, IsSound, IsApart, AreBelow}
use Rattle.causal_context.specs.RangeSteps.{StartsAfter, EndsBefore, LiesIn}
use Rattle.causal_context.proofs.RangeLemmas.{IsIn, in_from_covers, covers_from_in, or_cases, or_left}

not_covered : (q : Dot) (r : Range) → (IsIn q r → ⊥) → covers q r ≡ false
not_covered q r n = both_ways (covers q r) false (λ e. absurd (n (in_from_covers q r e))) (λ e. cc)

-- the number after a range is in no range
pub after_is_free : (rs : List Range) (i : ℕ) (r : Range) → IsSound rs → i < length rs → r ≡ get_or rs i r → covered (record { node = r.node; number = r.last + 1 }) rs ≡ false
after_is_free rs i r sound lt is = list_any_none (covers (record { node = r.node; number = r.last + 1 })) rs (λ k d in_range.
    not_covered (record { node = r.node; number = r.last + 1 }) (get_or rs k d) (λ inside.
    let here : r ≡ get_or rs i d = is ∙ get_or_default rs i r d lt in
    elim (cases_order k i) [
      | inl same ↦ (let at = subst (IsIn (record { node = r.node; number = r.last + 1 })) (ap (λ m. get_or rs m d) same ∙ sym here) inside in omega (arith, at.to))
      | inr (inl below) ↦ (let apart = subst (IsApart (get_or rs k d)) (sym here) (sound.apart k i d below lt) in let fine = subst IsFine (sym here) (sound.fine i d lt) in omega (arith, inside.node, inside.to, apart.numbers inside.node, fine.not_empty))
      | inr (inr above) ↦ (let apart = subst (λ x. IsApart x (get_or rs k d)) (sym here) (sound.apart i k d above in_range) in let n = inside.node in omega (arith, inside.from, apart.numbers (sym inside.node)))
    ]))

pub range_is_there : (rs : List Range) (i : ℕ) (r : Range) → i < length rs → r ≡ get_or rs i r → (n : ℕ) → r.first ≤ n → n ≤ r.last → covered (record { node = r.node; number = n }) rs ≡ true
range_is_there rs i r lt is n from to =
    list_any_at (covers (record { node = r.node; number = n })) rs i r lt (subst (λ x. covers (record { node = r.node; number = n }) x ≡ true) is (covers_from_in (record { node = r.node; number = n }) r (record { node = refl; from = from; to = to })))

-- a dot that lies after the first j ranges and before the next is in none
pub between_free : (rs : List Range) (j : ℕ) (q : Dot) → IsSound rs → ((k : ℕ) (e : Range) → k < j → EndsBefore q (get_or rs k e)) → ((e : Range) → j < length rs → StartsAfter q (get_or rs j e)) → covered q rs ≡ false
between_free rs j q sound passed next = list_any_none (covers q) rs (λ k e lt. not_covered q (get_or rs k e) (λ inside.
    elim (cases_order k j) [
      | inr (inl less) ↦ (let before = passed k e less in omega (arith, before.numbers inside.node, inside.to))
      | inl same ↦ (let after = subst (λ m. StartsAfter q (get_or rs m e)) (sym same) (next e (omega arith)) in omega (arith, after.numbers inside.node, inside.from))
      | inr (inr more) ↦ (let after = next e (omega arith) in let apart = sound.apart j k e more lt in let fine = sound.fine j e (omega arith) in
          let m = inside.node in let n = after.nodes in let p = apart.nodes in let u = after.numbers (omega arith) in let v = apart.numbers (omega arith) in omega (arith, fine.not_empty, inside.from))
    ]))

-- the dots of the first i ranges of a are in b, and the first j of b end before the next of a
pub record IsBelowUpTo (a b : List Range) (i j : ℕ) : Type 0 where
  pub i_in : i ≤ length a
  pub j_in : j ≤ length b
  pub below : AreBelow (take i a) b
  pub passed : (k : ℕ) (d e : Range) → i < length a → k < j → EndsBefore (record { node = (get_or a i d).node; number = (get_or a i d).first }) (get_or b k e)

module _ (a b : List Range) (i j : ℕ) (r s : Range) (sound_a : IsSound a) (sound_b : IsSound b) (up_to : IsBelowUpTo a b i j) (i_in : i < length a) (is_r : r ≡ get_or a i r) where
  abbrev start : Dot
  start = record { node = r.node; number = r.first }

  r_at : (d : Range) → get_or a i d ≡ r
  r_at d = get_or_default a i d r i_in ∙ sym is_r

  r_fine : IsFine r
  r_fine = subst IsFine (r_at r) (sound_a.fine i r i_in)

  passed_start : (k : ℕ) (e : Range) → k < j → EndsBefore start (get_or b k e)
  passed_start k e lt = subst (λ (x : Range). EndsBefore (record { node = x.node; number = x.first }) (get_or b k e)) (r_at r) (up_to.passed k r e i_in lt)

  start_there : covered start a ≡ true
  start_there = range_is_there a i r i_in is_r r.first (omega arith) r_fine.not_empty

  not_below : (q : Dot) → covered q a ≡ true → covered q b ≡ false → AreBelow a b → ⊥
  not_below q there free below = let also = below q there in cc

  -- nothing of b is left
  pub none_left : j ≡ length b → AreBelow a b → ⊥
  none_left end = not_below start start_there (between_free b j start sound_b passed_start (λ e lt. absurd (omega arith)))

  module _ (j_in : j < length b) (is_s : s ≡ get_or b j s) where
    s_at : (d : Range) → get_or b j d ≡ s
    s_at d = get_or_default b j d s j_in ∙ sym is_s

    pub pass_one : EndsBefore start s → IsBelowUpTo a b i (j + 1)
    pass_one ends = record {
      i_in = up_to.i_in;
      j_in = omega arith;
      below = up_to.below;
      passed = λ k d e lt less. elim (cases_order k j) [
        | inl same ↦ subst (λ (x : Range). EndsBefore (record { node = x.node; number = x.first }) (get_or b k e)) (sym (r_at d)) (subst (EndsBefore start) (sym (ap (λ m. get_or b m e) same ∙ s_at e)) ends)
        | inr (inl low) ↦ up_to.passed k d e lt low
        | inr (inr high) ↦ absurd (omega arith)
      ];
    }

    pub take_one : LiesIn r s → IsBelowUpTo a b (i + 1) j
    take_one lies = record {
      i_in = omega arith;
      j_in = up_to.j_in;
      below = λ q e. elim (or_cases (covered q (take i a)) (covers q r) (ap (λ (x : Range). covered q (take i a) || covers q x) is_r ∙ sym (list_any_more (covers q) a i r i_in) ∙ e)) [
        | inl x ↦ up_to.below q x
        | inr y ↦ (let inside = in_from_covers q r y in
            list_any_at (covers q) b j s j_in (subst (λ (x : Range). covers q x ≡ true) is_s (covers_from_in q s (record { node = sym lies.node ∙ inside.node; from = omega (arith, inside.from, lies.from); to = omega (arith, inside.to, lies.to) }))))
      ];
      passed = λ k d e lt less. (let apart = subst (λ (x : Range). IsApart x (get_or a (i + 1) d)) (r_at d) (sound_a.apart i (i + 1) d (omega arith) lt) in
          let ends = passed_start k e less in
          record { nodes = omega (arith, ends.nodes, apart.nodes); numbers = λ h. (let m = ends.nodes in let n = apart.nodes in let u = ends.numbers (omega arith) in let v = apart.numbers (omega arith) in omega (arith, r_fine.not_empty)) });
    }

    s_fine : IsFine s
    s_fine = subst IsFine (s_at s) (sound_b.fine j s j_in)

    pub sticks_out : (EndsBefore start s → ⊥) → (LiesIn r s → ⊥) → AreBelow a b → ⊥
    sticks_out late out = elim (cases_order r.node s.node) [
      | inr (inr more) ↦ absurd (late (record { nodes = omega arith; numbers = λ h. absurd (omega arith) }))
      | inr (inl less) ↦ not_below start start_there (between_free b j start sound_b passed_start (λ e lt. subst (StartsAfter start) (sym (s_at e)) (record { nodes = omega arith; numbers = λ h. absurd (omega arith) })))
      | inl same ↦ elim (cases_order r.first s.first) [
        | inr (inl less) ↦ not_below start start_there (between_free b j start sound_b passed_start (λ e lt. subst (StartsAfter start) (sym (s_at e)) (record { nodes = omega arith; numbers = λ h. less })))
        | inl at ↦ past_end same (omega arith)
        | inr (inr more) ↦ past_end same (omega arith)
      ]
    ]
      where
        past_end : r.node ≡ s.node → s.first ≤ r.first → AreBelow a b → ⊥
        past_end same from = elim (cases_order s.last r.last) [
          | inl at ↦ absurd (out (record { node = same; from = from; to = omega arith }))
          | inr (inr more) ↦ absurd (out (record { node = same; from = from; to = omega arith }))
          | inr (inl less) ↦ elim (cases_order s.last r.first) [
            | inr (inl before) ↦ absurd (late (record { nodes = omega arith; numbers = λ h. before }))
            | inl on ↦ cut (omega arith) less
            | inr (inr after) ↦ cut (omega arith) less
          ]
        ]
          where
            cut : r.first ≤ s.last → s.last < r.last → AreBelow a b → ⊥
            cut reaches short = not_below (record { node = r.node; number = s.last + 1 }) (range_is_there a i r i_in is_r (s.last + 1) (omega arith) (omega arith))
                ((λ k. covered (record { node = same k; number = s.last + 1 }) b) ∙ after_is_free b j s sound_b j_in is_s)

pub none_below : (a b : List Range) → IsBelowUpTo a b 0 0
none_below a b = record { i_in = omega arith; j_in = omega arith; below = λ q e. cc; passed = λ k d e lt less. absurd (omega arith) }

pub all_below : (a b : List Range) (i j : ℕ) → IsBelowUpTo a b i j → length a ≤ i → AreBelow a b
all_below a b i j up_to past q e = up_to.below q (ap (covered q) (take_all i a past) ∙ e)

-- ranges without a dot are none
pub none_covered : (rs : List Range) → IsSound rs → ((q : Dot) → covered q rs ≡ true → ⊥) → length rs ≡ 0
none_covered [] sound none = refl
none_covered (r ∷ rs) sound none =
    let q : Dot = record { node = r.node; number = r.first } in
    absurd (none q (or_left (covers q r) (covered q rs) (covers_from_in q r (record { node = refl; from = omega arith; to = (sound.fine 0 r (omega arith)).not_empty }))))
