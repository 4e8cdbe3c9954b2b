-- The greatest number of a node.
use Rattle.std.proofs.Common.{◌≡◌, ℕ, ◌+◌, ◌<◌, ◌≤◌, ◌^◌, max, true, false, ◌==◌, List, [], ◌∷◌, length, get_or, refl, sym, ap, subst, ◌∙◌, inl, inr, ◌⊎◌, arith, if◌then◌else◌}
use Rattle.std.specs.List.{list_any}
use Rattle.std.specs.Ordering.{eq_by_cmp}
use Rattle.std.proofs.lemmas.Bool.{eq-eqb, eqb-true, cases_order}
use Rattle.std.specs.FinSet as set
use Rattle.causal_context.specs.Dots.{Dot, Dots, dot_cmp, greatest_among, greatest_of, IsGreatest}
use Rattle.causal_context.specs.declared.ranges.Range.{Range}
use Rattle.causal_context.specs.Ranges.{covered, set_of, IsFine, IsSound}
use Rattle.causal_context.specs.RangeSteps.{IsStarted, StartsBy, StartsAfter, IsLastOf}
use Rattle.causal_context.proofs.RangeLemmas.{IsIn, in_from_covers, or_cases, or_left, or_right}
use Rattle.causal_context.proofs.RangeSets.{tied_is, same_tied, contains-set_of}
use Rattle.causal_context.proofs.Searching.{covered_none, covered_at}
use Rattle.causal_context.proofs.Below.{range_is_there}

among_above : (node k : ℕ) (ds : List Dot) → list_any (eq_by_cmp dot_cmp (record { node = node; number = k })) ds ≡ true → k ≤ greatest_among node ds
among_above node k [] e = cc
among_above node k (d ∷ ds) e =
    elim (d.node == node) as (λ b. (d.node == node) ≡ b → k ≤ (if b then max d.number (greatest_among node ds) else greatest_among node ds)) [
      | true ↦ λ t. elim (or_cases _ (list_any (eq_by_cmp dot_cmp (record { node = node; number = k })) ds) e) [
        | inl a ↦ (let is = ap (λ x. x.number) (tied_is (record { node = node; number = k }) d a) in omega arith)
        | inr b ↦ omega (arith, among_above node k ds b)
      ]
      | false ↦ λ f. elim (or_cases _ (list_any (eq_by_cmp dot_cmp (record { node = node; number = k })) ds) e) [
        | inl a ↦ (let t = eq-eqb d.node node (sym (ap (λ x. x.node) (tied_is (record { node = node; number = k }) d a))) in cc)
        | inr b ↦ among_above node k ds b
      ]
    ] refl

among_reached : (node : ℕ) (ds : List Dot) → (greatest_among node ds ≡ 0) ⊎ (list_any (eq_by_cmp dot_cmp (record { node = node; number = greatest_among node ds })) ds ≡ true)
among_reached node [] = inl refl
among_reached node (d ∷ ds) =
    elim (d.node == node) as (λ b. (d.node == node) ≡ b → ((if b then max d.number (greatest_among node ds) else greatest_among node ds) ≡ 0)
    ⊎ (list_any (eq_by_cmp dot_cmp (record { node = node; number = if b then max d.number (greatest_among node ds) else greatest_among node ds })) (d ∷ ds) ≡ true)) [
      | true ↦ λ t. elim (cases_order (max d.number (greatest_among node ds)) d.number) [
        | inl same ↦ inr (or_left _ (list_any (eq_by_cmp dot_cmp (record { node = node; number = max d.number (greatest_among node ds) })) ds) (same_tied (record { node = node; number = max d.number (greatest_among node ds) }) d (sym (eqb-true d.node node t)) same))
        | inr (inl less) ↦ absurd (omega arith)
        | inr (inr more) ↦ (
            let is : greatest_among node ds ≡ max d.number (greatest_among node ds) = omega arith in
            elim (among_reached node ds) [
              | inl none ↦ absurd (omega arith)
              | inr there ↦ inr (or_right (eq_by_cmp dot_cmp (record { node = node; number = max d.number (greatest_among node ds) }) d) _ (subst (λ m. list_any (eq_by_cmp dot_cmp (record { node = node; number = m })) ds ≡ true) is there))
            ])
      ]
      | false ↦ λ f. elim (among_reached node ds) [
        | inl none ↦ inl none
        | inr there ↦ inr (or_right (eq_by_cmp dot_cmp (record { node = node; number = greatest_among node ds }) d) _ there)
      ]
    ] refl

pub is_greatest : (s : Dots) (node : ℕ) → IsGreatest s node (greatest_of s node)
unfolding greatest_of
is_greatest s node = record {
  reached = elim (among_reached node (set.items s)) [
    | inl none ↦ inl none
    | inr there ↦ inr (set.contains-items s (record { node = node; number = greatest_among node (set.items s) }) ∙ there)
  ];
  above = λ k e. among_above node k (set.items s) (sym (set.contains-items s (record { node = node; number = k })) ∙ e);
}

pub one_greatest : (s : Dots) (node m n : ℕ) → IsGreatest s node m → IsGreatest s node n → m ≡ n
one_greatest s node m n p q =
    let a : m ≤ n = elim p.reached [ inl none ↦ omega arith | inr there ↦ q.above m there ] in
    let b : n ≤ m = elim q.reached [ inl none ↦ omega arith | inr there ↦ p.above n there ] in
    omega arith

pub last_is_greatest : (rs : List Range) (s : Dots) (node n : ℕ) → set_of rs ≡ s → IsLastOf rs node n → n ≡ greatest_of s node
last_is_greatest rs s node n is last = one_greatest s node n (greatest_of s node) (record {
  reached = elim last.reached [
    | inl none ↦ inl none
    | inr there ↦ inr (ap (λ x. set.contains x (record { node = node; number = n })) (sym is) ∙ contains-set_of rs (record { node = node; number = n }) ∙ there)
  ];
  above = λ k e. last.above k (sym (contains-set_of rs (record { node = node; number = k })) ∙ ap (λ x. set.contains x (record { node = node; number = k })) is ∙ e);
}) (is_greatest s node)

pub last_none : (rs : List Range) (node top : ℕ) → IsSound rs → IsStarted rs (record { node = node; number = top }) 0 → 2 ^ 62 ≤ top → IsLastOf rs node 0
last_none rs node top sound s big = record {
  reached = inl refl;
  above = λ k e. absurd (let none : covered (record { node = node; number = k }) rs ≡ false = covered_none rs (record { node = node; number = k }) (record { in_range = omega arith; by = λ j x lt. absurd (omega arith); after = λ j x le lt. (let a = s.after j x le lt in let f = sound.fine j x lt in record { nodes = a.nodes; numbers = λ h. absurd (omega (arith, a.numbers h, f.not_empty, f.below)) }) }) in cc);
  below = omega arith;
}

module _ (rs : List Range) (node top i : ℕ) (r : Range) (sound : IsSound rs) (s : IsStarted rs (record { node = node; number = top }) (i + 1)) (big : 2 ^ 62 ≤ top) (is : r ≡ get_or rs i r) where
  in_range : i < length rs
  in_range = omega (arith, s.in_range)

  r_fine : IsFine r
  r_fine = subst IsFine (sym is) (sound.fine i r in_range)

  later : (k j : ℕ) (e : Range) → i < j → j < length rs → StartsAfter (record { node = node; number = k }) (get_or rs j e)
  later k j e above lt =
      let a = s.after j e (omega arith) lt in
      let f = sound.fine j e lt in
      record { nodes = a.nodes; numbers = λ h. absurd (omega (arith, a.numbers h, f.not_empty, f.below)) }

  at_last : (k : ℕ) → r.node ≤ node → (r.node ≡ node → r.first ≤ k) → covered (record { node = node; number = k }) rs ≡ true → IsIn (record { node = node; number = k }) r
  at_last k nodes numbers e = in_from_covers (record { node = node; number = k }) r
      (sym (covered_at rs (record { node = node; number = k }) i r sound in_range is (record { nodes = nodes; numbers = numbers }) (later k)) ∙ e)

  pub last_found : r.node ≡ node → IsLastOf rs node r.last
  last_found same = record {
    reached = inr (subst (λ m. covered (record { node = m; number = r.last }) rs ≡ true) same (range_is_there rs i r in_range is r.last r_fine.not_empty (omega arith)));
    above = λ k e. elim (cases_order k r.last) [
      | inl at ↦ omega arith
      | inr (inl less) ↦ omega arith
      | inr (inr more) ↦ absurd (let there = at_last k (omega arith) (λ h. omega (arith, r_fine.not_empty)) e in omega (arith, there.to))
    ];
    below = r_fine.below;
  }

  pub last_of_another : (r.node ≡ node → ⊥) → IsLastOf rs node 0
  last_of_another differ =
      let start = subst (StartsBy (record { node = node; number = top })) (sym is) (s.by i r (omega arith)) in
      record {
        reached = inl refl;
        above = λ k e. absurd (differ (at_last k start.nodes (λ h. absurd (differ h)) e).node);
        below = omega arith;
      }
