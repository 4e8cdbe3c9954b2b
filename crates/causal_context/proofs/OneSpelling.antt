-- A set has one spelling.
use Rattle.std.proofs.Common.{◌≡◌, ℕ, suc, ◌+◌, ◌<◌, ◌≤◌, Bool, true, false, List, [], ◌∷◌, length, get_or, refl, sym, subst, ◌∙◌, inl, inr, arith}
use Rattle.std.proofs.lemmas.Bool.{cases_order}
use Rattle.causal_context.specs.Dots.{Dot}
use Rattle.causal_context.specs.declared.ranges.Range.{Range}
use Rattle.causal_context.specs.Ranges.{covers, covered, IsFine, IsSound, IsApart, AreBelow}
use Rattle.causal_context.proofs.RangeLemmas.{in_from_covers, covers_from_in, or_cases, or_left, or_right}
use Rattle.causal_context.proofs.Below.{after_is_free, range_is_there}

tail_sound : (r : Range) (rs : List Range) → IsSound (r ∷ rs) → IsSound rs
tail_sound r rs s = record { fine = λ k d lt. s.fine (suc k) d (omega arith); apart = λ i j d lt in_range. s.apart (suc i) (suc j) d (omega arith) (omega arith) }

head_fine : (r : Range) (rs : List Range) → IsSound (r ∷ rs) → IsFine r
head_fine r rs s = s.fine 0 r (omega arith)

-- a dot of a later range lies past the first one
past_head : (r : Range) (rs : List Range) (q : Dot) → IsSound (r ∷ rs) → covered q rs ≡ true → (r.node ≤ q.node) × (r.node ≡ q.node → r.last + 1 < q.number)
past_head r rs q s e = go rs 0 (λ k d lt. s.apart 0 (suc k) d (omega arith) (omega arith)) e
  where
    go : (xs : List Range) (n : ℕ) → ((k : ℕ) (d : Range) → k < length xs → IsApart r (get_or xs k d)) → covered q xs ≡ true → (r.node ≤ q.node) × (r.node ≡ q.node → r.last + 1 < q.number)
    go [] n apart e = cc
    go (x ∷ xs) n apart e = elim (or_cases (covers q x) (covered q xs) e) [
      | inl a ↦ (let i = in_from_covers q x a in let p = apart 0 x (omega arith) in (omega (arith, i.node, p.nodes), λ h. omega (arith, i.from, p.numbers (omega (arith, i.node)))))
      | inr b ↦ go xs n (λ k d lt. apart (suc k) d (omega arith)) b
    ]

-- the first dot is not before the first of the other
not_before : (r : Range) (rs : List Range) (x : Range) (xs : List Range) → IsSound (r ∷ rs) → IsSound (x ∷ xs) → AreBelow (r ∷ rs) (x ∷ xs) → (x.node ≤ r.node) × (x.node ≡ r.node → x.first ≤ r.first)
not_before r rs x xs s t below =
    let q : Dot = record { node = r.node; number = r.first } in
    let fine = head_fine r rs s in
    elim (or_cases (covers q x) (covered q xs) (below q (or_left (covers q r) (covered q rs) (covers_from_in q r (record { node = refl; from = omega arith; to = fine.not_empty }))))) [
      | inl a ↦ (let i = in_from_covers q x a in (omega (arith, i.node), λ h. i.from))
      | inr b ↦ (let p = past_head x xs q t b in let f = head_fine x xs t in (p.0, λ h. omega (arith, p.1 h, f.not_empty)))
    ]

-- nor does it end before
not_shorter : (r : Range) (rs : List Range) (x : Range) (xs : List Range) → IsSound (r ∷ rs) → IsSound (x ∷ xs) → r.node ≡ x.node → r.first ≡ x.first → AreBelow (r ∷ rs) (x ∷ xs) → r.last ≤ x.last
not_shorter r rs x xs s t node first below = elim (cases_order r.last x.last) [
  | inl e ↦ omega arith
  | inr (inl less) ↦ omega arith
  | inr (inr more) ↦ (
      let f = head_fine x xs t in
      let there = below (record { node = r.node; number = x.last + 1 }) (range_is_there (r ∷ rs) 0 r (omega arith) refl (x.last + 1) (omega (arith, f.not_empty)) (omega arith)) in
      let free = after_is_free (x ∷ xs) 0 x t (omega arith) refl in
      let moved : covered (record { node = r.node; number = x.last + 1 }) (x ∷ xs) ≡ covered (record { node = x.node; number = x.last + 1 }) (x ∷ xs) = (λ i. covered (record { node = node i; number = x.last + 1 }) (x ∷ xs)) in
      absurd (contra (covered (record { node = r.node; number = x.last + 1 }) (x ∷ xs)) there (moved ∙ free)))
]
  where
    contra : (b : Bool) → b ≡ true → b ≡ false → ⊥
    contra b p q = cc

tail_below : (r : Range) (rs xs : List Range) → IsSound (r ∷ rs) → AreBelow (r ∷ rs) (r ∷ xs) → AreBelow rs xs
tail_below r rs xs s below q e =
    elim (or_cases (covers q r) (covered q xs) (below q (or_right (covers q r) (covered q rs) e))) [
      | inl a ↦ (let i = in_from_covers q r a in let p = past_head r rs q s e in absurd (omega (arith, i.to, p.1 i.node)))
      | inr b ↦ b
    ]

pub one_spelling : (rs xs : List Range) → IsSound rs → IsSound xs → AreBelow rs xs → AreBelow xs rs → rs ≡ xs
one_spelling [] [] s t a b = refl
one_spelling [] (x ∷ xs) s t a b = (let f = head_fine x xs t in let q : Dot = record { node = x.node; number = x.first } in let e = b q (or_left (covers q x) (covered q xs) (covers_from_in q x (record { node = refl; from = omega arith; to = f.not_empty }))) in cc)
one_spelling (r ∷ rs) [] s t a b = (let f = head_fine r rs s in let q : Dot = record { node = r.node; number = r.first } in let e = a q (or_left (covers q r) (covered q rs) (covers_from_in q r (record { node = refl; from = omega arith; to = f.not_empty }))) in cc)
one_spelling (r ∷ rs) (x ∷ xs) s t a b =
    let p = not_before r rs x xs s t a in
    let q = not_before x xs r rs t s b in
    let node : r.node ≡ x.node = omega (arith, p.0, q.0) in
    let first : r.first ≡ x.first = omega (arith, p.1 (sym node), q.1 node) in
    let last : r.last ≡ x.last = omega (arith, not_shorter r rs x xs s t node first a, not_shorter x xs r rs t s (sym node) (sym first) b) in
    let same : r ≡ x = λ i. record { node = node i; first = first i; last = last i } in
    let rest = one_spelling rs xs (tail_sound r rs s) (tail_sound x xs t)
    (tail_below r rs xs s (subst (λ y. AreBelow (r ∷ rs) (y ∷ xs)) (sym same) a)) (tail_below x xs rs t (subst (λ y. AreBelow (x ∷ xs) (y ∷ rs)) same b)) in
    λ i. same i ∷ rest i
