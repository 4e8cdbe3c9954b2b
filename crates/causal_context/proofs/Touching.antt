-- A range among those that it touches.
use Rattle.std.proofs.Common.{◌≡◌, ℕ, ◌+◌, ◌-◌, ◌<◌, ◌≤◌, ◌||◌, List, [], ◌∷◌, ◌++◌, length, get_or, set, take, drop, min, max, append_assoc, refl, sym, ap, subst, ◌∙◌, inl, inr, arith}
use Rattle.std.specs.List.{insert, remove_range}
use Rattle.std.proofs.lemmas.Bool.{cases_order}
use Rattle.std.proofs.lemmas.List.{get_or_default, take_more_set, drop-set-lt}
use Rattle.std.proofs.lemmas.List.Folds.{list_any_more}
use Rattle.causal_context.specs.Dots.{Dot}
use Rattle.causal_context.specs.declared.ranges.Range.{Range}
use Rattle.causal_context.specs.Ranges.{covers, covered, IsFine, IsSound, IsApart}
use Rattle.causal_context.specs.RangeSteps.{IsUnion, IsStarted, ReachesAt, Touches, AreTouched}
use Rattle.causal_context.proofs.RangeLemmas.{in_from_covers, covers_from_in, or_false, or_group}
use Rattle.causal_context.proofs.Below.{range_is_there}
use Rattle.causal_context.proofs.Splicing.{spliced_union}
use Rattle.causal_context.proofs.Inserting.{before_apart}

module _ (rs : List Range) (r : Range) (next end : ℕ) (sound : IsSound rs) (fine : IsFine r)
    (by : IsStarted rs (record { node = r.node; number = r.first }) next) (ends : IsStarted rs (record { node = r.node; number = r.last + 1 }) end) where
  abbrev start : Dot
  start = record { node = r.node; number = r.first }

  in_order : next ≤ end
  in_order = elim (cases_order next end) [
    | inl same ↦ omega arith
    | inr (inl less) ↦ omega arith
    | inr (inr more) ↦ (let b = by.by end r more in let a = ends.after end r (omega arith) (omega (arith, by.in_range)) in
        let n = b.nodes in let m = a.nodes in let x = b.numbers (omega arith) in let y = a.numbers (omega arith) in absurd (omega (arith, fine.not_empty)))
  ]

  touch_later : (k : ℕ) (e : Range) → next ≤ k → k < end → Touches (get_or rs k e) r
  touch_later k e le lt =
      let a = by.after k e le (omega (arith, ends.in_range)) in
      let b = ends.by k e lt in
      let f = sound.fine k e (omega (arith, ends.in_range)) in
      let n = a.nodes in let m = b.nodes in
      let same : (get_or rs k e).node ≡ r.node = omega arith in
      let x = a.numbers same in
      record { node = same; from = omega (arith, f.not_empty); to = b.numbers same }

  apart_later : (k : ℕ) (e : Range) → end ≤ k → k < length rs → IsApart r (get_or rs k e)
  apart_later k e le lt = let a = ends.after k e le lt in record { nodes = a.nodes; numbers = λ same. a.numbers (sym same) }

  -- where the range before the place is not in reach
  pub touched_next : (ReachesAt rs next start → ⊥) → AreTouched rs r next end
  touched_next free = record {
    order = in_order;
    in_range = ends.in_range;
    before = before_apart rs r.node r.first next sound fine.node fine.from (omega (arith, fine.not_empty, fine.below)) by free r refl refl;
    touch = touch_later;
    after = apart_later;
  }

  -- where it is
  pub touched_before : ReachesAt rs next start → AreTouched rs r (next - 1) end
  touched_before reach =
      let n = in_order in
      record {
        order = omega arith;
        in_range = ends.in_range;
        before = λ k e lt.
            (let apart = sound.apart k (next - 1) e lt (omega (arith, by.in_range, reach.positive)) in
            let b = by.by (next - 1) e (omega (arith, reach.positive)) in
            let same = reach.node e in
            record { nodes = omega (arith, apart.nodes); numbers = λ is. (let x = apart.numbers (omega arith) in let y = b.numbers same in omega arith) });
        touch = λ k e le lt. elim (cases_order k next) [
          | inl same ↦ touch_later k e (omega arith) lt
          | inr (inr more) ↦ touch_later k e (omega arith) lt
          | inr (inl less) ↦ (let at : k ≡ next - 1 = omega arith in
              let b = ends.by k e lt in
              let same : (get_or rs k e).node ≡ r.node = ap (λ m. (get_or rs m e).node) at ∙ reach.node e in
              let near : (get_or rs k e).last ≡ (get_or rs (next - 1) e).last = ap (λ m. (get_or rs m e).last) at in
              record { node = same; from = omega (arith, reach.number e); to = b.numbers same })
        ];
        after = apart_later;
      }

module _ (rs : List Range) (r : Range) (i j : ℕ) (sound : IsSound rs) (fine : IsFine r) (touched : AreTouched rs r i j) where
  -- it touches none
  pub placed_alone : i ≡ j → IsUnion rs (r ∷ []) (insert rs i r)
  placed_alone same = spliced_union rs i i r (omega arith) (omega (arith, touched.order, touched.in_range)) r sound fine
      touched.before (λ k e le lt. touched.after k e (omega arith) lt) (λ q e. e) (λ q e. inr e) (λ q k e le lt in_k. absurd (omega arith))

  -- one range has all that it touches
  pub placed_over : (p t x : Range) → i < j → p ≡ get_or rs i p → t ≡ get_or rs (j - 1) t → x ≡ record { node = r.node; first = min p.first r.first; last = max t.last r.last }
      → IsUnion rs (r ∷ []) (take i rs ++ x ∷ drop j rs)
  placed_over p t x lt is_p is_t is_x =
      let j_in = touched.in_range in
      let xn = ap (λ y. y.node) is_x in let xf = ap (λ y. y.first) is_x in let xl = ap (λ y. y.last) is_x in
      let p_at : (e : Range) → get_or rs i e ≡ p = λ e. get_or_default rs i e p (omega arith) ∙ sym is_p in
      let t_at : (e : Range) → get_or rs (j - 1) e ≡ t = λ e. get_or_default rs (j - 1) e t (omega arith) ∙ sym is_t in
      let p_fine = subst IsFine (p_at p) (sound.fine i p (omega arith)) in
      let t_fine = subst IsFine (t_at t) (sound.fine (j - 1) t (omega arith)) in
      let p_touch = subst (λ y. Touches y r) (p_at p) (touched.touch i p (omega arith) lt) in
      let t_touch = subst (λ y. Touches y r) (t_at t) (touched.touch (j - 1) t (omega arith) (omega arith)) in
      let pn = p_touch.node in let pf = p_touch.from in let pt = p_touch.to in
      let tn = t_touch.node in let tf = t_touch.from in let tt' = t_touch.to in
      let r1 = fine.not_empty in let p1 = p_fine.not_empty in let t1 = t_fine.not_empty in
      spliced_union rs i j x (omega arith) j_in r sound
      (record { node = omega (arith, fine.node); from = omega (arith, p_fine.from, fine.from); not_empty = omega arith; below = omega (arith, t_fine.below, fine.below) })
      (λ k e less. (let a = touched.before k e less in let b = subst (IsApart (get_or rs k e)) (p_at e) (sound.apart k i e less (omega arith)) in
      record { nodes = omega (arith, a.nodes); numbers = λ same. (let u = a.numbers (omega arith) in let v = b.numbers (omega arith) in omega arith) }))
      (λ k e le in_range. (let a = touched.after k e le in_range in let b = subst (λ y. IsApart y (get_or rs k e)) (t_at e) (sound.apart (j - 1) k e (omega arith) in_range) in
      record { nodes = omega (arith, a.nodes); numbers = λ same. (let u = a.numbers (omega arith) in let v = b.numbers (omega arith) in omega arith) }))
      (λ q e. (let h = in_from_covers q r e in covers_from_in q x (record { node = omega (arith, h.node); from = omega (arith, h.from); to = omega (arith, h.to) })))
      (λ q e. (let h = in_from_covers q x e in
      let hn = h.node in let hf = h.from in let ht = h.to in
      elim (cases_order q.number r.first) [
        | inl same ↦ inr (covers_from_in q r (record { node = omega arith; from = omega arith; to = omega arith }))
        | inr (inl less) ↦ inl ((λ z. covered (record { node = (sym hn ∙ xn ∙ sym pn) z; number = q.number }) rs) ∙ range_is_there rs i p (omega arith) is_p q.number (omega arith) (omega arith))
        | inr (inr more) ↦ elim (cases_order q.number r.last) [
          | inl same ↦ inr (covers_from_in q r (record { node = omega arith; from = omega arith; to = omega arith }))
          | inr (inl below) ↦ inr (covers_from_in q r (record { node = omega arith; from = omega arith; to = omega arith }))
          | inr (inr above) ↦ inl ((λ z. covered (record { node = (sym hn ∙ xn ∙ sym tn) z; number = q.number }) rs) ∙ range_is_there rs (j - 1) t (omega arith) is_t q.number (omega arith) (omega arith))
        ]
      ]))
      (λ q k e le less in_k. (let h = in_from_covers q (get_or rs k e) in_k in
      let hn = h.node in let hf = h.from in let ht = h.to in
      let kn = (touched.touch k e le less).node in
      let k1 = (sound.fine k e (omega arith)).not_empty in
      let front : p.first ≤ (get_or rs k e).first = elim (cases_order i k) [
        | inl same ↦ (let at : p.first ≡ (get_or rs k e).first = ap (λ y. y.first) (sym (p_at e) ∙ ap (λ m. get_or rs m e) same) in omega arith)
        | inr (inl later) ↦ (let a = subst (λ y. IsApart y (get_or rs k e)) (p_at e) (sound.apart i k e later (omega arith)) in let u = a.numbers (omega arith) in omega arith)
        | inr (inr earlier) ↦ absurd (omega arith)
      ] in
      let back : (get_or rs k e).last ≤ t.last = elim (cases_order k (j - 1)) [
        | inl same ↦ (let at : (get_or rs k e).last ≡ t.last = ap (λ y. y.last) (ap (λ m. get_or rs m e) same ∙ t_at e) in omega arith)
        | inr (inl earlier) ↦ (let a = subst (IsApart (get_or rs k e)) (t_at e) (sound.apart k (j - 1) e earlier (omega arith)) in let u = a.numbers (omega arith) in omega arith)
        | inr (inr later) ↦ absurd (omega arith)
      ] in
      covers_from_in q x (record { node = omega arith; from = omega arith; to = omega arith })))

-- one range after the other
pub union_more : (a b m out : List Range) (i : ℕ) (r : Range) → IsUnion a (take i b) m → IsUnion m (r ∷ []) out → i < length b → r ≡ get_or b i r → IsUnion a (take (i + 1) b) out
union_more a b m out i r first second lt is = record {
  sound = second.sound;
  members = λ q. second.members q ∙ (λ z. first.members q z || (or_false (covers q r) ∙ ap (covers q) is) z)
      ∙ or_group (covered q a) (covered q (take i b)) (covers q (get_or b i r))
      ∙ ap (λ y. covered q a || y) (sym (list_any_more (covers q) b i r lt));
}

pub union_none : (a b : List Range) → IsSound a → IsUnion a (take 0 b) a
union_none a b sound = record { sound = sound; members = λ q. sym (or_false (covered q a)) }

-- the range at the place is written, and the others that it touches go
pub placed_at : (rs : List Range) (r x : Range) (i j : ℕ) → i < j → j ≤ length rs → IsUnion rs (r ∷ []) (take i rs ++ x ∷ drop j rs) → IsUnion rs (r ∷ []) (remove_range (set rs i x) (i + 1) j)
placed_at rs r x i j lt in_range u =
    let front : take (i + 1) (set rs i x) ≡ take i rs ++ x ∷ [] = take_more_set rs i x (omega arith) in
    let back : drop j (set rs i x) ≡ drop j rs = drop-set-lt j rs i x lt in
    subst (IsUnion rs (r ∷ [])) (sym ((λ z. front z ++ back z) ∙ append_assoc (take i rs) (x ∷ []) (drop j rs))) u
