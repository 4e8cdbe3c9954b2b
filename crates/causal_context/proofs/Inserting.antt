-- The steps of an insert.
use Rattle.std.proofs.Common.{◌≡◌, ℕ, suc, ◌+◌, ◌-◌, ◌<◌, ◌≤◌, ◌^◌, true, ◌||◌, List, [], ◌∷◌, ◌++◌, length, get_or, set, take, drop, refl, sym, ap, subst, ◌∙◌, inl, inr, arith, add-one, append_assoc}
use Rattle.std.specs.List.{insert, remove}
use Rattle.std.specs.Cmp.{both_ways}
use Rattle.std.proofs.lemmas.Bool.{cases_order}
use Rattle.std.proofs.lemmas.List.{get_or_default, take_more_set, drop-set-lt, set_split}
use Rattle.causal_context.specs.Dots.{Dot}
use Rattle.causal_context.specs.declared.ranges.Range.{Range}
use Rattle.causal_context.specs.Ranges.{covers, covered, IsFine, IsSound, IsApart}
use Rattle.causal_context.specs.RangeSteps.{IsUnion, IsStarted, StartsBy, ReachesAt, FollowsAt}
use Rattle.causal_context.proofs.RangeLemmas.{IsIn, in_from_covers, covers_from_in, or_cases, or_left, or_false}
use Rattle.causal_context.proofs.Below.{range_is_there}
use Rattle.causal_context.proofs.Splicing.{spliced_union}

module _ (rs : List Range) (node number next : ℕ) (sound : IsSound rs) (node_fits : node < 2 ^ 16) (from : 1 ≤ number) (below : number < 2 ^ 62) (started : IsStarted rs (record { node = node; number = number }) next) where
  abbrev here : Dot
  here = record { node = node; number = number }

  abbrev one : Range
  one = record { node = node; first = number; last = number }

  one_fine : IsFine one
  one_fine = record { node = node_fits; from = from; not_empty = omega arith; below = below }

  one_is : (q : Dot) → covers q one ≡ true → (node ≡ q.node) × (q.number ≡ number)
  one_is q e = let i = in_from_covers q one e in (i.node, omega (arith, i.from, i.to))

  in_one : (q : Dot) → node ≡ q.node → q.number ≡ number → covers q one ≡ true
  in_one q same is = covers_from_in q one (record { node = same; from = omega arith; to = omega arith })

  -- a range that stands before the place and has the node and the number before is in reach
  in_reach : (k : ℕ) (d : Range) → k + 1 ≡ next → (get_or rs k d).node ≡ node → number ≤ (get_or rs k d).last + 1 → ReachesAt rs next here
  in_reach k d last same near =
      let at : (e : Range) → get_or rs k d ≡ get_or rs (next - 1) e = λ e. get_or_default rs k d e (omega (arith, started.in_range)) ∙ ap (λ n. get_or rs n e) {x = k} {y = next - 1} (omega arith) in
      record { positive = omega arith; node = λ e. sym (ap (λ r. r.node) (at e)) ∙ same; number = λ e. subst (λ r. number ≤ r.last + 1) (at e) near }

  -- the ranges before the place end before x, which starts at the dot
  pub before_apart : (ReachesAt rs next here → ⊥) → (x : Range) → x.node ≡ node → x.first ≡ number → (k : ℕ) (d : Range) → k < next → IsApart (get_or rs k d) x
  before_apart free x same first k d lt =
      let by = started.by k d lt in
      elim (cases_order (k + 1) next) [
        | inl last ↦ record {
          nodes = omega (arith, by.nodes);
          numbers = λ e. elim (cases_order ((get_or rs k d).last + 1) number) [
            | inr (inl less) ↦ omega arith
            | inl at ↦ absurd (free (in_reach k d last (omega arith) (omega arith)))
            | inr (inr more) ↦ absurd (free (in_reach k d last (omega arith) (omega arith)))
          ];
        }
        | inr (inl less) ↦ (let later = started.by (next - 1) d (omega arith) in let apart = sound.apart k (next - 1) d (omega arith) (omega (arith, started.in_range)) in
            record { nodes = omega (arith, by.nodes); numbers = λ e. (let m = later.nodes in let n = apart.nodes in let p = apart.numbers (omega arith) in let q = later.numbers (omega arith) in omega arith) })
        | inr (inr more) ↦ absurd (omega arith)
      ]

  next_follows : (d : Range) → next < length rs → (get_or rs next d).node ≡ node → (get_or rs next d).first ≡ number + 1 → FollowsAt rs next here
  next_follows d lt same first = record { in_range = lt; node = λ e. ap (λ r. r.node) (get_or_default rs next e d lt) ∙ same; number = λ e. ap (λ r. r.first) (get_or_default rs next e d lt) ∙ first }

  -- the ranges from the place on start after x, which ends at the dot
  after_apart : (FollowsAt rs next here → ⊥) → (x : Range) → x.node ≡ node → x.last ≡ number → (k : ℕ) (d : Range) → next ≤ k → k < length rs → IsApart x (get_or rs k d)
  after_apart free x same last k d le lt =
      let after = started.after k d le lt in
      let first_after = started.after next d (omega arith) (omega arith) in
      elim (cases_order next k) [
        | inl at ↦ record {
          nodes = omega (arith, after.nodes);
          numbers = λ e. elim (cases_order (get_or rs k d).first (number + 1)) [
            | inl touches ↦ absurd (free (next_follows d (omega arith) (ap (λ n. (get_or rs n d).node) at ∙ sym e ∙ same) (ap (λ n. (get_or rs n d).first) at ∙ touches)))
            | inr (inl less) ↦ absurd (omega (arith, after.numbers (omega arith)))
            | inr (inr more) ↦ omega arith
          ];
        }
        | inr (inl less) ↦ (let apart = sound.apart next k d less lt in let fine = sound.fine next d (omega arith) in
            record { nodes = omega (arith, after.nodes); numbers = λ e. (let m = first_after.nodes in let n = apart.nodes in let p = apart.numbers (omega arith) in let q = first_after.numbers (omega arith) in omega (arith, fine.not_empty)) })
        | inr (inr more) ↦ absurd (omega arith)
      ]

  -- the dot becomes a range of its own
  pub put_alone : (ReachesAt rs next here → ⊥) → (FollowsAt rs next here → ⊥) → IsUnion rs (one ∷ []) (insert rs next one)
  put_alone no_before no_after = spliced_union rs next next one (omega arith) started.in_range one sound one_fine
      (before_apart no_before one refl refl) (after_apart no_after one refl refl) (λ q e. e) (λ q e. inr e) (λ q k d le lt e. absurd (omega arith))

  -- the range after the dot takes it in
  pub put_first : (r x : Range) → (ReachesAt rs next here → ⊥) → FollowsAt rs next here → r ≡ get_or rs next r → x ≡ record { node = r.node; first = number; last = r.last } → IsUnion rs (one ∷ []) (set rs next x)
  put_first r x no_before follows is is_x =
      let lt = follows.in_range in
      let same : r.node ≡ node = ap (λ y. y.node) is ∙ follows.node r in
      let first : r.first ≡ number + 1 = ap (λ y. y.first) is ∙ follows.number r in
      let fine = subst IsFine (sym is) (sound.fine next r lt) in
      let xn = ap (λ y. y.node) is_x in let xf = ap (λ y. y.first) is_x in let xl = ap (λ y. y.last) is_x in
      let at : (d : Range) → get_or rs next d ≡ r = λ d. get_or_default rs next d r lt ∙ sym is in
      subst (IsUnion rs (one ∷ [])) (ap (λ n. take next rs ++ x ∷ drop n rs) (add-one next) ∙ sym (set_split rs next x lt)) (
      spliced_union rs next (next + 1) x (omega arith) (omega arith) one sound (record { node = omega (arith, fine.node); from = omega arith; not_empty = omega (arith, fine.not_empty); below = omega (arith, fine.below) })
      (before_apart no_before x (xn ∙ same) xf)
      (λ k d le in_range. (let apart = subst (λ y. IsApart y (get_or rs k d)) (at d) (sound.apart next k d (omega arith) in_range) in record { nodes = omega (arith, apart.nodes); numbers = λ e. omega (arith, apart.numbers (omega arith)) }))
      (λ q e. (let o = one_is q e in covers_from_in q x (record { node = omega (arith, o.0); from = omega (arith, o.1); to = omega (arith, o.1, fine.not_empty) })))
      (λ q e. (let i = in_from_covers q x e in elim (cases_order q.number number) [
        | inl here ↦ inr (in_one q (omega (arith, i.node)) here)
        | inr (inl less) ↦ absurd (omega (arith, i.from))
        | inr (inr more) ↦ inl ((λ j. covered (record { node = (sym i.node ∙ xn) j; number = q.number }) rs) ∙ range_is_there rs next r lt is q.number (omega arith) (omega (arith, i.to)))
      ]))
      (λ q k d le less e. (let i = in_from_covers q r (subst (λ y. covers q y ≡ true) (ap (λ n. get_or rs n d) {x = k} {y = next} (omega arith) ∙ at d) e) in
      covers_from_in q x (record { node = omega (arith, i.node); from = omega (arith, i.from); to = omega (arith, i.to) }))))

  module _ (p : Range) (reaches : ReachesAt rs next here) (is : p ≡ get_or rs (next - 1) p) where
    p_in : next - 1 < length rs
    p_in = omega (arith, started.in_range, reaches.positive)

    p_node : p.node ≡ node
    p_node = ap (λ y. y.node) is ∙ reaches.node p

    p_near : number ≤ p.last + 1
    p_near = omega (arith, ap (λ y. y.last) is, reaches.number p)

    p_at : (d : Range) → get_or rs (next - 1) d ≡ p
    p_at d = get_or_default rs (next - 1) d p p_in ∙ sym is

    p_fine : IsFine p
    p_fine = subst IsFine (sym is) (sound.fine (next - 1) p p_in)

    p_by : StartsBy here p
    p_by = subst (StartsBy here) (p_at p) (started.by (next - 1) p (omega (arith, reaches.positive)))

    p_first : p.first ≤ number
    p_first = p_by.numbers p_node

    in_p : (q : Dot) → IsIn q p → covered q rs ≡ true
    in_p q i = (λ j. covered (record { node = sym i.node j; number = q.number }) rs) ∙ range_is_there rs (next - 1) p p_in is q.number i.from i.to

    -- the dot is there already
    pub put_nothing : number ≤ p.last → IsUnion rs (one ∷ []) rs
    put_nothing le = record {
      sound = sound;
      members = λ q. both_ways (covered q rs) (covered q rs || covered q (one ∷ [])) (λ e. or_left (covered q rs) (covered q (one ∷ [])) e)
          (λ e. elim (or_cases (covered q rs) (covered q (one ∷ [])) e) [
            | inl a ↦ a
            | inr b ↦ (let o = one_is q (sym (or_false (covers q one)) ∙ b) in in_p q (record { node = omega (arith, o.0, p_node); from = omega (arith, o.1, p_first); to = omega (arith, o.1) }))
          ]);
    }

    p_before : (x : Range) → x.node ≡ p.node → x.first ≡ p.first → (k : ℕ) (d : Range) → k < next - 1 → IsApart (get_or rs k d) x
    p_before x same first k d lt = let apart = subst (IsApart (get_or rs k d)) (p_at d) (sound.apart k (next - 1) d lt p_in) in
        record { nodes = omega (arith, apart.nodes); numbers = λ e. omega (arith, apart.numbers (omega arith)) }

    -- the range before the dot takes it in
    pub put_last : (x : Range) → (FollowsAt rs next here → ⊥) → p.last < number → x ≡ record { node = p.node; first = p.first; last = number } → IsUnion rs (one ∷ []) (set rs (next - 1) x)
    put_last x no_after past is_x =
        let xn = ap (λ y. y.node) is_x in let xf = ap (λ y. y.first) is_x in let xl = ap (λ y. y.last) is_x in
        subst (IsUnion rs (one ∷ [])) (ap (λ n. take (next - 1) rs ++ x ∷ drop n rs) {x = next} {y = suc (next - 1)} (omega (arith, reaches.positive)) ∙ sym (set_split rs (next - 1) x p_in)) (
        spliced_union rs (next - 1) next x (omega arith) started.in_range one sound (record { node = omega (arith, p_fine.node); from = omega (arith, p_fine.from); not_empty = omega (arith, p_first); below = omega arith })
        (p_before x xn xf)
        (after_apart no_after x (xn ∙ p_node) xl)
        (λ q e. (let o = one_is q e in covers_from_in q x (record { node = omega (arith, o.0, p_node); from = omega (arith, o.1, p_first); to = omega (arith, o.1) })))
        (λ q e. (let i = in_from_covers q x e in elim (cases_order q.number number) [
          | inl here ↦ inr (in_one q (omega (arith, i.node, p_node)) here)
          | inr (inl less) ↦ inl (in_p q (record { node = omega (arith, i.node); from = omega (arith, i.from); to = omega (arith, p_near) }))
          | inr (inr more) ↦ absurd (omega (arith, i.to))
        ]))
        (λ q k d le less e. (let i = in_from_covers q p (subst (λ y. covers q y ≡ true) (ap (λ n. get_or rs n d) {x = k} {y = next - 1} (omega arith) ∙ p_at d) e) in
        covers_from_in q x (record { node = omega (arith, i.node); from = omega (arith, i.from); to = omega (arith, i.to) }))))

    closed : (x : Range) → next < length rs → remove (set rs (next - 1) x) next ≡ take (next - 1) rs ++ x ∷ drop (next + 1) rs
    closed x lt =
        (λ j. ap (λ n. take n (set rs (next - 1) x)) {x = next} {y = next - 1 + 1} (omega (arith, reaches.positive)) j ++ drop (sym (add-one next) j) (set rs (next - 1) x))
        ∙ (λ j. take_more_set rs (next - 1) x p_in j ++ drop-set-lt (next + 1) rs (next - 1) x (omega arith) j)
        ∙ append_assoc (take (next - 1) rs) (x ∷ []) (drop (next + 1) rs)

    -- the dot closes the gap between two ranges
    pub put_between : (r x : Range) → FollowsAt rs next here → r ≡ get_or rs next r → p.last < number → x ≡ record { node = p.node; first = p.first; last = r.last } → IsUnion rs (one ∷ []) (remove (set rs (next - 1) x) next)
    put_between r x follows r_is past is_x =
        let lt = follows.in_range in
        let same : r.node ≡ node = ap (λ y. y.node) r_is ∙ follows.node r in
        let first : r.first ≡ number + 1 = ap (λ y. y.first) r_is ∙ follows.number r in
        let fine = subst IsFine (sym r_is) (sound.fine next r lt) in
        let at : (d : Range) → get_or rs next d ≡ r = λ d. get_or_default rs next d r lt ∙ sym r_is in
        let xn = ap (λ y. y.node) is_x in let xf = ap (λ y. y.first) is_x in let xl = ap (λ y. y.last) is_x in
        subst (IsUnion rs (one ∷ [])) (sym (closed x lt)) (
        spliced_union rs (next - 1) (next + 1) x (omega arith) (omega arith) one sound (record { node = omega (arith, p_fine.node); from = omega (arith, p_fine.from); not_empty = omega (arith, p_first, fine.not_empty); below = omega (arith, fine.below) })
        (p_before x xn xf)
        (λ k d le in_range. (let apart = subst (λ y. IsApart y (get_or rs k d)) (at d) (sound.apart next k d (omega arith) in_range) in record { nodes = omega (arith, apart.nodes, p_node); numbers = λ e. omega (arith, apart.numbers (omega (arith, p_node))) }))
        (λ q e. (let o = one_is q e in covers_from_in q x (record { node = omega (arith, o.0, p_node); from = omega (arith, o.1, p_first); to = omega (arith, o.1, fine.not_empty) })))
        (λ q e. (let i = in_from_covers q x e in elim (cases_order q.number number) [
          | inl here ↦ inr (in_one q (omega (arith, i.node, p_node)) here)
          | inr (inl less) ↦ inl (in_p q (record { node = omega (arith, i.node); from = omega (arith, i.from); to = omega (arith, p_near) }))
          | inr (inr more) ↦ inl ((λ j. covered (record { node = (sym i.node ∙ xn ∙ p_node ∙ sym same) j; number = q.number }) rs) ∙ range_is_there rs next r lt r_is q.number (omega arith) (omega (arith, i.to)))
        ]))
        (λ q k d le less e. elim (cases_order k next) [
          | inl now ↦ (let i = in_from_covers q r (subst (λ y. covers q y ≡ true) (ap (λ n. get_or rs n d) now ∙ at d) e) in covers_from_in q x (record { node = omega (arith, i.node, p_node); from = omega (arith, i.from, p_first); to = omega (arith, i.to) }))
          | inr (inl low) ↦ (let i = in_from_covers q p (subst (λ y. covers q y ≡ true) (ap (λ n. get_or rs n d) {x = k} {y = next - 1} (omega arith) ∙ p_at d) e) in covers_from_in q x (record { node = omega (arith, i.node); from = omega (arith, i.from); to = omega (arith, i.to, fine.not_empty) }))
          | inr (inr high) ↦ absurd (omega arith)
        ]))
