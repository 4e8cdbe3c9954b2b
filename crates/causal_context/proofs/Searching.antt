-- Where a dot is among sound ranges.
use Rattle.std.proofs.Common.{◌≡◌, ℕ, ◌+◌, ◌-◌, ◌<◌, ◌≤◌, Bool, true, false, ◌||◌, ◌&&◌, ◌==◌, List, length, get_or, refl, sym, ap, subst, ◌∙◌, inl, inr, arith}
use Rattle.std.specs.Prelude.{◌⊎◌, nat_le, nat_lt}
use Rattle.std.specs.Cmp.{both_ways, first_so, second_so}
use Rattle.std.specs.List.Sorted.{IsPartitionedBy, IsPartitionPoint}
use Rattle.std.proofs.lemmas.Bool.{leb-true, le-leb, eq-eqb, eqb-true, cases_order}
use Rattle.std.proofs.lemmas.Bool.Decides.{nat_tests}
use Rattle.std.proofs.lemmas.List.{get_or_default}
use Rattle.std.proofs.lemmas.List.Folds.{list_any_at, list_any_none, Any-from_list_any}
use Rattle.causal_context.specs.Dots.{Dot}
use Rattle.causal_context.specs.declared.ranges.Range.{Range}
use Rattle.causal_context.specs.Ranges.{covers, covered, IsSound, IsApart}
use Rattle.causal_context.specs.RangeSteps.{StartsBy, StartsAfter, IsStarted, ReachesAt, FollowsAt}
use Rattle.causal_context.proofs.RangeLemmas.{in_from_covers, or_cases, or_left, or_right}

-- the test that the code makes
abbrev pub starts_by : Dot → Range → Bool
starts_by d r = nat_lt r.node d.node || ((r.node == d.node) && nat_le r.first d.number)

lt_true : (a b : ℕ) → a < b → nat_lt a b ≡ true
lt_true a b h = grind (arith, nat_tests)

pub starts_by-true : (d : Dot) (r : Range) → starts_by d r ≡ true → StartsBy d r
starts_by-true d r e = elim (or_cases (nat_lt r.node d.node) ((r.node == d.node) && nat_le r.first d.number) e) [
  | inl a ↦ (let lt : r.node < d.node = leb-true _ _ a in record { nodes = omega arith; numbers = λ h. absurd (omega arith) })
  | inr b ↦ (let same = eqb-true r.node d.node (first_so (r.node == d.node) (nat_le r.first d.number) b) in let le = leb-true r.first d.number (second_so (r.node == d.node) (nat_le r.first d.number) b) in
      record { nodes = omega arith; numbers = λ h. le })
]

pub true-starts_by : (d : Dot) (r : Range) → StartsBy d r → starts_by d r ≡ true
true-starts_by d r s = elim (cases_order r.node d.node) [
  | inl same ↦ or_right (nat_lt r.node d.node) _ (rw (eq-eqb r.node d.node same, le-leb r.first d.number (s.numbers same)))
  | inr (inl less) ↦ or_left (nat_lt r.node d.node) ((r.node == d.node) && nat_le r.first d.number) (lt_true r.node d.node less)
  | inr (inr more) ↦ absurd (omega (arith, s.nodes))
]

pub starts_by-false : (d : Dot) (r : Range) → starts_by d r ≡ false → StartsAfter d r
starts_by-false d r e = elim (cases_order r.node d.node) [
  | inl same ↦ elim (cases_order d.number r.first) [
    | inl at ↦ (let t = true-starts_by d r (record { nodes = omega arith; numbers = λ h. omega arith }) in cc)
    | inr (inl less) ↦ record { nodes = omega arith; numbers = λ h. less }
    | inr (inr more) ↦ (let t = true-starts_by d r (record { nodes = omega arith; numbers = λ h. omega arith }) in cc)
  ]
  | inr (inl less) ↦ (let t = true-starts_by d r (record { nodes = omega arith; numbers = λ h. absurd (omega arith) }) in cc)
  | inr (inr more) ↦ record { nodes = omega arith; numbers = λ h. absurd (omega arith) }
]

-- of sound ranges, those that start by a dot come first
pub parted : (rs : List Range) (d : Dot) → IsSound rs → IsPartitionedBy (starts_by d) rs
parted rs d sound i j e le lt t = elim (cases_order i j) [
  | inl same ↦ subst (λ k. starts_by d (get_or rs k e) ≡ true) (sym same) t
  | inr (inl less) ↦ (let late = starts_by-true d (get_or rs j e) t in let apart = sound.apart i j e less lt in let fine = sound.fine i e (omega arith) in
      true-starts_by d (get_or rs i e) (record { nodes = omega (arith, late.nodes, apart.nodes); numbers = λ h. (let n = late.nodes in let m = apart.nodes in let a = apart.numbers (omega arith) in let b = late.numbers (omega arith) in omega (arith, fine.not_empty)) }))
  | inr (inr more) ↦ absurd (omega arith)
]

pub started_from : (rs : List Range) (d : Dot) (i : ℕ) → i ≤ length rs → IsPartitionPoint (λ y. starts_by d y ≡ true) (λ y. starts_by d y ≡ false) rs i → IsStarted rs d i
started_from rs d i in_range p = record {
  in_range = in_range;
  by = λ k e lt. starts_by-true d (get_or rs k e) (p.0 k e (omega arith) lt);
  after = λ k e le lt. starts_by-false d (get_or rs k e) (p.1 k e le lt);
}

not_in_after : (d : Dot) (r : Range) → StartsAfter d r → covers d r ≡ false
not_in_after d r a = both_ways (covers d r) false (λ e. (let i = in_from_covers d r e in absurd (omega (arith, i.from, a.numbers i.node)))) (λ e. cc)

pub covered_none : (rs : List Range) (d : Dot) → IsStarted rs d 0 → covered d rs ≡ false
covered_none rs d s = list_any_none (covers d) rs (λ k e lt. not_in_after d (get_or rs k e) (s.after k e (omega arith) lt))

-- only the last range that starts by the dot can have it
pub covered_at : (rs : List Range) (d : Dot) (i : ℕ) (r : Range) → IsSound rs → i < length rs → r ≡ get_or rs i r → StartsBy d r
    → ((k : ℕ) (e : Range) → i < k → k < length rs → StartsAfter d (get_or rs k e)) → covered d rs ≡ covers d r
covered_at rs d i r sound lt is by after = elim (covers d r) as (λ b. covers d r ≡ b → covered d rs ≡ b) [
  | true ↦ λ e. list_any_at (covers d) rs i r lt (subst (λ x. covers d x ≡ true) is e)
  | false ↦ λ e. list_any_none (covers d) rs (λ k x in_range.
      (let here : r ≡ get_or rs i x = is ∙ get_or_default rs i r x lt in
      elim (cases_order k i) [
        | inl same ↦ ap (covers d) (ap (λ m. get_or rs m x) same ∙ sym here) ∙ e
        | inr (inl below) ↦ (let apart = subst (IsApart (get_or rs k x)) (sym here) (sound.apart k i x below lt) in
            both_ways (covers d (get_or rs k x)) false (λ f. (let n = in_from_covers d (get_or rs k x) f in let p = by.nodes in let q = apart.nodes in
            let a = apart.numbers (omega (arith, n.node)) in let b = by.numbers (omega (arith, n.node)) in absurd (omega (arith, n.to, get_fine k x in_range)))) (λ f. cc))
        | inr (inr above) ↦ not_in_after d (get_or rs k x) (after k x above in_range)
      ]))
] refl
  where
    get_fine : (k : ℕ) (x : Range) → k < length rs → (get_or rs k x).first ≤ (get_or rs k x).last
    get_fine k x h = (sound.fine k x h).not_empty

-- a dot that is there is in the range before its place
pub covered_reaches : (rs : List Range) (d : Dot) (i : ℕ) → IsSound rs → IsStarted rs d i → covered d rs ≡ true → ReachesAt rs i d
covered_reaches rs d i sound s e = elim (cases_order i 0) [
  | inl zero_is ↦ (let none = covered_none rs d (subst (IsStarted rs d) zero_is s) in cc)
  | inr (inl less) ↦ absurd (omega (arith, less))
  | inr (inr more) ↦ (let zero_range : Range = record { node = 0; first = 0; last = 0 } in
      let r = get_or rs (i - 1) zero_range in
      let there : i - 1 < length rs = omega (arith, s.in_range, more) in
      let at : r ≡ get_or rs (i - 1) r = get_or_default rs (i - 1) zero_range r there in
      let only = covered_at rs d (i - 1) r sound there at (s.by (i - 1) zero_range (omega (arith, more))) (λ k x above in_range. s.after k x (omega (arith, above)) in_range) in
      let i_n = in_from_covers d r (sym only ∙ e) in
      record {
        positive = more;
        node = λ x. ap (λ (y : Range). y.node) (get_or_default rs (i - 1) x r there ∙ sym at) ∙ i_n.node;
        number = λ x. (let last = ap (λ (y : Range). y.last) (get_or_default rs (i - 1) x r there ∙ sym at) in let to = i_n.to in omega (arith, last, to));
      })
]

-- a range with a number next to the dot's is the one before its place, or follows the dot
beside_at : (rs : List Range) (d : Dot) (m i k : ℕ) (e : Range) → IsSound rs → IsStarted rs d i → m ≤ d.number + 1 → d.number ≤ m + 1
    → k < length rs → covers (record { node = d.node; number = m }) (get_or rs k e) ≡ true → ReachesAt rs i d ⊎ FollowsAt rs i d
beside_at rs d m i k e sound s low high within has =
    let q : Dot = record { node = d.node; number = m } in
    let r = get_or rs k e in
    let found = in_from_covers q r has in
    let node : r.node ≡ d.node = found.node in
    let from : r.first ≤ m = found.from in
    let to : m ≤ r.last = found.to in
    elim (cases_order (k + 1) i) [
      | inl last ↦ inl (record {
        positive = omega (arith, last);
        node = λ x. ap (λ (y : Range). y.node) (here x last) ∙ node;
        number = λ x. (let is : (get_or rs (i - 1) x).last ≡ r.last = ap (λ (y : Range). y.last) (here x last) in omega (arith, is, to, high));
      })
      | inr (inl below) ↦ (
          let in_range = s.in_range in
          let p = sound.apart k (i - 1) e (omega (arith, below)) (omega (arith, below, in_range)) in
          let by = s.by (i - 1) e (omega (arith, below)) in
          let one = p.nodes in
          let two = by.nodes in
          let same : (get_or rs k e).node ≡ (get_or rs (i - 1) e).node = omega (arith, one, two, node) in
          let gap = p.numbers same in
          let start = by.numbers (omega (arith, same, node)) in
          absurd (omega (arith, gap, start, to, high)))
      | inr (inr above) ↦ (
          let after = s.after k e (omega (arith, above)) within in
          let start = after.numbers node in
          elim (cases_order i k) [
            | inl at ↦ inr (record {
              in_range = omega (arith, at, within);
              node = λ x. ap (λ (y : Range). y.node) (same_at x at) ∙ node;
              number = λ x. (let is : (get_or rs i x).first ≡ r.first = ap (λ (y : Range). y.first) (same_at x at) in omega (arith, is, start, from, low));
            })
            | inr (inl later) ↦ (
                let p = sound.apart i k e later within in
                let own = s.after i e (omega arith) (omega (arith, later, within)) in
                let one = p.nodes in
                let two = own.nodes in
                let same : (get_or rs i e).node ≡ (get_or rs k e).node = omega (arith, one, two, node) in
                let gap = p.numbers same in
                let begins = own.numbers (omega (arith, same, node)) in
                let fine = (sound.fine i e (omega (arith, later, within))).not_empty in
                absurd (omega (arith, gap, begins, fine, from, low)))
            | inr (inr less) ↦ absurd (omega (arith, less, above))
          ])
    ]
  where
    here : (x : Range) → k + 1 ≡ i → get_or rs (i - 1) x ≡ get_or rs k e
    here x last = (let is : i - 1 ≡ k = omega (arith, last) in ap (λ n. get_or rs n x) is ∙ get_or_default rs k x e within)

    same_at : (x : Range) → i ≡ k → get_or rs i x ≡ get_or rs k e
    same_at x at = ap (λ n. get_or rs n x) at ∙ get_or_default rs k x e within

pub covered_beside : (rs : List Range) (d : Dot) (m i : ℕ) → IsSound rs → IsStarted rs d i → m ≤ d.number + 1 → d.number ≤ m + 1
    → covered (record { node = d.node; number = m }) rs ≡ true → ReachesAt rs i d ⊎ FollowsAt rs i d
covered_beside rs d m i sound s low high there =
    let q : Dot = record { node = d.node; number = m } in
    let f = Any-from_list_any (covers q) rs there in
    beside_at rs d m i f.0 f.1 sound s low high f.2 (subst (λ r. covers q r ≡ true) (sym f.3) f.4)
