-- The set that ranges stand for has the dots that they cover.
use Rattle.std.proofs.Common.{◌≡◌, ℕ, zero, suc, ◌+◌, ◌-◌, ◌<◌, ◌≤◌, Bool, true, false, not, ◌||◌, ◌&&◌, List, [], ◌∷◌, refl, sym, ap, ◌∙◌, inl, inr, ◌↔◌, arith}
use Rattle.std.specs.List.{list_any}
use Rattle.std.specs.Ordering.{eq_by_cmp, is_eq}
use Rattle.std.specs.Cmp.{both_ways, Equal-is}
use Rattle.std.proofs.lemmas.Cmp.{tied_itself}
use Rattle.std.proofs.lemmas.Bool.{cases_order}
use Rattle.std.proofs.lemmas.List.Folds.{list_any-append}
use Rattle.std.specs.FinSet as set
use Rattle.causal_context.specs.Dots.{Dot, dot_cmp, dot_cmp_total, dot_cmp_antisym}
use Rattle.causal_context.specs.declared.ranges.Range.{Range}
use Rattle.causal_context.specs.Ranges.{dots_from, dots_in, set_of, covers, covered, AreBelow}
use Rattle.causal_context.specs.RangeSteps.{IsUnion, AreCut}
use Rattle.causal_context.specs.SetLattice.{IsSubset, set_lattice}
use Rattle.causal_context.proofs.RangeLemmas.{in_from_covers, covers_from_in, or_cases, or_left, or_right, or_false}

pub tied_is : (q d : Dot) → eq_by_cmp dot_cmp q d ≡ true → q ≡ d
tied_is q d e = dot_cmp_antisym q d ((Equal-is (dot_cmp q d)).0 e)

pub same_tied : (q d : Dot) → q.node ≡ d.node → q.number ≡ d.number → eq_by_cmp dot_cmp q d ≡ true
same_tied q d a b = (λ i. eq_by_cmp dot_cmp (record { node = a i; number = b i }) d) ∙ ap is_eq (tied_itself dot_cmp_total d)

-- a dot of the run
pub record IsInRun (q : Dot) (node first count : ℕ) : Type 0 where
  pub node_is : node ≡ q.node
  pub from : first ≤ q.number
  pub to : q.number < first + count

in_run : (q : Dot) (node first count : ℕ) → list_any (eq_by_cmp dot_cmp q) (dots_from node first count) ≡ true → IsInRun q node first count
in_run q node first zero e = cc
in_run q node first (suc n) e = elim (or_cases (eq_by_cmp dot_cmp q (record { node = node; number = first })) (list_any (eq_by_cmp dot_cmp q) (dots_from node (first + 1) n)) e) [
  | inl a ↦ (let is = tied_is q _ a in let number = ap (λ d. d.number) is in record { node_is = sym (ap (λ d. d.node) is); from = omega (arith, number); to = omega (arith, number) })
  | inr b ↦ (let later = in_run q node (first + 1) n b in record { node_is = later.node_is; from = omega (arith, later.from); to = omega (arith, later.to) })
]

run_has : (q : Dot) (node first count : ℕ) → IsInRun q node first count → list_any (eq_by_cmp dot_cmp q) (dots_from node first count) ≡ true
run_has q node first zero i = absurd (omega (arith, i.from, i.to))
run_has q node first (suc n) i = elim (cases_order q.number first) [
  | inl same ↦ or_left _ (list_any (eq_by_cmp dot_cmp q) (dots_from node (first + 1) n)) (same_tied q (record { node = node; number = first }) (sym i.node_is) same)
  | inr (inl less) ↦ absurd (omega (arith, i.from))
  | inr (inr more) ↦ or_right (eq_by_cmp dot_cmp q (record { node = node; number = first })) _ (run_has q node (first + 1) n (record { node_is = i.node_is; from = omega arith; to = omega (arith, i.to) }))
]

run_covers : (q : Dot) (r : Range) → list_any (eq_by_cmp dot_cmp q) (dots_from r.node r.first (r.last + 1 - r.first)) ≡ covers q r
run_covers q r = both_ways _ (covers q r)
    (λ e. (let i = in_run q r.node r.first (r.last + 1 - r.first) e in covers_from_in q r (record { node = i.node_is; from = i.from; to = omega (arith, i.from, i.to) })))
    (λ e. (let i = in_from_covers q r e in run_has q r.node r.first (r.last + 1 - r.first) (record { node_is = i.node; from = i.from; to = omega (arith, i.from, i.to) })))

any_in : (q : Dot) (rs : List Range) → list_any (eq_by_cmp dot_cmp q) (dots_in rs) ≡ covered q rs
unfolding dots_in
any_in q [] = refl
any_in q (r ∷ rs) = list_any-append (eq_by_cmp dot_cmp q) (dots_from r.node r.first (r.last + 1 - r.first)) (dots_in rs) ∙ (λ i. run_covers q r i || any_in q rs i)

pub contains-set_of : (rs : List Range) (q : Dot) → set.contains (set_of rs) q ≡ covered q rs
contains-set_of rs q = set.contains-from_list dot_cmp_total (dots_in rs) q ∙ any_in q rs

pub set_of_union : (a b out : List Range) (s t : set.FinSet dot_cmp) → IsUnion a b out → set_of a ≡ s → set_of b ≡ t → set_of out ≡ set.union s t
set_of_union a b out s t u is_s is_t = set.same_set dot_cmp_total dot_cmp_antisym _ _ (λ q.
    contains-set_of out q ∙ u.members q ∙ (λ i. (sym (contains-set_of a q) ∙ ap (λ x. set.contains x q) is_s) i || (sym (contains-set_of b q) ∙ ap (λ x. set.contains x q) is_t) i) ∙ sym (set.contains-union dot_cmp_total s t q))

or_turn : (a b : Bool) → (a || b) ≡ (b || a)
or_turn true true = refl
or_turn true false = refl
or_turn false true = refl
or_turn false false = refl

pub covers_one : (q dot : Dot) (r : Range) → r ≡ record { node = dot.node; first = dot.number; last = dot.number } → covers q r ≡ eq_by_cmp dot_cmp q dot
covers_one q dot r is = both_ways (covers q r) (eq_by_cmp dot_cmp q dot)
    (λ e. (let i = in_from_covers q r e in same_tied q dot (sym i.node ∙ ap (λ x. x.node) is) (let a = ap (λ x. x.first) is in let b = ap (λ x. x.last) is in omega (arith, i.from, i.to))))
    (λ e. (let same = tied_is q dot e in let node = ap (λ x. x.node) is in let number = ap (λ d. d.number) same in let a = ap (λ x. x.first) is in let b = ap (λ x. x.last) is in
    covers_from_in q r (record { node = node ∙ sym (ap (λ d. d.node) same); from = omega arith; to = omega arith })))

pub set_of_insert : (a out : List Range) (s : set.FinSet dot_cmp) (dot : Dot) (r : Range) → IsUnion a (r ∷ []) out → r ≡ record { node = dot.node; first = dot.number; last = dot.number } → set_of a ≡ s → set_of out ≡ set.insert s dot
set_of_insert a out s dot r u is is_s = set.same_set dot_cmp_total dot_cmp_antisym _ _ (λ q.
    contains-set_of out q ∙ u.members q ∙ or_turn (covered q a) (covered q (r ∷ []))
    ∙ (λ i. (or_false (covers q r) ∙ covers_one q dot r is) i || (sym (contains-set_of a q) ∙ ap (λ x. set.contains x q) is_s) i) ∙ sym (set.contains-insert dot_cmp_total s dot q))

pub set_of_none : (rs : List Range) → rs ≡ [] → set_of rs ≡ set.empty
unfolding dots_in
set_of_none rs e = ap set_of e

subset_from_below : (a b : List Range) (s t : set.FinSet dot_cmp) → set_of a ≡ s → set_of b ≡ t → AreBelow a b → (q : Dot) → set.contains s q ≡ true → set.contains t q ≡ true
subset_from_below a b s t is_s is_t below q e =
    ap (λ x. set.contains x q) (sym is_t) ∙ contains-set_of b q ∙ below q (sym (contains-set_of a q) ∙ ap (λ x. set.contains x q) is_s ∙ e)

below_from_subset : (a b : List Range) (s t : set.FinSet dot_cmp) → set_of a ≡ s → set_of b ≡ t → ((q : Dot) → set.contains s q ≡ true → set.contains t q ≡ true) → AreBelow a b
below_from_subset a b s t is_s is_t below q e =
    sym (contains-set_of b q) ∙ ap (λ x. set.contains x q) is_t ∙ below q (ap (λ x. set.contains x q) (sym is_s) ∙ contains-set_of a q ∙ e)

pub subset-below : (a b : List Range) (s t : set.FinSet dot_cmp) → set_of a ≡ s → set_of b ≡ t → AreBelow a b ↔ IsSubset s t
subset-below a b s t is_s is_t = (subset_from_below a b s t is_s is_t, below_from_subset a b s t is_s is_t)

pub set_of_cut : (a b out : List Range) (s t : set.FinSet dot_cmp) → AreCut a b out → set_of a ≡ s → set_of b ≡ t → set_of out ≡ set.difference s t
set_of_cut a b out s t u is_s is_t = set.same_set dot_cmp_total dot_cmp_antisym _ _ (λ q.
    contains-set_of out q ∙ u.members q ∙ (λ i. (sym (contains-set_of a q) ∙ ap (λ x. set.contains x q) is_s) i && not ((sym (contains-set_of b q) ∙ ap (λ x. set.contains x q) is_t) i)) ∙ sym (set.contains-difference dot_cmp_total s t q))

-- with one that is below, the union is the set
pub with_below : (s t : set.FinSet dot_cmp) → IsSubset t s → set.union s t ≡ s
with_below s t below =
    let laws = set_lattice dot_cmp_total dot_cmp_antisym in
    laws.commutative s t ∙ laws.from_order t s below

pub with_none : (s : set.FinSet dot_cmp) (rs : List Range) → rs ≡ [] → set.union s (set_of rs) ≡ s
with_none s rs e = with_below s (set_of rs) (λ q h. (let no = ap (covered q) (sym e) ∙ sym (contains-set_of rs q) ∙ h in cc))

pub same_sets : (s t : set.FinSet dot_cmp) → IsSubset s t → IsSubset t s → s ≡ t
same_sets s t a b = set.same_set dot_cmp_total dot_cmp_antisym s t (λ q. both_ways (set.contains s q) (set.contains t q) (a q) (b q))

-- ranges of one set have each other's dots
pub below_from_same : (a b : List Range) → set_of a ≡ set_of b → AreBelow a b
below_from_same a b same q e = sym (contains-set_of b q) ∙ ap (λ x. set.contains x q) (sym same) ∙ contains-set_of a q ∙ e
