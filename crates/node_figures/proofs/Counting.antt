-- The dots of ranges are as many as the ranges have numbers.
use Rattle.std.proofs.Common.{◌≡◌, ◌∙◌, ◌↔◌, ℕ, zero, suc, ◌+◌, ◌-◌, ◌*◌, ◌^◌, ◌<◌, ◌≤◌, Bool, true, false, cond, not, ◌&&◌, ◌||◌, List, [], ◌∷◌, ◌++◌, length, get_or, min, refl, sym, ap, subst, length-append, arith}
use Rattle.std.specs.Prelude.{sum_by}
use Rattle.std.specs.List.{list_any}
use Rattle.std.specs.Ordering.{eq_by_cmp}
use Rattle.std.proofs.lemmas.List.Folds.{list_any-append}
use Rattle.std.proofs.lemmas.List.Sums.{sum_by-cons}
use Rattle.std.specs.FinSet as set
use Rattle.causal_context.specs.Dots.{Dot, Dots, dot_cmp, dot_cmp_total, dot_cmp_antisym}
use Rattle.causal_context.specs.declared.ranges.Range.{Range}
use Rattle.causal_context.specs.Ranges.{IsApart, IsFine, IsSound, covered, dots_from, dots_in, set_of}
use Rattle.causal_context.specs.RangeSteps.{StartsAfter}
use Rattle.causal_context.specs.SetLattice.{IsSubset}
use Rattle.causal_context.proofs.Below.{between_free}
use Rattle.causal_context.proofs.RangeSets.{contains-set_of, tied_is}
use Rattle.node_figures.specs.Counts.{NoneLacksWhereAllAreKnown, lacking}

-- ---- lists without repeats

abbrev Distinct : List Dot → Type 0
Distinct [] = Unit {0}
Distinct (d ∷ ds) = (list_any (eq_by_cmp dot_cmp d) ds ≡ false) × Distinct ds

len_distinct : (ds : List Dot) → Distinct ds → set.len (set.from_list {R = dot_cmp} ds) ≡ length ds
len_distinct [] h = set.len-empty dot_cmp
len_distinct (d ∷ ds) h =
    let rest = set.from_list {R = dot_cmp} ds in
    let absent : set.contains rest d ≡ false = set.contains-from_list dot_cmp_total ds d ∙ h.0 in
    let grown : set.len (set.insert rest d) ≡ set.len rest + 1 = set.len-insert dot_cmp_total rest d ∙ ap (λ b. cond b (set.len rest) (set.len rest + 1)) absent in
    let before = len_distinct ds h.1 in
    grown ∙ ap (λ n. n + 1) before ∙ omega arith

-- ---- the dots of a range

-- a dot isn't among those with greater numbers
not_later : (b : Bool) (q d : Dot) → eq_by_cmp dot_cmp q d ≡ b → q.number < d.number → b ≡ false
not_later true q d e less = let same = ap (λ (x : Dot). x.number) (tied_is q d e) in absurd (omega arith)
not_later false q d e less = refl

or_none : (a b : Bool) → a ≡ false → b ≡ false → (a || b) ≡ false
or_none true b h k = cc
or_none false b h k = k

not_from : (q : Dot) (node first n : ℕ) → q.number < first → list_any (eq_by_cmp dot_cmp q) (dots_from node first n) ≡ false
not_from q node first zero less = refl
not_from q node first (suc n) less =
    or_none (eq_by_cmp dot_cmp q (record { node = node; number = first })) (list_any (eq_by_cmp dot_cmp q) (dots_from node (first + 1) n))
    (not_later (eq_by_cmp dot_cmp q (record { node = node; number = first })) q (record { node = node; number = first }) refl less)
    (not_from q node (first + 1) n (omega arith))

distinct_run : (node first n : ℕ) (rest : List Dot) → Distinct rest
    → ((k : ℕ) → first ≤ k → k < first + n → list_any (eq_by_cmp dot_cmp (record { node = node; number = k })) rest ≡ false)
    → Distinct (dots_from node first n ++ rest)
distinct_run node first zero rest d apart = d
distinct_run node first (suc n) rest d apart =
    let q : Dot = record { node = node; number = first } in (
      list_any-append (eq_by_cmp dot_cmp q) (dots_from node (first + 1) n) rest
          ∙ or_none (list_any (eq_by_cmp dot_cmp q) (dots_from node (first + 1) n)) (list_any (eq_by_cmp dot_cmp q) rest) (not_from q node (first + 1) n (omega arith)) (apart first (omega arith) (omega arith)),
      distinct_run node (first + 1) n rest d (λ k from to. apart k (omega arith) (omega arith)),
    )

length_run : (node first n : ℕ) → length (dots_from node first n) ≡ n
length_run node first zero = refl
length_run node first (suc n) = ap suc (length_run node (first + 1) n)

-- ---- the dots of ranges

sound_rest : (r : Range) (rs : List Range) → IsSound (r ∷ rs) → IsSound rs
sound_rest r rs s = record {
  fine = λ k d lt. s.fine (suc k) d (omega arith);
  apart = λ i j d lt below. s.apart (suc i) (suc j) d (omega arith) (omega arith);
}

-- no dot of the first is one of the others
free_after : (r : Range) (rs : List Range) → IsSound (r ∷ rs) → (k : ℕ) → k ≤ r.last → covered (record { node = r.node; number = k }) rs ≡ false
free_after r rs s k to =
    let q : Dot = record { node = r.node; number = k } in
    between_free rs 0 q (sound_rest r rs s) (λ i e lt. absurd (omega arith))
    (λ e some. let apart = s.apart 0 1 e (omega arith) (omega arith) in record { nodes = apart.nodes; numbers = λ same. (let far = apart.numbers (sym same) in omega arith) })

abbrev pub size_of : Range → ℕ
size_of r = r.last + 1 - r.first

distinct_dots : (rs : List Range) → IsSound rs → Distinct (dots_in rs)
unfolding dots_in
distinct_dots [] s = tt
distinct_dots (r ∷ rs) s =
    let fine = s.fine 0 r (omega arith) in
    distinct_run r.node r.first (size_of r) (dots_in rs) (distinct_dots rs (sound_rest r rs s))
    (λ k from to.
    sym (set.contains-from_list dot_cmp_total (dots_in rs) (record { node = r.node; number = k })) ∙ contains-set_of rs (record { node = r.node; number = k })
    ∙ free_after r rs s k (omega (arith, fine.not_empty)))

length_dots : (rs : List Range) → length (dots_in rs) ≡ sum_by size_of rs
unfolding dots_in
length_dots [] = refl
length_dots (r ∷ rs) =
    length-append (dots_from r.node r.first (size_of r)) (dots_in rs) ∙ (λ i. length_run r.node r.first (size_of r) i + length_dots rs i) ∙ sym (sum_by-cons size_of r rs)

pub len_of : (rs : List Range) → IsSound rs → set.len (set_of rs) ≡ sum_by size_of rs
len_of rs s = len_distinct (dots_in rs) (distinct_dots rs s) ∙ length_dots rs

-- ---- none

known_of : (a b : Bool) → (a && not b) ≡ false → a ≡ true → b ≡ true
known_of true true e h = refl
known_of true false e h = cc
known_of false b e h = cc

left_of : (a b : Bool) → (a ≡ true → b ≡ true) → (a && not b) ≡ false
left_of true b h = ap not (h refl)
left_of false b h = refl

pub none_lacks : NoneLacksWhereAllAreKnown
none_lacks taken known = (
  (λ none q has.
      let nothing : set.difference taken known ≡ set.empty = set.empty_of_len (set.difference taken known) (omega arith) in
      let gone : set.contains (set.difference taken known) q ≡ false = ap (λ (s : Dots). set.contains s q) nothing ∙ set.contains-empty dot_cmp q in
      known_of (set.contains taken q) (set.contains known q) (sym (set.contains-difference dot_cmp_total taken known q) ∙ gone) has),
  (λ all.
      let nothing : set.difference taken known ≡ set.empty =
      set.same_set dot_cmp_total dot_cmp_antisym (set.difference taken known) set.empty
      (λ q. set.contains-difference dot_cmp_total taken known q ∙ left_of (set.contains taken q) (set.contains known q) (all q) ∙ sym (set.contains-empty dot_cmp q)) in
      ap (λ (s : Dots). min (set.len s) (2 ^ 64 - 1)) nothing ∙ ap (λ n. min n (2 ^ 64 - 1)) (set.len-empty dot_cmp)),
)
