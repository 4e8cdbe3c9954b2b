-- The ranges of a set stand for the set.
use Rattle.std.proofs.Common.{◌≡◌, ℕ, zero, suc, ◌+◌, ◌<◌, ◌≤◌, ◌^◌, Bool, true, false, T, ◌||◌, ◌&&◌, ◌==◌, if◌then◌else◌, List, [], ◌∷◌, map, length, is_some, get_or, refl, sym, ap, ◌∙◌, inl, inr, arith}
use Rattle.std.specs.List.{list_any}
use Rattle.std.specs.Ordering.{eq_by_cmp, is_lt, nat_cmp, ordering_then, MatchOrdering}
use Rattle.std.specs.declared.cmp.Ordering.{Ordering}
use Rattle.std.specs.declared.cmp.Ordering.TheVariants.{Less, Equal, Greater}
use Rattle.std.specs.Cmp.{both_ways, first_so, second_so, ranks}
use Rattle.std.specs.FinSet as set
use Rattle.std.specs.FinMap.{FinMap, entries, entries_sorted, is_sorted, from_entries, get-from_entries, contains_key-keys}
use Rattle.std.specs.FinMap.Entries.{below_all, is_some-find}
use Rattle.std.proofs.lemmas.Bool.{eq-eqb, eqb-true, cases_order}
use Rattle.causal_context.specs.Dots.{Dot, Dots, dot_cmp, dot_cmp_total}
use Rattle.causal_context.specs.declared.ranges.Range.{Range}
use Rattle.causal_context.specs.Ranges.{covers, covered, set_of, IsFine, IsSound, IsApart}
use Rattle.causal_context.specs.RangeSteps.{StartsAfter}
use Rattle.causal_context.specs.Spelling.{put_before, runs, as_entry, in_order, ranges_of}
use Rattle.causal_context.proofs.RangeLemmas.{in_from_covers, covers_from_in, apart_trans, or_cases, or_left, or_right, or_group}
use Rattle.causal_context.proofs.RangeSets.{contains-set_of, same_tied, tied_is, covers_one}
use Rattle.causal_context.proofs.OneSpelling.{one_spelling}
use Rattle.causal_context.proofs.Splicing.{find_range}

pub sound_none : IsSound []
sound_none = record { fine = λ k d lt. absurd (omega arith); apart = λ i j d p lt. absurd (omega arith) }

-- one more range in front
pub sound_cons : (r : Range) (rs : List Range) → IsFine r → IsSound rs → ((d : Range) → 0 < length rs → IsApart r (get_or rs 0 d)) → IsSound (r ∷ rs)
sound_cons r rs fine sound apart = record {
  fine = fines;
  apart = aparts;
}
  where
    fines : (k : ℕ) (d : Range) → k < length (r ∷ rs) → IsFine (get_or (r ∷ rs) k d)
    fines zero d lt = fine
    fines (suc k) d lt = sound.fine k d (omega arith)

    from_first : (j : ℕ) (d : Range) → j < length rs → IsApart r (get_or rs j d)
    from_first zero d lt = apart d lt
    from_first (suc j) d lt = apart_trans r (get_or rs 0 d) (get_or rs (suc j) d) (sound.fine 0 d (omega arith)) (apart d (omega arith)) (sound.apart 0 (suc j) d (omega arith) lt)

    aparts : (i j : ℕ) (d : Range) → i < j → j < length (r ∷ rs) → IsApart (get_or (r ∷ rs) i d) (get_or (r ∷ rs) j d)
    aparts i zero d lt in_range = absurd (omega arith)
    aparts zero (suc j) d lt in_range = from_first j d (omega arith)
    aparts (suc i) (suc j) d lt in_range = sound.apart i j d (omega arith) (omega arith)

-- a dot that a context may hold
pub record IsDot (d : Dot) : Type 0 where
  pub node : d.node < 2 ^ 16
  pub from : 1 ≤ d.number
  pub below : d.number < 2 ^ 62

abbrev one_of : Dot → Range
one_of d = record { node = d.node; first = d.number; last = d.number }

one_fine : (d : Dot) → IsDot d → IsFine (one_of d)
one_fine d is = record { node = is.node; from = is.from; not_empty = omega arith; below = is.below }

-- a dot in front of sound ranges that start after it
pub record IsPut (d : Dot) (rs new : List Range) : Type 0 where
  pub sound : IsSound new
  pub starts : (e : Range) → ((get_or new 0 e).node ≡ d.node) × ((get_or new 0 e).first ≡ d.number)
  pub members : (q : Dot) → covered q new ≡ (eq_by_cmp dot_cmp q d || covered q rs)

put_one : (d : Dot) (rs : List Range) → IsDot d → IsSound rs → ((e : Range) → 0 < length rs → IsApart (one_of d) (get_or rs 0 e)) → IsPut d rs (one_of d ∷ rs)
put_one d rs is sound apart = record {
  sound = sound_cons (one_of d) rs (one_fine d is) sound apart;
  starts = λ e. (refl, refl);
  members = λ q. ap (λ b. b || covered q rs) (covers_one q d (one_of d) refl);
}

longer : (q d : Dot) (r : Range) → IsFine r → r.node ≡ d.node → r.first ≡ d.number + 1 → covers q (record { node = d.node; first = d.number; last = r.last }) ≡ (eq_by_cmp dot_cmp q d || covers q r)
longer q d r fine node first =
    let new : Range = record { node = d.node; first = d.number; last = r.last } in
    both_ways (covers q new) (eq_by_cmp dot_cmp q d || covers q r)
    (λ e. (let i = in_from_covers q new e in elim (cases_order q.number d.number) [
      | inl same ↦ or_left (eq_by_cmp dot_cmp q d) (covers q r) (same_tied q d (sym i.node) same)
      | inr (inl less) ↦ absurd (omega (arith, i.from))
      | inr (inr more) ↦ or_right (eq_by_cmp dot_cmp q d) (covers q r) (covers_from_in q r (record { node = node ∙ i.node; from = omega arith; to = i.to }))
    ]))
    (λ e. elim (or_cases (eq_by_cmp dot_cmp q d) (covers q r) e) [
      | inl a ↦ (let same = tied_is q d a in covers_from_in q new (record { node = sym (ap (λ x. x.node) same); from = omega (arith, ap (λ x. x.number) same); to = omega (arith, ap (λ x. x.number) same, fine.not_empty) }))
      | inr b ↦ (let i = in_from_covers q r b in covers_from_in q new (record { node = sym node ∙ i.node; from = omega (arith, i.from); to = i.to }))
    ])

put_longer : (d : Dot) (r : Range) (rs : List Range) → IsDot d → IsSound (r ∷ rs) → r.node ≡ d.node → r.first ≡ d.number + 1 → IsPut d (r ∷ rs) (record { node = d.node; first = d.number; last = r.last } ∷ rs)
put_longer d r rs is sound node first =
    let fine = sound.fine 0 r (omega arith) in
    record {
      sound = sound_cons (record { node = d.node; first = d.number; last = r.last }) rs (record { node = is.node; from = is.from; not_empty = omega (arith, fine.not_empty); below = fine.below })
          (record { fine = λ k e lt. sound.fine (suc k) e (omega arith); apart = λ i j e lt in_range. sound.apart (suc i) (suc j) e (omega arith) (omega arith) })
          (λ e lt. (let apart = sound.apart 0 1 e (omega arith) (omega arith) in record { nodes = omega (arith, apart.nodes); numbers = λ h. apart.numbers (omega arith) }));
      starts = λ e. (refl, refl);
      members = λ q. ap (λ b. b || covered q rs) (longer q d r fine node first) ∙ or_group (eq_by_cmp dot_cmp q d) (covers q r) (covered q rs);
    }

pub put_is : (d : Dot) (rs : List Range) → IsDot d → IsSound rs → ((e : Range) → 0 < length rs → StartsAfter d (get_or rs 0 e)) → IsPut d rs (put_before d rs)
put_is d [] is sound after = put_one d [] is sound (λ e lt. absurd (omega arith))
put_is d (r ∷ rs) is sound after =
    elim ((r.node == d.node) && (r.first == d.number + 1)) as (λ b. ((r.node == d.node) && (r.first == d.number + 1)) ≡ b
    → IsPut d (r ∷ rs) (if b then record { node = d.node; first = d.number; last = r.last } ∷ rs else one_of d ∷ r ∷ rs)) [
      | true ↦ λ t. put_longer d r rs is sound (eqb-true r.node d.node (first_so (r.node == d.node) (r.first == d.number + 1) t)) (eqb-true r.first (d.number + 1) (second_so (r.node == d.node) (r.first == d.number + 1) t))
      | false ↦ λ f. put_one d (r ∷ rs) is sound (λ e lt. (let later = after e lt in record {
        nodes = later.nodes;
        numbers = λ h. elim (cases_order r.first (d.number + 1)) [
          | inl touches ↦ absurd (contra (touching (sym h) touches) f)
          | inr (inl less) ↦ absurd (omega (arith, later.numbers (sym h)))
          | inr (inr more) ↦ more
        ];
      }))
    ] refl
  where
    contra : {b : Bool} → b ≡ true → b ≡ false → ⊥
    contra p q = cc

    touching : r.node ≡ d.node → r.first ≡ d.number + 1 → ((r.node == d.node) && (r.first == d.number + 1)) ≡ true
    touching p q = rw (eq-eqb r.node d.node p, eq-eqb r.first (d.number + 1) q)

both_parts : (a b : Bool) → T (a && b) → T a × T b
both_parts true b t = (tt, t)
both_parts false b t = absurd t

less_parts : (x y : Dot) (r s : Ordering) → MatchOrdering r (x.node < y.node) (x.node ≡ y.node) (y.node < x.node) → MatchOrdering s (x.number < y.number) (x.number ≡ y.number) (y.number < x.number)
    → T (is_lt (ordering_then r s)) → (x.node ≤ y.node) × (x.node ≡ y.node → x.number < y.number)
less_parts x y Less s a b t = (omega arith, λ e. absurd (omega arith))
less_parts x y Equal Less a b t = (omega arith, λ e. b)
less_parts x y Equal Equal a b t = absurd t
less_parts x y Equal Greater a b t = absurd t
less_parts x y Greater s a b t = absurd t

is_less : (x y : Dot) → T (is_lt (dot_cmp x y)) → (x.node ≤ y.node) × (x.node ≡ y.node → x.number < y.number)
is_less x y t = less_parts x y (nat_cmp x.node y.node) (nat_cmp x.number y.number) (ranks x.node y.node) (ranks x.number y.number) t

abbrev key : Dot × Unit {0} → Dot
key e = e.0

-- the ranges of dots in order have these dots and start with the first
record AreRuns (es : List (Dot × Unit {0})) : Type 0 where
  sound : IsSound (runs (map key es))
  members : (q : Dot) → covered q (runs (map key es)) ≡ list_any (eq_by_cmp dot_cmp q) (map key es)
  first : (d : Dot) → T (below_all dot_cmp d es) → (e : Range) → 0 < length (runs (map key es)) → StartsAfter d (get_or (runs (map key es)) 0 e)

are_runs : (es : List (Dot × Unit {0})) → T (is_sorted dot_cmp es) → ((q : Dot) → list_any (eq_by_cmp dot_cmp q) (map key es) ≡ true → IsDot q) → AreRuns es
are_runs [] sorted dots = record { sound = sound_none; members = λ q. refl; first = λ d below e lt. absurd (omega arith) }
are_runs (d ∷ es) sorted dots =
    let parts = both_parts (below_all dot_cmp d.0 es) (is_sorted dot_cmp es) sorted in
    let later = are_runs es parts.1 (λ q e. dots q (or_right (eq_by_cmp dot_cmp q d.0) (list_any (eq_by_cmp dot_cmp q) (map key es)) e)) in
    let is = dots d.0 (or_left (eq_by_cmp dot_cmp d.0 d.0) (list_any (eq_by_cmp dot_cmp d.0) (map key es)) (same_tied d.0 d.0 refl refl)) in
    let put = put_is d.0 (runs (map key es)) is later.sound (later.first d.0 parts.0) in
    record {
      sound = put.sound;
      members = λ q. put.members q ∙ ap (λ b. eq_by_cmp dot_cmp q d.0 || b) (later.members q);
      first = λ x below e lt. (let s = put.starts e in let l = is_less x d.0 (both_parts (is_lt (dot_cmp x d.0)) (below_all dot_cmp x es) below).0 in
          record { nodes = omega (arith, l.0, s.0); numbers = λ h. omega (arith, s.1, l.1 (omega (arith, s.0))) });
    }

keys_back : (ds : List Dot) → map key (map as_entry ds) ≡ ds
keys_back [] = refl
keys_back (d ∷ ds) = ap (λ xs. d ∷ xs) (keys_back ds)

abbrev ordered : Dots → FinMap dot_cmp (Unit {0})
ordered s = from_entries (map as_entry (set.items s))

contains-in_order : (s : Dots) (q : Dot) → set.contains s q ≡ list_any (eq_by_cmp dot_cmp q) (in_order s)
unfolding in_order
contains-in_order s q =
    set.contains-items s q ∙ ap (list_any (eq_by_cmp dot_cmp q)) (sym (keys_back (set.items s)))
    ∙ sym (is_some-find dot_cmp q (map as_entry (set.items s))) ∙ ap is_some (sym (get-from_entries dot_cmp_total (map as_entry (set.items s)) q))
    ∙ contains_key-keys (ordered s) q

-- ranges of a set of dots
pub record AreRangesOf (s : Dots) : Type 0 where
  pub sound : IsSound (ranges_of s)
  pub members : (q : Dot) → covered q (ranges_of s) ≡ set.contains s q

pub are_ranges_of : (s : Dots) → ((q : Dot) → set.contains s q ≡ true → IsDot q) → AreRangesOf s
unfolding ranges_of in_order
are_ranges_of s dots =
    let r = are_runs (entries (ordered s)) (entries_sorted (ordered s)) (λ q e. dots q (contains-in_order s q ∙ e)) in
    record { sound = r.sound; members = λ q. r.members q ∙ sym (contains-in_order s q) }

-- sound ranges are the ranges of their set
pub ranges_of-set_of : (rs : List Range) → IsSound rs → ranges_of (set_of rs) ≡ rs
ranges_of-set_of rs sound =
    let r = are_ranges_of (set_of rs) (λ q e. (
    let found = find_range q rs (sym (contains-set_of rs q) ∙ e) in
    let x : Range = record { node = 0; first = 0; last = 0 } in
    let fine = sound.fine found.0 x found.1.0 in
    let i = in_from_covers q (get_or rs found.0 x) (found.1.1 x) in
    record { node = omega (arith, i.node, fine.node); from = omega (arith, i.from, fine.from); below = omega (arith, i.to, fine.below) })) in
    one_spelling (ranges_of (set_of rs)) rs r.sound sound
    (λ q e. sym (contains-set_of rs q) ∙ sym (r.members q) ∙ e)
    (λ q e. r.members q ∙ contains-set_of rs q ∙ e)
