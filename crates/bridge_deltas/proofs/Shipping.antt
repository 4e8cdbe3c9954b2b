-- What is shipped has what the peer may lack.
use Rattle.std.proofs.Common.{◌≡◌, ◌⊎◌, inl, inr, ℕ, Bool, true, false, ◌||◌, List, [], ◌∷◌, length, drop, get_or, suc, ◌+◌, ◌<◌, ◌≤◌, zero, arith, add-one, refl, sym, ap, subst, ◌∙◌, true≢false}
use Rattle.std.specs.List.{list_any}
use Rattle.std.proofs.Math.Seq.{drop-cons, drop-nil}
use Rattle.std.specs.FinSet as set
use Rattle.causal_context.specs.Dots.{Dot, Dots, dot_cmp_total}
use Rattle.causal_context.specs.SetLattice.{IsSubset}
use Rattle.filter_trie.specs.Selected.{IsSelected}
use Rattle.replica_store.specs.States.{State, nothing, state_join}
use Rattle.bridge_deltas.specs.Shipped.{IsNew, IsShipped, JoinsNew, joined_to, all_joined, dots_with, AreKept}

or_left : (a b : Bool) → a ≡ true → (a || b) ≡ true
or_left true b e = refl
or_left false b e = absurd (true≢false (sym e))

or_right : (a b : Bool) → b ≡ true → (a || b) ≡ true
or_right true b e = refl
or_right false b e = e

or_cases : (a b : Bool) → (a || b) ≡ true → (a ≡ true) ⊎ (b ≡ true)
or_cases true b e = inl refl
or_cases false b e = inr e

in_union : (s t : Dots) (q : Dot) → set.contains (set.union s t) q ≡ (set.contains s q || set.contains t q)
in_union s t q = set.contains-union dot_cmp_total s t q

-- ---- the dots of states

abbrev pub any_has : Dot → List State → Bool
any_has q ds = list_any (λ d. set.contains d.taken q) ds

or_group : (a b c : Bool) → ((a || b) || c) ≡ (a || (b || c))
or_group true b c = refl
or_group false b c = refl

or_none : (a : Bool) → a ≡ (a || false)
or_none true = refl
or_none false = refl

with_has : (dots : Dots) (ds : List State) (q : Dot) → set.contains (dots_with dots ds) q ≡ (set.contains dots q || any_has q ds)
with_has dots [] q = or_none (set.contains dots q)
with_has dots (d ∷ ds) q =
    with_has (set.union dots d.taken) ds q ∙ ap (λ b. b || any_has q ds) (in_union dots d.taken q) ∙ or_group (set.contains dots q) (set.contains d.taken q) (any_has q ds)

by_bool : (b : Bool) {P : Type 0} → (b ≡ true → P) → (b ≡ false → P) → P
by_bool true f g = f refl
by_bool false f g = g refl

pub kept_if : (belief : Dots) (ds : List State) (taken : Dots) → IsSubset taken (dots_with belief ds) → AreKept belief ds taken
kept_if belief ds taken below q has lacks = elim (or_cases (set.contains belief q) (any_has q ds) (sym (with_has belief ds q) ∙ below q has)) [
  | inl known ↦ absurd (true≢false (sym known ∙ lacks))
  | inr some ↦ some
]

pub if_kept : (belief : Dots) (ds : List State) (taken : Dots) → AreKept belief ds taken → IsSubset taken (dots_with belief ds)
if_kept belief ds taken kept q has = with_has belief ds q ∙ by_bool (set.contains belief q)
    (λ known. or_left (set.contains belief q) (any_has q ds) known)
    (λ lacks. or_right (set.contains belief q) (any_has q ds) (kept q has lacks))

-- ---- deltas one after the other

-- those that were selected so far are joined, and so are those that will be
abbrev pub Joins : Dots → List State → List State → State → Type 0
Joins belief all left s = (news : List State) → IsSelected (IsNew belief) left news → (whole : List State) × IsSelected (IsNew belief) all whole × (joined_to s news ≡ all_joined whole)

pub none_joined : (belief : Dots) (all left : List State) → left ≡ all → Joins belief all left nothing
none_joined belief all left is = λ news sel. (news, subst (λ (xs : List State). IsSelected (IsNew belief) xs news) is sel, refl)

pub one_joined : (belief : Dots) (all left rest : List State) (d s : State) → left ≡ d ∷ rest → IsNew belief d → Joins belief all left s → Joins belief all rest (state_join s d)
one_joined belief all left rest d s is new joins = λ news sel. joins (d ∷ news) (subst (λ (xs : List State). IsSelected (IsNew belief) xs (d ∷ news)) (sym is) (inl (new, (news, refl, sel))))

pub one_passed : (belief : Dots) (all left rest : List State) (d s : State) → left ≡ d ∷ rest → (IsNew belief d → ⊥) → Joins belief all left s → Joins belief all rest s
one_passed belief all left rest d s is old joins = λ news sel. joins news (subst (λ (xs : List State). IsSelected (IsNew belief) xs news) (sym is) (inr (old, sel)))

pub all_passed : (belief : Dots) (all left : List State) (s : State) → left ≡ [] → Joins belief all left s → (whole : List State) × IsSelected (IsNew belief) all whole × (s ≡ all_joined whole)
all_passed belief all left s is joins = joins [] (subst (λ (xs : List State). IsSelected (IsNew belief) xs []) (sym is) refl)

next_left : (all : List State) (i : ℕ) (d : State) → i < length all → d ≡ get_or all i d → drop i all ≡ d ∷ drop (i + 1) all
next_left all i d inside is = drop-cons all i d inside ∙ λ k. sym is k ∷ drop (sym (add-one i) k) all

pub next_joined : (belief : Dots) (all : List State) (i : ℕ) (d s joined : State) → i < length all → d ≡ get_or all i d → JoinsNew belief s d joined → Joins belief all (drop i all) s → Joins belief all (drop (i + 1) all) joined
next_joined belief all i d s joined inside is (inl (new, more)) joins =
    subst (λ (t : State). Joins belief all (drop (i + 1) all) t) (sym more) (one_joined belief all (drop i all) (drop (i + 1) all) d s (next_left all i d inside is) new joins)
next_joined belief all i d s joined inside is (inr (old, same)) joins =
    subst (λ (t : State). Joins belief all (drop (i + 1) all) t) (sym same) (one_passed belief all (drop i all) (drop (i + 1) all) d s (next_left all i d inside is) old joins)

pub none_left : (all : List State) (i : ℕ) → length all ≤ i → drop i all ≡ []
none_left [] i over = drop-nil i
none_left (d ∷ all) zero over = absurd (omega (arith, over))
none_left (d ∷ all) (suc i) over = none_left all i (omega (arith, over))

-- the same for dots
pub next_dots : (belief : Dots) (all : List State) (i : ℕ) (d : State) (dots : Dots) → i < length all → d ≡ get_or all i d → dots_with dots (drop i all) ≡ dots_with belief all → dots_with (set.union dots d.taken) (drop (i + 1) all) ≡ dots_with belief all
next_dots belief all i d dots inside is so = sym (ap (dots_with dots) (next_left all i d inside is)) ∙ so

pub all_dots : (belief : Dots) (all : List State) (i : ℕ) (dots : Dots) → length all ≤ i → dots_with dots (drop i all) ≡ dots_with belief all → dots ≡ dots_with belief all
all_dots belief all i dots over so = sym (ap (dots_with dots) (none_left all i over)) ∙ so

-- ---- what is shipped
selected_same : (P : State → Type 0) (ds these those : List State) → IsSelected P ds these → IsSelected P ds those → these ≡ those
selected_same P [] these those a b = a ∙ sym b
selected_same P (d ∷ ds) these those (inl a) (inl b) = a.1.1 ∙ ap (λ r. d ∷ r) (selected_same P ds a.1.0 b.1.0 a.1.2 b.1.2) ∙ sym b.1.1
selected_same P (d ∷ ds) these those (inl a) (inr b) = absurd (b.0 a.0)
selected_same P (d ∷ ds) these those (inr a) (inl b) = absurd (a.0 b.0)
selected_same P (d ∷ ds) these those (inr a) (inr b) = selected_same P ds these those a.1 b.1

pub shipped_one : (belief : Dots) (deltas : List State) (store s t : State) → IsShipped belief deltas store s → IsShipped belief deltas store t → s ≡ t
shipped_one belief deltas store s t (inl a) (inl b) = a.1.2 ∙ ap all_joined (selected_same (IsNew belief) deltas a.1.0 b.1.0 a.1.1 b.1.1) ∙ sym b.1.2
shipped_one belief deltas store s t (inl a) (inr b) = absurd (b.0 a.0)
shipped_one belief deltas store s t (inr a) (inl b) = absurd (a.0 b.0)
shipped_one belief deltas store s t (inr a) (inr b) = a.1 ∙ sym b.1

selected_has : (belief : Dots) (q : Dot) (ds news : List State) → set.contains belief q ≡ false → IsSelected (IsNew belief) ds news → any_has q ds ≡ true → any_has q news ≡ true
selected_has belief q [] news lacks sel some = absurd (true≢false (sym some))
selected_has belief q (d ∷ ds) news lacks (inl (new, more)) some = ap (any_has q) more.1 ∙ elim (or_cases (set.contains d.taken q) (any_has q ds) some) [
  | inl here ↦ or_left (set.contains d.taken q) (any_has q more.0) here
  | inr later ↦ or_right (set.contains d.taken q) (any_has q more.0) (selected_has belief q ds more.0 lacks more.2 later)
]
selected_has belief q (d ∷ ds) news lacks (inr (old, sel)) some = elim (or_cases (set.contains d.taken q) (any_has q ds) some) [
  | inl here ↦ absurd (old (λ below. true≢false (sym (below q here) ∙ lacks)))
  | inr later ↦ selected_has belief q ds news lacks sel later
]

joined_has : (s : State) (ds : List State) (q : Dot) → set.contains (joined_to s ds).taken q ≡ (set.contains s.taken q || any_has q ds)
joined_has s [] q = or_none (set.contains s.taken q)
joined_has s (d ∷ ds) q =
    joined_has (state_join s d) ds q ∙ ap (λ b. b || any_has q ds) (in_union s.taken d.taken q) ∙ or_group (set.contains s.taken q) (set.contains d.taken q) (any_has q ds)

pub shipped_enough : (belief : Dots) (deltas : List State) (store s : State) → IsShipped belief deltas store s → (q : Dot) → set.contains store.taken q ≡ true → (set.contains belief q ≡ true) ⊎ (set.contains s.taken q ≡ true)
shipped_enough belief deltas store s (inl (kept, joined)) q has = by_bool (set.contains belief q) (λ known. inl known)
    (λ lacks. inr (ap (λ (x : State). set.contains x.taken q) joined.2 ∙ joined_has nothing joined.0 q
    ∙ or_right (set.contains nothing.taken q) (any_has q joined.0) (selected_has belief q deltas joined.0 lacks joined.1 (kept q has lacks))))
shipped_enough belief deltas store s (inr (lost, same)) q has = inr (ap (λ (x : State). set.contains x.taken q) same ∙ has)
