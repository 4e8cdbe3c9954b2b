-- The tests whether a state names none but nodes of the cluster.
use Rattle.std.proofs.Common.{◌≡◌, ◌↔◌, ℕ, ◌<◌, Bool, true, false, ◌||◌, ◌&&◌, List, [], ◌∷◌, inl, inr, refl, sym, ap, subst, ◌∙◌}
use Rattle.std.specs.Prelude.{nat_lt}
use Rattle.std.specs.Cmp.{tied_itself, Equal-is}
use Rattle.std.specs.FinMap as map
use Rattle.std.specs.FinSet as set
use Rattle.std.specs.List.{list_all, list_any, AllByRecursion}
use Rattle.std.specs.Ordering.{eq_by_cmp, is_eq}
use Rattle.std.proofs.lemmas.Bool.{and_from, lt-ltb, ltb-true, or_cases, or_left, or_right}
use Rattle.causal_context.specs.Dots.{Dot, Dots, dot_cmp, dot_cmp_total, dot_cmp_antisym}
use Rattle.replica_store.specs.declared.kept.Kept.{Kept}
use Rattle.replica_store.specs.States.{State}
use Rattle.subscription_set.specs.Standing.{seen_of}
use Rattle.node_rows.specs.Reading.{AreAmong, IsAmong}
use Rattle.node_rows.specs.Naming.{dots_among, stamps_among, state_among}
use Rattle.node_rows.proofs.Kept.{IsKeptBelow, stamps_from, stamps_to}

both_true : (a b : Bool) → (a && b) ≡ true → (a ≡ true) × (b ≡ true)
both_true true b h = (refl, h)
both_true false b h = absurd (let no : false ≡ true = h in cc)

-- ---- dots
abbrev Low : ℕ → Dot → Bool
Low nodes d = nat_lt d.node nodes

any_low : (nodes : ℕ) (ds : List Dot) (d : Dot) → list_all (Low nodes) ds ≡ true → list_any (eq_by_cmp dot_cmp d) ds ≡ true → d.node < nodes
any_low nodes [] d all there = absurd (let no : false ≡ true = there in cc)
any_low nodes (e ∷ ds) d all there =
    let parts = both_true (Low nodes e) (list_all (Low nodes) ds) all in
    elim (or_cases (eq_by_cmp dot_cmp d e) (list_any (eq_by_cmp dot_cmp d) ds) there) [
      | inl here ↦ subst (λ (x : Dot). x.node < nodes) (sym (dot_cmp_antisym d e ((Equal-is (dot_cmp d e)).0 here))) (ltb-true e.node nodes parts.0)
      | inr later ↦ any_low nodes ds d parts.1 later
    ]

all_low : (nodes : ℕ) (ds : List Dot) → ((d : Dot) → list_any (eq_by_cmp dot_cmp d) ds ≡ true → d.node < nodes) → list_all (Low nodes) ds ≡ true
all_low nodes [] low = refl
all_low nodes (e ∷ ds) low =
    let itself : eq_by_cmp dot_cmp e e ≡ true = ap is_eq (tied_itself dot_cmp_total e) in
    and_from (Low nodes e) (list_all (Low nodes) ds) (lt-ltb e.node nodes (low e (or_left (eq_by_cmp dot_cmp e e) (list_any (eq_by_cmp dot_cmp e) ds) itself)))
    (all_low nodes ds (λ d there. low d (or_right (eq_by_cmp dot_cmp d e) (list_any (eq_by_cmp dot_cmp d) ds) there)))

pub dots_tested : (nodes : ℕ) (dots : Dots) → (dots_among nodes dots ≡ true) ↔ AreAmong nodes dots
dots_tested nodes dots = (
  λ all d there. any_low nodes (set.items dots) d all (sym (set.contains-items dots d) ∙ there),
  λ among. all_low nodes (set.items dots) (λ d there. among d (set.contains-items dots d ∙ there)),
)

-- ---- stamps
stamps_low : (nodes : ℕ) (es : List (List ℕ × Kept)) → (list_all (λ e. nat_lt e.1.stamp.node nodes) es ≡ true) ↔ AllByRecursion (IsKeptBelow nodes) es
stamps_low nodes [] = (λ h. tt, λ h. refl)
stamps_low nodes (e ∷ es) =
    let rest = list_all (λ (x : List ℕ × Kept). nat_lt x.1.stamp.node nodes) es in (
      λ h. (let parts = both_true (nat_lt e.1.stamp.node nodes) rest h in (ltb-true e.1.stamp.node nodes parts.0, (stamps_low nodes es).0 parts.1)),
      λ h. and_from (nat_lt e.1.stamp.node nodes) rest (lt-ltb e.1.stamp.node nodes h.0) ((stamps_low nodes es).1 h.1),
    )

-- ---- states
pub state_tested : (nodes : ℕ) (s : State) → (state_among nodes s ≡ true) ↔ IsAmong nodes s
state_tested nodes s =
    let taken = dots_among nodes s.taken in
    let seen = dots_among nodes (seen_of s.subscriptions) in
    let stamps = stamps_among nodes s.retained in (
      λ h. (let last = both_true (taken && seen) stamps h in
          let dots = both_true taken seen last.0 in
          record {
            taken = (dots_tested nodes s.taken).0 dots.0;
            seen = (dots_tested nodes (seen_of s.subscriptions)).0 dots.1;
            stamps = stamps_from nodes s.retained ((stamps_low nodes (map.entries s.retained)).0 last.1);
          }),
      λ among. and_from (taken && seen) stamps (and_from taken seen ((dots_tested nodes s.taken).1 among.taken) ((dots_tested nodes (seen_of s.subscriptions)).1 among.seen))
          ((stamps_low nodes (map.entries s.retained)).1 (stamps_to nodes s.retained among.stamps)),
    )

-- two tests of one thing
pub tests_agree : {P : Type 0} (a b : Bool) → (a ≡ true) ↔ P → (b ≡ true) ↔ P → a ≡ b
tests_agree true true p q = refl
tests_agree true false p q = absurd (let no : false ≡ true = q.1 (p.0 refl) in cc)
tests_agree false true p q = absurd (let no : false ≡ true = p.1 (q.0 refl) in cc)
tests_agree false false p q = refl
