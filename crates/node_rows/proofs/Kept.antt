-- States that name none but nodes of the cluster.
use Rattle.std.proofs.Common.{◌≡◌, ◌↔◌, inl, inr, ℕ, ◌<◌, Bool, true, false, cond, ◌&&◌, T, List, [], ◌∷◌, Option, Some, Ordering, Less, Equal, Greater, arith, refl, sym, ap, subst, ◌∙◌}
use Rattle.std.specs.Cmp.{IsTotalOrder, tied_itself}
use Rattle.std.specs.Cmp.Lexicographic.{nat_list_cmp_total}
use Rattle.std.specs.FinMap.{find, is_sorted}
use Rattle.std.specs.FinMap.Entries.{below_all}
use Rattle.std.specs.FinMap as map
use Rattle.std.specs.FinSet as set
use Rattle.std.specs.List.{All, AllByRecursion}
use Rattle.std.specs.Ordering.{eq_by_cmp, is_eq, is_lt, ordering_reverse}
use Rattle.std.proofs.lemmas.Bool.{cases_Bool}
use Rattle.std.proofs.lemmas.List.Elements.{All-from_recursion, recursion_from_All}
use Rattle.causal_context.specs.Dots.{Dot, Dots}
use Rattle.causal_context.specs.Ranges.{IsContext, IsFine, covered, covers, set_of}
use Rattle.causal_context.specs.declared.ranges.Range.{Range}
use Rattle.causal_context.proofs.RangeLemmas.{covers_from_in, in_from_covers, or_cases, or_left, or_right}
use Rattle.causal_context.proofs.RangeSets.{contains-set_of}
use Rattle.replica_store.specs.declared.kept.Kept.{Kept}
use Rattle.replica_store.specs.Retained.{Retained}
use Rattle.node_rows.specs.Reading.{AreAmong}

-- ---- ranges
abbrev IsNodeBelow : ℕ → Range → Type 0
IsNodeBelow nodes r = r.node < nodes

covered_below : (nodes : ℕ) (rs : List Range) (d : Dot) → AllByRecursion (IsNodeBelow nodes) rs → covered d rs ≡ true → d.node < nodes
covered_below nodes [] d all is = absurd cc
covered_below nodes (r ∷ rs) d all is = elim (or_cases (covers d r) (covered d rs) is) [
  | inl here ↦ (let same = (in_from_covers d r here).node in omega (arith, all.0, same))
  | inr later ↦ covered_below nodes rs d all.1 later
]

all_below : (nodes : ℕ) (rs : List Range) → AllByRecursion IsFine rs → ((d : Dot) → covered d rs ≡ true → d.node < nodes) → AllByRecursion (IsNodeBelow nodes) rs
all_below nodes [] fine below = tt
all_below nodes (r ∷ rs) fine below =
    let first : Dot = record { node = r.node; number = r.first } in (
      below first (or_left (covers first r) (covered first rs) (covers_from_in first r (record { node = refl; from = omega arith; to = fine.0.not_empty }))),
      all_below nodes rs fine.1 (λ d is. below d (or_right (covers d r) (covered d rs) is)),
    )

pub dots_below : (nodes : ℕ) (rs : List Range) (dots : Dots) → IsContext rs → set_of rs ≡ dots → All (IsNodeBelow nodes) rs ↔ AreAmong nodes dots
dots_below nodes rs dots context is = (
  λ all d there. covered_below nodes rs d (recursion_from_All (IsNodeBelow nodes) rs all) (sym (contains-set_of rs d) ∙ ap (λ s. set.contains s d) is ∙ there),
  λ among. All-from_recursion (IsNodeBelow nodes) rs (all_below nodes rs (recursion_from_All IsFine rs (λ i d low. context.sound.fine i d low)) (λ d there. among d (ap (λ s. set.contains s d) (sym is) ∙ contains-set_of rs d ∙ there))),
)

-- ---- entries of a map
first : (a b : Bool) → T (a && b) → T a
first true b p = tt
first false b p = absurd p

second : (a b : Bool) → T (a && b) → T b
second true b p = p
second false b p = absurd p

less_is : (o : Ordering) → T (is_lt o) → o ≡ Less
less_is Less h = refl
less_is Equal h = absurd h
less_is Greater h = absurd h

reversed : {K : Type 0} {R : K → K → Ordering} → IsTotalOrder R → (x y : K) → R x y ≡ Less → eq_by_cmp R y x ≡ false
reversed {R = R} o x y low = ap is_eq (o.antisymm y x) ∙ ap (λ r. is_eq (ordering_reverse r)) low

skipped : {X : Type 0} (b : Bool) (v : X) (o p : Option X) → b ≡ false → o ≡ p → cond b (Some v) o ≡ p
skipped b v o p f is = rw f is

module _ {K X : Type 0} {R : K → K → Ordering} (o : IsTotalOrder R) where
  found_later : (x : K × X) (xs ys : List (K × X)) → T (below_all R x.0 ys) → AllByRecursion (λ e. find R e.0 xs ≡ Some e.1) ys → AllByRecursion (λ e. find R e.0 (x ∷ xs) ≡ Some e.1) ys
  found_later x xs [] up all = tt
  found_later x xs (y ∷ ys) up all = (skipped (eq_by_cmp R y.0 x.0) x.1 (find R y.0 xs) (Some y.1) (reversed o x.0 y.0 (less_is (R x.0 y.0) (first _ _ up))) all.0, found_later x xs ys (second _ _ up) all.1)

  each_found : (xs : List (K × X)) → T (is_sorted R xs) → AllByRecursion (λ e. find R e.0 xs ≡ Some e.1) xs
  each_found [] up = tt
  each_found (x ∷ xs) up = (ap (λ b. cond (is_eq b) (Some x.1) (find R x.0 xs)) (tied_itself o x.0), found_later x xs xs (first _ _ up) (each_found xs (second _ _ up)))

  found_has : (P : X → Type 0) (es : List (K × X)) (q : K) (v : X) → AllByRecursion (λ e. P e.1) es → find R q es ≡ Some v → P v
  found_has P [] q v all is = absurd cc
  found_has P (e ∷ es) q v all is = elim (cases_Bool (eq_by_cmp R q e.0)) [
    | inl t ↦ (let here : Some e.1 ≡ Some v = rw t at is in let same : e.1 ≡ v = cc in subst P same all.0)
    | inr f ↦ found_has P es q v all.1 (rw f at is)
  ]

turned : {A : Type 0} (P Q : A → Type 0) (xs : List A) → ((x : A) → P x → Q x) → AllByRecursion P xs → AllByRecursion Q xs
turned P Q [] turn all = tt
turned P Q (x ∷ xs) turn all = (turn x all.0, turned P Q xs turn all.1)

abbrev pub IsKeptBelow : ℕ → List ℕ × Kept → Type 0
IsKeptBelow nodes e = e.1.stamp.node < nodes

pub stamps_from : (nodes : ℕ) (r : Retained) → AllByRecursion (IsKeptBelow nodes) (map.entries r) → (topic : List ℕ) (k : Kept) → map.get r topic ≡ Some k → k.stamp.node < nodes
stamps_from nodes r all topic k is = found_has nat_list_cmp_total (λ (x : Kept). x.stamp.node < nodes) (map.entries r) topic k all (sym (map.get-entries r topic) ∙ is)

pub stamps_to : (nodes : ℕ) (r : Retained) → ((topic : List ℕ) (k : Kept) → map.get r topic ≡ Some k → k.stamp.node < nodes) → AllByRecursion (IsKeptBelow nodes) (map.entries r)
stamps_to nodes r below = turned _ (IsKeptBelow nodes) (map.entries r) (λ e there. below e.0 e.1 (map.get-entries r e.0 ∙ there)) (each_found nat_list_cmp_total (map.entries r) (map.entries_sorted r))

-- what is left of a list holds of all or of none as the list does
abbrev pub AreAlike : {X : Type 0} → (X → Type 0) → List X → List X → Type 0
AreAlike P left all = AllByRecursion P left ↔ AllByRecursion P all

pub alike_first : {X : Type 0} (P : X → Type 0) (all left : List X) → left ≡ all → AreAlike P left all
alike_first P all left is = (λ h. subst (AllByRecursion P) is h, λ h. subst (AllByRecursion P) (sym is) h)

pub alike_next : {X : Type 0} (P : X → Type 0) (all left rest : List X) (x : X) → left ≡ x ∷ rest → P x → AreAlike P left all → AreAlike P rest all
alike_next P all left rest x is here so = (λ more. so.0 (subst (AllByRecursion P) (sym is) (here, more)), λ h. (subst (AllByRecursion P) is (so.1 h)).1)

pub alike_stops : {X : Type 0} (P : X → Type 0) (all left rest : List X) (x : X) → left ≡ x ∷ rest → (P x → ⊥) → AreAlike P left all → AllByRecursion P all → ⊥
alike_stops P all left rest x is not so h = not (subst (AllByRecursion P) is (so.1 h)).0

pub alike_ends : {X : Type 0} (P : X → Type 0) (all left : List X) → left ≡ [] → AreAlike P left all → AllByRecursion P all
alike_ends P all left is so = so.0 (subst (AllByRecursion P) (sym is) tt)
