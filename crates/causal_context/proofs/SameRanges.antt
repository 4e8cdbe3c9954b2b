-- Ranges of equal fields are one.
use Rattle.std.proofs.Common.{◌≡◌, ◌==◌, Bool, true, ◌&&◌, List, [], ◌∷◌, length, ◌↔◌, refl, sym, ap, subst, ◌∙◌, inl, inr, arith}
use Rattle.std.specs.Cmp.{first_so, second_so}
use Rattle.std.specs.Cmp.Lexicographic.{pointwise}
use Rattle.std.proofs.lemmas.Bool.{eq-eqb, eqb-true}
use Rattle.std.specs.FinSet as set
use Rattle.causal_context.specs.Dots.{Dots}
use Rattle.causal_context.specs.declared.ranges.Range.{Range}
use Rattle.causal_context.specs.Ranges.{covered, IsSound, set_of}
use Rattle.causal_context.specs.RangeSteps.{IsUnion}
use Rattle.causal_context.proofs.RangeLemmas.{or_cases}
use Rattle.causal_context.proofs.Below.{none_covered}
use Rattle.causal_context.proofs.OneSpelling.{one_spelling}
use Rattle.causal_context.proofs.RangeSets.{below_from_same, set_of_none}
use Rattle.causal_context.proofs.Runs.{sound_none}

-- the test that the derived `==` makes
abbrev pub range_eq : Range → Range → Bool
range_eq a b = (a.node == b.node) && ((a.first == b.first) && (a.last == b.last))

same_range : (a b : Range) → range_eq a b ≡ true → a ≡ b
same_range a b e =
    let rest = second_so (a.node == b.node) ((a.first == b.first) && (a.last == b.last)) e in
    let node = eqb-true a.node b.node (first_so (a.node == b.node) ((a.first == b.first) && (a.last == b.last)) e) in
    let first = eqb-true a.first b.first (first_so (a.first == b.first) (a.last == b.last) rest) in
    let last = eqb-true a.last b.last (second_so (a.first == b.first) (a.last == b.last) rest) in
    λ i. record { node = node i; first = first i; last = last i }

range_itself : (a : Range) → range_eq a a ≡ true
range_itself a = rw (eq-eqb a.node a.node refl, eq-eqb a.first a.first refl, eq-eqb a.last a.last refl)

same_lists : (a b : List Range) → pointwise range_eq a b ≡ true → a ≡ b
same_lists [] [] e = refl
same_lists [] (y ∷ b) e = cc
same_lists (x ∷ a) [] e = cc
same_lists (x ∷ a) (y ∷ b) e =
    let head = same_range x y (first_so (range_eq x y) (pointwise range_eq a b) e) in
    let tail = same_lists a b (second_so (range_eq x y) (pointwise range_eq a b) e) in
    λ i. head i ∷ tail i

list_itself : (a : List Range) → pointwise range_eq a a ≡ true
list_itself [] = refl
list_itself (x ∷ a) = rw (range_itself x) (list_itself a)

-- equal lists of ranges stand for one set, and no others do
pub same_sets_test : (a b : List Range) (s t : Dots) → IsSound a → IsSound b → set_of a ≡ s → set_of b ≡ t → (pointwise range_eq a b ≡ true) ↔ (s ≡ t)
same_sets_test a b s t sound_a sound_b is_s is_t = (
  λ e. sym is_s ∙ ap set_of (same_lists a b e) ∙ is_t,
  λ e. (let same = is_s ∙ e ∙ sym is_t in subst (λ x. pointwise range_eq a x ≡ true) (one_spelling a b sound_a sound_b (below_from_same a b same) (below_from_same b a (sym same))) (list_itself a)),
)

none_of : (rs : List Range) → length rs ≡ 0 → rs ≡ []
none_of [] e = refl
none_of (r ∷ rs) e = absurd (omega arith)

-- the ranges of no dots are none
pub empty_test : (rs : List Range) (s : Dots) → IsSound rs → set_of rs ≡ s → (length rs ≡ 0) ↔ (s ≡ set.empty)
empty_test rs s sound is = (
  λ e. sym is ∙ set_of_none rs (none_of rs e),
  λ e. (let same : set_of rs ≡ set_of [] = is ∙ e ∙ sym (set_of_none [] refl) in
      ap length (one_spelling rs [] sound sound_none (below_from_same rs [] same) (below_from_same [] rs (sym same)))),
)

-- the union of no ranges has none
pub none_of_both : (a b out : List Range) → IsUnion a b out → length a ≡ 0 → length b ≡ 0 → length out ≡ 0
none_of_both a b out u no_a no_b = none_covered out u.sound (λ q e. elim (or_cases (covered q a) (covered q b) (sym (u.members q) ∙ e)) [
  | inl x ↦ (let no = ap (covered q) (sym (none_of a no_a)) ∙ x in cc)
  | inr y ↦ (let no = ap (covered q) (sym (none_of b no_b)) ∙ y in cc)
])
