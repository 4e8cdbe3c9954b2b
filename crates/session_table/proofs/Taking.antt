-- Those of a list in order whose moment has come stand at its front.
use Rattle.std.proofs.Common.{◌≡◌, ℕ, ◌<◌, ◌≤◌, true, false, cond, List, [], ◌∷◌, ◌++◌, nat_le, nat_cmp, Ordering, Less, Equal, Greater, refl, sym, ap, subst, ◌∙◌, arith}
use Rattle.std.proofs.lemmas.Bool.Decides.{nat_tests}
use Rattle.std.proofs.lemmas.List.{append_assoc, append-nil}
use Rattle.std.specs.List.{AllByRecursion, filter}
use Rattle.std.specs.List.Sorted.{IsStrictlySortedBy}
use Rattle.std.specs.Ordering.{ordering_then}
use Rattle.session_table.specs.Dues.{Due, due_cmp}

abbrev pub come : ℕ → List Due → List Due
come now ds = filter (λ d. nat_le d.0 now) ds

not_above : (a b : ℕ) (o : Ordering) → ordering_then (nat_cmp a b) o ≡ Less → a ≤ b
not_above a b o e = by (nat_cmp a b) refl e
  where
    by : (r : Ordering) → nat_cmp a b ≡ r → ordering_then r o ≡ Less → a ≤ b
    by Less p q = grind (arith, nat_tests)
    by Equal p q = grind (arith, nat_tests)
    by Greater p q = absurd (let z : Greater ≡ Less = q in cc)

none_after : (now : ℕ) (d : Due) (ds : List Due) → now < d.0 → AllByRecursion (λ y. due_cmp d y ≡ Less) ds → come now ds ≡ []
none_after now d [] later h = refl
none_after now d (x ∷ xs) later h =
    (let least = not_above d.0 x.0 _ h.0 in
    let no : nat_le x.0 now ≡ false = grind (arith, nat_tests) in
    ap (λ b. cond b (x ∷ come now xs) (come now xs)) no ∙ none_after now d xs later h.1)

-- a walk from the front: `out` is taken, `left` is left
pub record Walks (now : ℕ) (all out left : List Due) : Type 0 where
  pub so : out ++ come now left ≡ come now all
  pub rises : IsStrictlySortedBy due_cmp left

pub begins : (now : ℕ) (all keys out left : List Due) → all ≡ keys → IsStrictlySortedBy due_cmp keys → out ≡ [] → left ≡ keys → Walks now all out left
begins now all keys out left is rises none whole = record {
  so = ap (λ o. o ++ come now left) none ∙ ap (come now) (whole ∙ sym is);
  rises = subst (IsStrictlySortedBy due_cmp) (sym whole) rises;
}

rest_rises : (d : Due) (ds : List Due) → IsStrictlySortedBy due_cmp (d ∷ ds) → IsStrictlySortedBy due_cmp ds
unfolding IsStrictlySortedBy
rest_rises d ds h = h.1

first_least : (d : Due) (ds : List Due) → IsStrictlySortedBy due_cmp (d ∷ ds) → AllByRecursion (λ y. due_cmp d y ≡ Less) ds
unfolding IsStrictlySortedBy
first_least d ds h = h.0

-- one more has come
pub goes : (now : ℕ) (all out new left rest : List Due) (d : Due) → left ≡ d ∷ rest → d.0 ≤ now → new ≡ out ++ d ∷ [] → Walks now all out left → Walks now all new rest
goes now all out new left rest d step has grown w =
    (let yes : nat_le d.0 now ≡ true = grind (arith, nat_tests) in record {
      so =
          ap (λ o. o ++ come now rest) grown ∙ append_assoc out (d ∷ []) (come now rest)
          ∙ ap (λ xs. out ++ xs) (sym (ap (λ b. cond b (d ∷ come now rest) (come now rest)) yes)) ∙ ap (λ l. out ++ come now l) (sym step) ∙ w.so;
      rises = rest_rises d rest (subst (IsStrictlySortedBy due_cmp) step w.rises);
    })

-- the next one hasn't, and so none after it has
pub stops : (now : ℕ) (all out left rest : List Due) (d : Due) → left ≡ d ∷ rest → now < d.0 → Walks now all out left → out ≡ come now all
stops now all out left rest d step later w =
    (let no : nat_le d.0 now ≡ false = grind (arith, nat_tests) in
    let none : come now left ≡ [] =
    ap (come now) step ∙ ap (λ b. cond b (d ∷ come now rest) (come now rest)) no ∙ none_after now d rest later (first_least d rest (subst (IsStrictlySortedBy due_cmp) step w.rises)) in
    sym (append-nil out) ∙ ap (λ xs. out ++ xs) (sym none) ∙ w.so)

-- none is left
pub ends : (now : ℕ) (all out left : List Due) → left ≡ [] → Walks now all out left → out ≡ come now all
ends now all out left over w = sym (append-nil out) ∙ ap (λ l. out ++ come now l) (sym over) ∙ w.so

-- where none has come, the next one hasn't
pub none_next : (now : ℕ) (all out left rest : List Due) (d : Due) → left ≡ d ∷ rest → d.0 ≤ now → Walks now all out left → come now all ≡ [] → ⊥
none_next now all out left rest d step has w none =
    (let yes : nat_le d.0 now ≡ true = grind (arith, nat_tests) in
    let there : out ++ d ∷ come now rest ≡ [] =
    ap (λ xs. out ++ xs) (sym (ap (λ b. cond b (d ∷ come now rest) (come now rest)) yes)) ∙ ap (λ l. out ++ come now l) (sym step) ∙ w.so ∙ none in
    not_empty out d (come now rest) there)
  where
    not_empty : (xs : List Due) (d : Due) (ys : List Due) → xs ++ d ∷ ys ≡ [] → ⊥
    not_empty [] d ys e = cc
    not_empty (x ∷ xs) d ys e = cc
