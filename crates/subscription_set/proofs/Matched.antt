-- Dots under the filters that match a name.
use Rattle.std.proofs.Common.{◌≡◌, ℕ, ◌+◌, ◌<◌, length, get_or, take, arith, Bool, true, false, ◌||◌, ◌&&◌, ◌↔◌, List, [], ◌∷◌, map as map_list, Result, Ok, Err, inl, inr, refl, sym, ap, subst, ◌∙◌}
use Rattle.std.specs.Prelude.{IsOk, OnErr}
use Rattle.std.specs.List.{list_any}
use Rattle.std.specs.Cmp.{Equal-is}
use Rattle.std.specs.Ordering.{eq_by_cmp, is_eq}
use Rattle.std.specs.FinMap as map
use Rattle.std.specs.FinSet as set
use Rattle.std.proofs.lemmas.Cmp.{tied_itself}
use Rattle.std.proofs.lemmas.List.{take_more}
use Rattle.causal_context.specs.Dots.{Dot, Dots, dot_cmp, dot_cmp_total, dot_cmp_antisym}
use Rattle.filter_trie.specs.Selected.{IsSelected}
use Rattle.subscription_set.specs.Filing.{Filed, HasUnder, IsFilled, spread, text_cmp}
use Rattle.subscription_set.proofs.Latest.{IsIn, any_map}
use Rattle.subscription_set.proofs.Spreading.{text_total, text_anti, in_group, any_both, any_entry, contains-spread, under_some}

-- what is left, added to the set, is what was to be added to the set before
abbrev pub IsAdded : Dots → List Dot → Dots → List Dot → Type 0
IsAdded old all out left = (q : Dot) → (set.contains out q || list_any (eq_by_cmp dot_cmp q) left) ≡ (set.contains old q || list_any (eq_by_cmp dot_cmp q) all)

turned : (a b c : Bool) → ((a || b) || c) ≡ (b || (a || c))
turned true true c = refl
turned true false c = refl
turned false b c = refl

or_false : (b : Bool) → (b || false) ≡ b
or_false true = refl
or_false false = refl

pub added_more : (old out out' : Dots) (all left left' : List Dot) (x : Dot) → left ≡ x ∷ left' → out' ≡ set.insert out x → IsAdded old all out left → IsAdded old all out' left'
added_more old out out' all left left' x step is h q =
    ap (λ s. set.contains s q || list_any (eq_by_cmp dot_cmp q) left') is ∙ ap (λ b. b || list_any (eq_by_cmp dot_cmp q) left') (set.contains-insert dot_cmp_total out x q)
    ∙ turned (eq_by_cmp dot_cmp q x) (set.contains out q) (list_any (eq_by_cmp dot_cmp q) left')
    ∙ ap (λ l. set.contains out q || list_any (eq_by_cmp dot_cmp q) l) (sym step) ∙ h q

pub added_all : (old out s : Dots) (all left : List Dot) → left ≡ [] → set.from_list {R = dot_cmp} all ≡ s → IsAdded old all out left → (q : Dot) → set.contains out q ≡ (set.contains old q || set.contains s q)
added_all old out s all left over is h q =
    sym (or_false (set.contains out q)) ∙ ap (λ l. set.contains out q || list_any (eq_by_cmp dot_cmp q) l) (sym over) ∙ h q
    ∙ ap (λ b. set.contains old q || b) (sym (set.contains-from_list dot_cmp_total all q) ∙ ap (λ x. set.contains x q) is)

-- ---- what is selected

either : (b : Bool) → (b || true) ≡ true
either true = refl
either false = refl

module _ {A : Type 0} (P : A → Type 0) where
  -- one of what is selected has the property, and is among the others
  pub selected_one : (t : A → Bool) (xs out : List A) → IsSelected P xs out → list_any t out ≡ true → (x : A) × (t x ≡ true) × P x × IsIn xs x
  selected_one t [] out h e = absurd (let no : list_any t [] ≡ true = ap (list_any t) (sym h) ∙ e in cc)
  selected_one t (x ∷ xs) out (inl h) e = elim (t x) as (λ b. t x ≡ b → (b || list_any t h.1.0) ≡ true → (y : A) × (t y ≡ true) × P y × IsIn (x ∷ xs) y) [
    | true ↦ λ is _. (x, is, h.0, (λ u f. ap (λ b. b || list_any u xs) f))
    | false ↦ λ is f. (let rest = selected_one t xs h.1.0 h.1.2 f in (rest.0, rest.1, rest.2, (λ u g. ap (λ b. u x || b) (rest.3 u g) ∙ either (u x))))
  ] refl (ap (list_any t) (sym h.1.1) ∙ e)
  selected_one t (x ∷ xs) out (inr h) e = (let rest = selected_one t xs out h.1 e in (rest.0, rest.1, rest.2, (λ u g. ap (λ b. u x || b) (rest.3 u g) ∙ either (u x))))

  -- one that has the property is selected
  pub selected_any : (t u : A → Bool) → ((x : A) → u x ≡ true → (t x ≡ true) × P x) → (xs out : List A) → IsSelected P xs out → list_any u xs ≡ true → list_any t out ≡ true
  selected_any t u f [] out h e = cc
  selected_any t u f (x ∷ xs) out (inl h) e = elim (u x) as (λ b. u x ≡ b → (b || list_any u xs) ≡ true → list_any t out ≡ true) [
    | true ↦ λ is _. ap (list_any t) h.1.1 ∙ ap (λ b. b || list_any t h.1.0) (f x is).0
    | false ↦ λ is g. ap (list_any t) h.1.1 ∙ ap (λ b. t x || b) (selected_any t u f xs h.1.0 h.1.2 g) ∙ either (t x)
  ] refl e
  selected_any t u f (x ∷ xs) out (inr h) e = elim (u x) as (λ b. u x ≡ b → (b || list_any u xs) ≡ true → list_any t out ≡ true) [
    | true ↦ λ is _. absurd (h.0 (f x is).1)
    | false ↦ λ is g. selected_any t u f xs out h.1 g
  ] refl e

  -- where none has the property, nothing is selected
  pub selected_none : (xs : List A) → ((x : A) → IsIn xs x → ¬ (P x)) → IsSelected P xs []
  selected_none [] f = refl
  selected_none (x ∷ xs) f = inr (f x (λ t e. ap (λ b. b || list_any t xs) e), selected_none xs (λ y h. f y (λ t e. ap (λ b. t x || b) (h t e) ∙ either (t x))))

and_parts : (a b : Bool) → (a && b) ≡ true → (a ≡ true) × (b ≡ true)
and_parts true b e = (refl, e)
and_parts false b e = cc

-- ---- the dots of each filter, in a trie

-- a dot is under a filter with a property
abbrev pub IsUnder : (List ℕ → Type 0) → Filed → Dot → Type 0
IsUnder P v d = (f : List ℕ) × (set.contains v (f, d) ≡ true) × P f

module _ (m : map.FinMap text_cmp Dots) (filled : IsFilled m) (P : List ℕ → Type 0) where
  abbrev matches : List ℕ × Dots → Type 0
  matches e = P e.0

  -- a filter with a dot, among the entries
  abbrev has : List ℕ → Dot → List ℕ × Dots → Bool
  has f d e = eq_by_cmp text_cmp f e.0 && set.contains e.1 d

  listed : (f : List ℕ) (d : Dot) → set.contains (spread m) (f, d) ≡ list_any (has f d) (map.entries m)
  listed f d = contains-spread text_total text_anti dot_cmp_total dot_cmp_antisym m f d ∙ ap (λ g. in_group g d) (map.get-entries m f)
      ∙ sym (any_entry text_total text_anti dot_cmp_total dot_cmp_antisym (map.entries m) (map.entries_sorted m) f d)

  entry_has : (e : List ℕ × Dots) (d : Dot) → set.contains e.1 d ≡ true → has e.0 d e ≡ true
  entry_has e d h = ap (λ r. is_eq r && set.contains e.1 d) (tied_itself text_total e.0) ∙ h

  -- a filter of the trie has a dot
  pub has_dot : (e : List ℕ × Dots) → IsIn (map.entries m) e → HasUnder text_cmp dot_cmp (spread m) e.0
  has_dot e h = under_some text_total text_anti dot_cmp_total dot_cmp_antisym m e.0
      (map.contains_key-keys m e.0 ∙ any_map (eq_by_cmp text_cmp e.0) (λ x. x.0) (map.entries m) ∙ h (λ x. eq_by_cmp text_cmp e.0 x.0) (ap is_eq (tied_itself text_total e.0))) filled

  -- the dots under the filters that are found
  pub found_dots : (found : List (List ℕ × Dots)) (s : Dots) → IsSelected matches (map.entries m) found → ((d : Dot) → set.contains s d ≡ list_any (λ e. set.contains e.1 d) found) → (d : Dot) → (set.contains s d ≡ true) ↔ IsUnder P (spread m) d
  found_dots found s h is d = (
    (λ e. (let one = selected_one matches (λ x. set.contains x.1 d) (map.entries m) found h (sym (is d) ∙ e) in
        (one.0.0, listed one.0.0 d ∙ one.3 (has one.0.0 d) (entry_has one.0 d one.1), one.2))),
    (λ at. is d ∙ selected_any matches (λ x. set.contains x.1 d) (has at.0 d)
        (λ x t. (let both = and_parts (eq_by_cmp text_cmp at.0 x.0) (set.contains x.1 d) t in
        (both.1, subst P (text_anti at.0 x.0 ((Equal-is (text_cmp at.0 x.0)).0 both.0)) at.2)))
        (map.entries m) found h (sym (listed at.0 d) ∙ at.1)),
  )

  -- where no dot is under one that matches, none matches
  pub nothing_found : ¬ ((d : Dot) × IsUnder P (spread m) d) → IsSelected matches (map.entries m) []
  nothing_found none = selected_none matches (map.entries m) (λ e h at. (let dot = has_dot e h in none (dot.0, (e.0, dot.1, at))))

  -- what is found has a dot under it
  pub something_found : (found : List (List ℕ × Dots)) → IsSelected matches (map.entries m) found → (e : List ℕ × Dots) → IsIn found e → (d : Dot) × IsUnder P (spread m) d
  something_found found h e is =
      let one = selected_one matches (λ _. true) (map.entries m) found h (is (λ _. true) refl) in
      let dot = has_dot one.0 one.3 in (dot.0, (one.0.0, dot.1, one.2))

-- ---- lists

-- a list with an element has one
pub some_in : {X : Type 0} (xs : List X) → 0 < length xs → (x : X) × IsIn xs x
some_in [] h = absurd (omega arith)
some_in (x ∷ xs) h = (x, (λ t p. ap (λ b. b || list_any t xs) p))

pub in_map : {X Y : Type 0} (g : X → Y) (xs : List X) (x : X) → IsIn xs x → IsIn (map_list g xs) (g x)
in_map g xs x h t p = any_map t g xs ∙ h (λ y. t (g y)) p

pub any_more : {X : Type 0} (t : X → Bool) (xs : List X) (i : ℕ) (x : X) → x ≡ get_or xs i x → i < length xs → (list_any t (take i xs) || t x) ≡ list_any t (take (i + 1) xs)
any_more t xs i x e lt = ap (λ b. list_any t (take i xs) || b) (sym (or_false (t x)) ∙ ap (λ y. t y || false) e) ∙ sym (any_both t (take i xs) (get_or xs i x ∷ [])) ∙ ap (list_any t) (sym (take_more xs i x lt))

-- an error that says what isn't so isn't there
pub ok_where : {A E P : Type 0} (r : Result A E) → ¬ P → OnErr r P → IsOk r
ok_where (Ok a) not h = refl
ok_where (Err e) not h = absurd (not h)
