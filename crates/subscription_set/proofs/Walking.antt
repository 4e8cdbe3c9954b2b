-- A walk over the dots whose entries match a name.
use Rattle.std.proofs.Common.{◌≡◌, ℕ, Bool, true, false, cond, ◌||◌, ◌&&◌, T, List, [], ◌∷◌, ◌++◌, map as map_list, filter, Option, Some, None, inl, inr, ◌↔◌, refl, sym, ap, subst, ◌∙◌}
use Rattle.std.specs.List.{list_any, list_all, AllByRecursion}
use Rattle.std.specs.List.Sorted.{IsStrictlySortedBy}
use Rattle.std.specs.Cmp.{Equal-is}
use Rattle.std.specs.Cmp.Lexicographic.{bytes_decides}
use Rattle.std.specs.Ordering.{eq_by_cmp, is_eq, is_lt}
use Rattle.std.specs.declared.cmp.Ordering.TheVariants.{Less}
use Rattle.std.specs.FinMap as map
use Rattle.std.specs.FinMap.Entries.{below_all, is_sorted, where_key, same_entries, find-where_key, is_sorted-where_key}
use Rattle.std.specs.FinSet as set
use Rattle.std.proofs.lemmas.Cmp.{tied_itself}
use Rattle.causal_context.specs.Dots.{Dot, Dots, dot_cmp, dot_cmp_total, dot_cmp_antisym}
use Rattle.filter_trie.specs.Selected.{IsSelected}
use Rattle.subscription_set.specs.Entries.{Entry, entry_eq, entry_eq-decides}
use Rattle.subscription_set.specs.Standing.{Entries, find_entry, is_latest, latest, present}
use Rattle.subscription_set.proofs.Present.{rises-present}
use Rattle.subscription_set.specs.Indexing.{ByDot, IsFilterAt}
use Rattle.subscription_set.specs.Members.{latest_entries, latest_of_dots}
use Rattle.subscription_set.proofs.Lists.{filter-filter}
use Rattle.std.proofs.lemmas.List.Elements.{filter_agree}
use Rattle.subscription_set.proofs.Indexing.{found_any, in_found}
use Rattle.subscription_set.proofs.Latest.{IsIn, all_at, any_filter, one_is_latest}

tied : (d x : Dot) → eq_by_cmp dot_cmp d x ≡ true → d ≡ x
tied d x t = dot_cmp_antisym d x ((Equal-is (dot_cmp d x)).0 t)

both : (a b : Bool) → T a → T b → T (a && b)
both true b p q = q
both false b p q = p

first_true : (a b : Bool) → (a && b) ≡ true → a ≡ true
first_true true b e = refl
first_true false b e = cc

second_true : (a b : Bool) → (a && b) ≡ true → b ≡ true
second_true true b e = e
second_true false b e = cc

none_cond : {X : Type 0} (b : Bool) → cond {A = Option X} b None None ≡ None
none_cond true = refl
none_cond false = refl

pub no_more : {X : Type 0} (xs ys : List X) (y : X) → xs ++ y ∷ ys ≡ [] → ⊥
no_more [] ys y e = cc
no_more (x ∷ xs) ys y e = cc

-- where none passes, none that passes is next
pub none_next : {X : Type 0} (p : X → Bool) (x : X) (out left rest all : List X) → left ≡ x ∷ rest → p x ≡ true → out ++ filter p left ≡ filter p all → filter p all ≡ [] → ⊥
none_next p x out left rest all one passes so none =
    no_more out (filter p rest) x (ap (λ xs. out ++ xs) (sym (ap (filter p) one ∙ ap (λ b. cond b (x ∷ filter p rest) (filter p rest)) passes)) ∙ so ∙ none)

either : (b : Bool) → (b || true) ≡ true
either true = refl
either false = refl

-- ---- tests of a list

swapped : {X : Type 0} (p q : X → Bool) (xs : List X) → filter p (filter q xs) ≡ filter q (filter p xs)
swapped p q xs = filter-filter p q xs ∙ filter_agree (λ x. p x && q x) (λ x. q x && p x) (λ x. turned (p x) (q x)) xs ∙ sym (filter-filter q p xs)
  where
    turned : (a b : Bool) → (a && b) ≡ (b && a)
    turned true true = refl
    turned true false = refl
    turned false true = refl
    turned false false = refl

any_left : {X : Type 0} (t p : X → Bool) (xs : List X) → list_any (λ x. t x && p x) xs ≡ true → list_any t xs ≡ true
any_left t p [] e = cc
any_left t p (x ∷ xs) e = elim (t x) as (λ b. ((b && p x) || list_any (λ y. t y && p y) xs) ≡ true → (b || list_any t xs) ≡ true) [ true ↦ λ _. refl | false ↦ λ f. any_left t p xs f ] e

-- what passes a test is among all
pub in_filtered : {X : Type 0} (p : X → Bool) (xs : List X) (x : X) → IsIn (filter p xs) x → IsIn xs x
in_filtered p xs x h t e = any_left t p xs (sym (any_filter t p xs) ∙ h t e)

-- ---- what is selected

module _ {A : Type 0} (P : A → Type 0) where
  selected_same : (xs out other : List A) → IsSelected P xs out → IsSelected P xs other → out ≡ other
  selected_same [] out other a b = a ∙ sym b
  selected_same (x ∷ xs) out other (inl a) (inl b) = a.1.1 ∙ ap (λ r. x ∷ r) (selected_same xs a.1.0 b.1.0 a.1.2 b.1.2) ∙ sym b.1.1
  selected_same (x ∷ xs) out other (inl a) (inr b) = absurd (b.0 a.0)
  selected_same (x ∷ xs) out other (inr a) (inl b) = absurd (a.0 b.0)
  selected_same (x ∷ xs) out other (inr a) (inr b) = selected_same xs out other a.1 b.1

  pub nothing_in : (u : A → Bool) → ((x : A) → u x ≡ true → P x) → (xs : List A) → IsSelected P xs [] → list_any u xs ≡ true → ⊥
  nothing_in u f [] h e = cc
  nothing_in u f (x ∷ xs) (inl h) e = absurd (let no = h.1.1 in cc)
  nothing_in u f (x ∷ xs) (inr h) e = elim (u x) as (λ b. u x ≡ b → (b || list_any u xs) ≡ true → ⊥) [
    | true ↦ λ is _. h.0 (f x is)
    | false ↦ λ is g. nothing_in u f xs h.1 g
  ] refl e

  -- what passes a test that decides the property
  pub selected_filter : (p : A → Bool) (xs : List A) → ((x : A) → IsIn xs x → (p x ≡ true) ↔ P x) → IsSelected P xs (filter p xs)
  selected_filter p [] f = refl
  selected_filter p (x ∷ xs) f =
      let rest = selected_filter p xs (λ y h. f y (λ t e. ap (λ b. t x || b) (h t e) ∙ either (t x))) in
      let own = f x (λ t e. ap (λ b. b || list_any t xs) e) in
      elim (p x) as (λ b. p x ≡ b → IsSelected P (x ∷ xs) (cond b (x ∷ filter p xs) (filter p xs))) [
        | true ↦ λ is. inl (own.0 is, (filter p xs, refl, rest))
        | false ↦ λ is. inr ((λ h. absurd (let no = sym is ∙ own.1 h in cc)), rest)
      ] refl

selected_map : {A B : Type 0} (P : B → Type 0) (f : A → B) (xs out : List A) → IsSelected (λ x. P (f x)) xs out → IsSelected P (map_list f xs) (map_list f out)
selected_map P f [] out h = ap (map_list f) h
selected_map P f (x ∷ xs) out (inl h) = inl (h.0, (map_list f h.1.0, ap (map_list f) h.1.1, selected_map P f xs h.1.0 h.1.2))
selected_map P f (x ∷ xs) out (inr h) = inr (h.0, selected_map P f xs out h.1)

none_mapped : {A B : Type 0} (P : B → Type 0) (f : A → B) (xs : List A) → IsSelected P (map_list f xs) [] → IsSelected (λ x. P (f x)) xs []
none_mapped P f [] h = refl
none_mapped P f (x ∷ xs) (inl h) = absurd (let no = h.1.1 in cc)
none_mapped P f (x ∷ xs) (inr h) = inr (h.0, none_mapped P f xs h.1)

-- ---- entries at dots

module _ (m : ByDot) where
  -- the entries that there are at the dots
  abbrev pub at_dots : List Dot → Entries
  at_dots ds = present (map_list (λ d. (d, map.get m d)) ds)

  -- those of them that are the latest of their client and filter
  abbrev pub latest_at : List Dot → Entries
  latest_at ds = filter (is_latest (map.entries m)) (at_dots ds)

  pub walk_none : (s t : List Dot) (d : Dot) → s ≡ d ∷ t → map.get m d ≡ None → latest_at s ≡ latest_at t
  walk_none s t d step is = ap latest_at step ∙ ap (λ o. filter (is_latest (map.entries m)) (present ((d, o) ∷ map_list (λ q. (q, map.get m q)) t))) is

  walk_some : (s t : List Dot) (d : Dot) (e : Entry) → s ≡ d ∷ t → map.get m d ≡ Some e → latest_at s ≡ filter (is_latest (map.entries m)) ((d, e) ∷ at_dots t)
  walk_some s t d e step is = ap latest_at step ∙ ap (λ o. filter (is_latest (map.entries m)) (present ((d, o) ∷ map_list (λ q. (q, map.get m q)) t))) is

  pub walk_take : (s t : List Dot) (d : Dot) (e : Entry) → s ≡ d ∷ t → map.get m d ≡ Some e → is_latest (map.entries m) (d, e) ≡ true → latest_at s ≡ (d, e) ∷ latest_at t
  walk_take s t d e step is l = walk_some s t d e step is ∙ ap (λ b. cond b ((d, e) ∷ latest_at t) (latest_at t)) l

  pub walk_pass : (s t : List Dot) (d : Dot) (e : Entry) → s ≡ d ∷ t → map.get m d ≡ Some e → is_latest (map.entries m) (d, e) ≡ false → latest_at s ≡ latest_at t
  walk_pass s t d e step is l = walk_some s t d e step is ∙ ap (λ b. cond b ((d, e) ∷ latest_at t) (latest_at t)) l

  -- where all are the latest, so is the one at a dot
  pub latest_of_all : list_all (is_latest (map.entries m)) (map.entries m) ≡ true → (d : Dot) (e : Entry) → map.get m d ≡ Some e → is_latest (map.entries m) (d, e) ≡ true
  latest_of_all all d e is = all_at (is_latest (map.entries m)) (map.entries m) (d, e) all (in_found (map.entries m) d e (sym (map.get-entries m d) ∙ is))

  below_at : (d : Dot) (ds : List Dot) → AllByRecursion (λ y. dot_cmp d y ≡ Less) ds → T (below_all dot_cmp d (map_list (λ q. (q, map.get m q)) ds))
  below_at d [] h = tt
  below_at d (q ∷ ds) h = both _ _ (subst (λ r. T (is_lt r)) (sym h.0) tt) (below_at d ds h.1)

  rises_at : (ds : List Dot) → IsStrictlySortedBy dot_cmp ds → T (is_sorted dot_cmp (map_list (λ q. (q, map.get m q)) ds))
  unfolding IsStrictlySortedBy
  rises_at [] h = tt
  rises_at (d ∷ ds) h = both _ _ (below_at d ds h.0) (rises_at ds h.1)

  find_at : (q : Dot) (ds : List Dot) → find_entry q (at_dots ds) ≡ cond (list_any (eq_by_cmp dot_cmp q) ds) (map.get m q) None
  find_at q [] = refl
  find_at q (d ∷ ds) =
      let rest = find_at q ds in
      elim (eq_by_cmp dot_cmp q d) as (λ b. eq_by_cmp dot_cmp q d ≡ b → find_entry q (at_dots (d ∷ ds)) ≡ cond (b || list_any (eq_by_cmp dot_cmp q) ds) (map.get m q) None) [
        | true ↦ λ t. elim (map.get m d) as (λ o. map.get m d ≡ o → find_entry q (present ((d, o) ∷ map_list (λ x. (x, map.get m x)) ds)) ≡ map.get m q) [
          | None ↦ λ o. let none = ap (map.get m) (tied q d t) ∙ o in rest ∙ ap (λ y. cond (list_any (eq_by_cmp dot_cmp q) ds) y None) none ∙ none_cond (list_any (eq_by_cmp dot_cmp q) ds) ∙ sym none
          | Some e ↦ λ o. ap (λ b. cond b (Some e) (find_entry q (at_dots ds))) t ∙ sym (ap (map.get m) (tied q d t) ∙ o)
        ] refl
        | false ↦ λ t. elim (map.get m d) as (λ o. find_entry q (present ((d, o) ∷ map_list (λ x. (x, map.get m x)) ds)) ≡ cond (list_any (eq_by_cmp dot_cmp q) ds) (map.get m q) None) [
          | None ↦ rest
          | Some e ↦ ap (λ b. cond b (Some e) (find_entry q (at_dots ds))) t ∙ rest
        ]
      ] refl

  -- the entries of rising dots are those whose dot is one of them
  at_rising : (ds : List Dot) → IsStrictlySortedBy dot_cmp ds → at_dots ds ≡ where_key dot_cmp (λ d. list_any (eq_by_cmp dot_cmp d) ds) (map.entries m)
  at_rising ds h =
      let p : Dot → Bool = λ d. list_any (eq_by_cmp dot_cmp d) ds in
      same_entries dot_cmp dot_cmp_total dot_cmp_antisym (at_dots ds) (where_key dot_cmp p (map.entries m)) (rises-present (map_list (λ q. (q, map.get m q)) ds) (rises_at ds h)) (is_sorted-where_key dot_cmp p (map.entries m) (map.entries_sorted m))
      (λ q. find_at q ds ∙ ap (λ y. cond (p q) y None) (map.get-entries m q) ∙ sym (find-where_key dot_cmp p q (λ x t. ap p (sym (dot_cmp_antisym q x t))) (map.entries m)))

  -- what is in the map is found at its dot
  pub found_in : (x : Dot × Entry) → IsIn (map.entries m) x → map.get m x.0 ≡ Some x.1
  found_in x h =
      let f = found_any (λ y. eq_by_cmp dot_cmp x.0 y.0 && entry_eq x.1 y.1) (map.entries m) (map.entries_sorted m)
      (h (λ y. eq_by_cmp dot_cmp x.0 y.0 && entry_eq x.1 y.1) (λ i. is_eq (tied_itself dot_cmp_total x.0 i) && (entry_eq-decides x.1 x.1).1 refl i)) in
      ap (map.get m) (tied x.0 f.0 (first_true _ _ f.2.1)) ∙ map.get-entries m f.0 ∙ f.2.0 ∙ ap Some (sym ((entry_eq-decides x.1 f.1).0 (second_true _ _ f.2.1)))

  -- the walk finds what is live at the dots
  pub walk_is : (ds : List Dot) (s : Dots) → IsStrictlySortedBy dot_cmp ds → set.from_list {R = dot_cmp} ds ≡ s → map_list (λ x. x.1) (latest_at ds) ≡ latest_of_dots m s
  walk_is ds s h same =
      let among : Dot × Entry → Bool = λ x. list_any (eq_by_cmp dot_cmp x.0) ds in
      let inside : Dot × Entry → Bool = λ x. set.contains s x.0 in
      ap (map_list (λ x. x.1))
      (ap (filter (is_latest (map.entries m))) (at_rising ds h) ∙ swapped (is_latest (map.entries m)) among (map.entries m)
      ∙ filter_agree among inside (λ x. sym (set.contains-from_list dot_cmp_total ds x.0) ∙ ap (λ y. set.contains y x.0) same) (latest (map.entries m)))

  module _ (P : List ℕ → Type 0) where
    abbrev fits : Dot × Entry → Type 0
    fits x = P x.1.filter

    selected_dots : (s : Dots) → ((d : Dot) → (set.contains s d ≡ true) ↔ IsFilterAt P (map.get m d)) → IsSelected fits (latest (map.entries m)) (filter (λ x. set.contains s x.0) (latest (map.entries m)))
    selected_dots s is =
        selected_filter fits (λ x. set.contains s x.0) (latest (map.entries m)) (λ x in_latest.
        let found = found_in x (in_filtered (is_latest (map.entries m)) (map.entries m) x in_latest) in
        ((λ e. subst (IsFilterAt P) found ((is x.0).0 e)), (λ h. (is x.0).1 (subst (IsFilterAt P) (sym found) h))))

    -- where nothing live has the property, nothing that stands has
    none_stands : IsSelected fits (latest (map.entries m)) [] → (d : Dot) → IsFilterAt P (map.get m d) → ⊥
    none_stands none d h = elim (map.get m d) as (λ o. map.get m d ≡ o → IsFilterAt P o → ⊥) [
      | None ↦ λ _ no. no
      | Some e ↦ λ is h.
          let l = one_is_latest (map.entries m) (d, e) (in_found (map.entries m) d e (sym (map.get-entries m d) ∙ is)) in
          let y = l.0 in
          let same : y.1.filter ≡ e.filter = (bytes_decides y.1.filter e.filter).0 (second_true _ _ l.1.1.0) in
          let u : Dot × Entry → Bool = λ x. eq_by_cmp dot_cmp y.0 x.0 && entry_eq y.1 x.1 in
          nothing_in fits u (λ x t. subst P (sym same ∙ ap (λ z. z.filter) ((entry_eq-decides y.1 x.1).0 (second_true _ _ t))) h) (latest (map.entries m)) none
          (any_filter u (is_latest (map.entries m)) (map.entries m) ∙ l.1.0 (λ x. u x && is_latest (map.entries m) x) (λ i. (is_eq (tied_itself dot_cmp_total y.0 i) && (entry_eq-decides y.1 y.1).1 refl i) && l.1.1.1 i))
    ] refl h

    -- the dots of what has the property have just what is live and has it
    pub selected_entries : (s : Dots) → ((d : Dot) → (set.contains s d ≡ true) ↔ IsFilterAt P (map.get m d)) → IsSelected (λ (e : Entry). P e.filter) (latest_entries m) (latest_of_dots m s)
    selected_entries s is = selected_map (λ (e : Entry). P e.filter) (λ x. x.1) (latest (map.entries m)) (filter (λ x. set.contains s x.0) (latest (map.entries m))) (selected_dots s is)

    pub none_there : IsSelected (λ (e : Entry). P e.filter) (latest_entries m) [] → (d : Dot) → IsFilterAt P (map.get m d) → ⊥
    none_there none = none_stands (none_mapped (λ (e : Entry). P e.filter) (λ x. x.1) (latest (map.entries m)) none)

    -- where nothing live has it, nothing is at the dots
    pub nothing_at : (s : Dots) → ((d : Dot) → (set.contains s d ≡ true) ↔ IsFilterAt P (map.get m d)) → IsSelected (λ (e : Entry). P e.filter) (latest_entries m) [] → latest_of_dots m s ≡ []
    nothing_at s is none = selected_same (λ (e : Entry). P e.filter) (latest_entries m) (latest_of_dots m s) [] (selected_entries s is) none
