-- What is due of a table of seats: each client once, at the number of its seat.
use Rattle.std.proofs.Common.{◌≡◌, ◌≢◌, ◌⊎◌, inl, inr, ℕ, Bool, true, false, T, ◌&&◌, ◌||◌, cond, List, [], ◌∷◌, ◌++◌, map as map_list, Option, Some, None, Less, Equal, Greater, is_some, refl, sym, ap, ◌∙◌, subst}
use Rattle.std.specs.FinMap as map
use Rattle.std.specs.FinMap.Entries.{below_all, find, is_sorted}
use Rattle.std.specs.List.{AllByRecursion, flat_map, list_any}
use Rattle.std.specs.Ordering.{is_eq, is_lt, eq_by_cmp}
use Rattle.std.specs.declared.cmp.Ordering.{Ordering}
use Rattle.std.specs.Cmp.{tied_itself}
use Rattle.law_maps.proofs.Texts.{same_text, itself}
use Rattle.session_table.specs.Dues.{Due, due_cmp, in_order, set_of}
use Rattle.session_table.proofs.Tables.{due_total, due_exact, has_of}
use Rattle.session_table.specs.Listing.{text_cmp}
use Rattle.session_table.specs.Seats.{Seat, Seats, at_number, by_number}
use Rattle.law_runs.specs.StepSending.{IsIn}

-- the client has a seat, with this number
abbrev pub IsSeated : (Seat → Option ℕ) → Seats → Due → Type 0
IsSeated number seats d = (seat : Seat) × (map.get seats d.1 ≡ Some seat) × (number seat ≡ Some d.0)

-- each client stands once
abbrev pub ClientsApart : List Due → Type 0
ClientsApart [] = Unit {0}
ClientsApart (d ∷ ds) = AllByRecursion (λ (x : Due). x.1 ≢ d.1) ds × ClientsApart ds

holds : (b : Bool) → T b → b ≡ true
holds true t = refl
holds false t = absurd t

both : (a b : Bool) → T (a && b) → T a × T b
both true b t = (tt, t)
both false b t = absurd t

no_less : (r : Ordering) → is_eq r ≡ true → is_lt r ≡ true → ⊥
no_less Less e l = absurd (let z : false ≡ true = e in cc)
no_less Equal e l = absurd (let z : false ≡ true = l in cc)
no_less Greater e l = absurd (let z : false ≡ true = e in cc)

is_equal : (r : Ordering) → is_eq r ≡ true → r ≡ Equal
is_equal Less e = absurd (let z : false ≡ true = e in cc)
is_equal Equal e = refl
is_equal Greater e = absurd (let z : false ≡ true = e in cc)

in_both : {A : Type 0} (x : A) (xs ys : List A) → IsIn x (xs ++ ys) → IsIn x xs ⊎ IsIn x ys
in_both x [] ys i = inr i
in_both x (y ∷ xs) ys (inl e) = inl (inl e)
in_both x (y ∷ xs) ys (inr i) = elim (in_both x xs ys i) [ inl a ↦ inl (inr a) | inr b ↦ inr b ]

in_flat : {A B : Type 0} (f : A → List B) (x : B) (xs : List A) → IsIn x (flat_map f xs) → (y : A) × IsIn y xs × IsIn x (f y)
in_flat f x [] i = absurd i
in_flat f x (y ∷ ys) i = elim (in_both x (f y) (flat_map f ys) i) [
  | inl a ↦ (y, inl refl, a)
  | inr b ↦ (let r = in_flat f x ys b in (r.0, inr r.1, r.2))
]

-- ---- entries under keys that rise
module _ {K X : Type 0} (R : K → K → Ordering) (self : (k : K) → eq_by_cmp R k k ≡ true) (exact : (a b : K) → eq_by_cmp R a b ≡ true → a ≡ b) where
  above : (k : K) (v : X) (d : K) (es : List (K × X)) → T (below_all R d es) → IsIn (k, v) es → is_lt (R d k) ≡ true
  above k v d [] t i = absurd i
  above k v d (e ∷ es) t (inl same) = ap (λ (x : K × X). is_lt (R d x.0)) (sym same) ∙ holds (is_lt (R d e.0)) (both (is_lt (R d e.0)) (below_all R d es) t).0
  above k v d (e ∷ es) t (inr i) = above k v d es (both (is_lt (R d e.0)) (below_all R d es) t).1 i

  pub found_here : (k : K) (v : X) (es : List (K × X)) → T (is_sorted R es) → IsIn (k, v) es → find R k es ≡ Some v
  found_here k v [] t i = absurd i
  found_here k v (e ∷ es) t (inl same) =
      ap (λ (x : K × X). cond (eq_by_cmp R k x.0) (Some x.1) (find R k es)) same ∙ ap (λ b. cond b (Some v) (find R k es)) (self k)
  found_here k v (e ∷ es) t (inr i) =
      let rises = both (below_all R e.0 es) (is_sorted R es) t in
      by (eq_by_cmp R k e.0) refl (above k v e.0 es rises.0 i) (found_here k v es rises.1 i)
    where
      by : (b : Bool) → eq_by_cmp R k e.0 ≡ b → is_lt (R e.0 k) ≡ true → find R k es ≡ Some v → cond b (Some e.1) (find R k es) ≡ Some v
      by true same less rest = absurd (no_less (R e.0 k) (subst (λ q. eq_by_cmp R e.0 q ≡ true) (sym (exact k e.0 same)) (self e.0)) less)
      by false same less rest = rest

-- ---- seats
seat_here : (seats : Seats) (e : List ℕ × Seat) → IsIn e (map.entries seats) → map.get seats e.0 ≡ Some e.1
seat_here seats e i = map.get-entries seats e.0 ∙ found_here text_cmp itself same_text e.0 e.1 (map.entries seats) (map.entries_sorted seats) i

same_due : (a b : Due) → eq_by_cmp due_cmp a b ≡ true → a ≡ b
same_due a b e = due_exact a b (is_equal (due_cmp a b) e)

own_due : (d : Due) → eq_by_cmp due_cmp d d ≡ true
own_due d = ap is_eq (tied_itself due_total d)

any_in : (d : Due) (ds : List Due) → list_any (eq_by_cmp due_cmp d) ds ≡ true → IsIn d ds
any_in d [] e = absurd (let z : false ≡ true = e in cc)
any_in d (x ∷ xs) e = by (eq_by_cmp due_cmp d x) refl e (any_in d xs)
  where
    by : (b : Bool) → eq_by_cmp due_cmp d x ≡ b → (b || list_any (eq_by_cmp due_cmp d) xs) ≡ true → (list_any (eq_by_cmp due_cmp d) xs ≡ true → IsIn d xs) → IsIn d (x ∷ xs)
    by true same h rest = inl (sym (same_due d x same))
    by false same h rest = inr (rest h)

in_keys : (d : Due) (es : List (Due × Unit {0})) → IsIn d (map_list (λ e. e.0) es) → IsIn (d, tt) es
in_keys d [] i = absurd i
in_keys d (e ∷ es) (inl same) = inl (λ j. (same j, tt))
in_keys d (e ∷ es) (inr i) = inr (in_keys d es i)

-- what is among those in order is among them
among_due : (d : Due) (ds : List Due) → IsIn d (in_order ds) → IsIn d ds
among_due d ds i =
    let m = set_of ds in
    any_in d ds (sym (has_of ds d) ∙ ap is_some (map.get-entries m d ∙ found_here due_cmp own_due same_due d tt (map.entries m) (map.entries_sorted m) (in_keys d (map.entries m) i)))

numbered_by : (number : Seat → Option ℕ) (seat : Seat) (client : List ℕ) (d : Due) (o : Option ℕ) → number seat ≡ o → IsIn d (at_number o client) → (client ≡ d.1) × (number seat ≡ Some d.0)
numbered_by number seat client d None is i = absurd i
numbered_by number seat client d (Some n) is (inl e) = (ap (λ (x : Due). x.1) e, is ∙ ap (λ (x : Due). Some x.0) e)
numbered_by number seat client d (Some n) is (inr i) = absurd i

module _ (number : Seat → Option ℕ) (seats : Seats) where
  is_seated : (d : Due) → IsIn d (by_number number seats) → IsSeated number seats d
  is_seated d i =
      let f = in_flat (λ (e : List ℕ × Seat). at_number (number e.1) e.0) d (map.entries seats) (among_due d (flat_map (λ (e : List ℕ × Seat). at_number (number e.1) e.0) (map.entries seats)) i) in
      let n = numbered_by number f.0.1 f.0.0 d (number f.0.1) refl f.2 in
      (f.0.1, subst (λ client. map.get seats client ≡ Some f.0.1) n.0 (seat_here seats f.0 f.1), n.1)

  -- a client at two numbers would have two seats
  one_number : (a b : Due) → IsSeated number seats a → IsSeated number seats b → b.1 ≡ a.1 → a ≡ b
  one_number a b x y same =
      let seat : x.0 ≡ y.0 = (let z : Some x.0 ≡ Some y.0 = sym x.1 ∙ ap (map.get seats) (sym same) ∙ y.1 in cc) in
      let at : a.0 ≡ b.0 = (let z : Some a.0 ≡ Some b.0 = sym x.2 ∙ ap number seat ∙ y.2 in cc) in
      λ i. (at i, sym same i)

  apart_from : (d : Due) (es : List (Due × Unit {0})) → T (below_all due_cmp d es) → IsSeated number seats d → ((x : Due) → IsIn x (map_list (λ e. e.0) es) → IsSeated number seats x)
      → AllByRecursion (λ (x : Due). x.1 ≢ d.1) (map_list (λ e. e.0) es)
  apart_from d [] t s f = tt
  apart_from d (e ∷ es) t s f =
      let less = both (is_lt (due_cmp d e.0)) (below_all due_cmp d es) t in (
        (λ same. no_less (due_cmp d e.0) (subst (λ x. eq_by_cmp due_cmp d x ≡ true) (one_number d e.0 s (f e.0 (inl refl)) same) (own_due d)) (holds (is_lt (due_cmp d e.0)) less.0)),
        apart_from d es less.1 s (λ x i. f x (inr i)),
      )

  all_apart : (es : List (Due × Unit {0})) → T (is_sorted due_cmp es) → ((x : Due) → IsIn x (map_list (λ e. e.0) es) → IsSeated number seats x) → ClientsApart (map_list (λ e. e.0) es)
  all_apart [] t f = tt
  all_apart (e ∷ es) t f =
      let rises = both (below_all due_cmp e.0 es) (is_sorted due_cmp es) t in
      (apart_from e.0 es rises.0 (f e.0 (inl refl)) (λ x i. f x (inr i)), all_apart es rises.1 (λ x i. f x (inr i)))

  all_in : (ds : List Due) → ((x : Due) → IsIn x ds → IsSeated number seats x) → AllByRecursion (IsSeated number seats) ds
  all_in [] f = tt
  all_in (d ∷ ds) f = (f d (inl refl), all_in ds (λ x i. f x (inr i)))

  pub dues_seated : AllByRecursion (IsSeated number seats) (by_number number seats)
  dues_seated = all_in (by_number number seats) is_seated

  pub dues_apart : ClientsApart (by_number number seats)
  dues_apart =
      let m = set_of (flat_map (λ (e : List ℕ × Seat). at_number (number e.1) e.0) (map.entries seats)) in
      all_apart (map.entries m) (map.entries_sorted m) is_seated
