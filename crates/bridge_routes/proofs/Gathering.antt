-- A table of lists under keys, as elements are put into it one after the other.
use Rattle.std.proofs.Common.{◌≡◌, Bool, true, false, cond, ◌||◌, ◌&&◌, T, List, [], ◌∷◌, ◌++◌, map as map_list, filter, Option, Some, None, option_map, refl, sym, ap, subst, ◌∙◌}
use Rattle.std.proofs.lemmas.List.{append-nil}
use Rattle.std.proofs.lemmas.List.Elements.{filter-append}
use Rattle.std.specs.Option.{unwrap_or}
use Rattle.std.specs.List.{list_any, AllByRecursion}
use Rattle.std.specs.List.Sorted.{IsStrictlySortedBy}
use Rattle.std.specs.Map.{lookup, keys_of}
use Rattle.std.specs.Ordering.{eq_by_cmp, is_eq, is_lt}
use Rattle.std.specs.declared.cmp.Ordering.{Ordering}
use Rattle.std.specs.declared.cmp.Ordering.TheVariants.{Less}
use Rattle.std.specs.Cmp.{IsTotalOrder, Equal-is, eq_by_cmp_equiv}
use Rattle.std.specs.FinMap.{IsAntisymmetric, find}
use Rattle.std.specs.FinMap.Entries.{below_all, is_sorted, same_entries}
use Rattle.std.specs.FinMap as map
use Rattle.bridge_routes.specs.Tables.{under, IsPutUnder}

pub both : (a b : Bool) → T a → T b → T (a && b)
both true b p q = q
both false b p q = p

-- a list, if it has an element
abbrev pub some_of : {X : Type 0} → List X → Option (List X)
some_of [] = None
some_of (x ∷ xs) = Some (x ∷ xs)

some_push : {X : Type 0} (xs : List X) (x : X) → Some (xs ++ x ∷ []) ≡ some_of (xs ++ x ∷ [])
some_push [] x = refl
some_push (y ∷ ys) x = refl

under_some : {X : Type 0} (xs : List X) → unwrap_or (some_of xs) [] ≡ xs
under_some [] = refl
under_some (x ∷ xs) = refl

-- under each key the table has the elements of that key
abbrev pub Holds : {K X : Type 0} → (K → K → Ordering) → (X → K) → List X → List (K × List X) → Type 0
Holds {K} R key xs es = (q : K) → find R q es ≡ some_of (filter (λ x. eq_by_cmp R q (key x)) xs)

module _ {K X : Type 0} {R : K → K → Ordering} (o : IsTotalOrder R) (anti : IsAntisymmetric R) (key : X → K) where
  abbrev of : K → List X → List X
  of k xs = filter (λ x. eq_by_cmp R k (key x)) xs

  pub holds_none : (xs : List X) (es : List (K × List X)) → xs ≡ [] → es ≡ [] → Holds R key xs es
  holds_none xs es a b q = ap (find R q) b ∙ ap (λ ys. some_of (of q ys)) (sym a)

  pub holds_more : (xs : List X) (x : X) (es fs : List (K × List X)) → Holds R key xs es → IsPutUnder R (key x) x es fs → Holds R key (xs ++ x ∷ []) fs
  holds_more xs x es fs h put q = put q ∙ elim (eq_by_cmp R q (key x)) as (λ b. eq_by_cmp R q (key x) ≡ b → cond b (Some (under R (key x) es ++ x ∷ [])) (find R q es) ≡ some_of (of q (xs ++ x ∷ []))) [
    | true ↦ λ t.
        let same = anti q (key x) ((Equal-is (R q (key x))).0 t) in
        let own : under R (key x) es ≡ of q xs = ap (λ r. unwrap_or r []) (h (key x)) ∙ under_some (of (key x) xs) ∙ ap (λ k. of k xs) (sym same) in
        ap (λ ys. Some (ys ++ x ∷ [])) own ∙ some_push (of q xs) x ∙ ap some_of (sym (filter-append (λ y. eq_by_cmp R q (key y)) xs (x ∷ []) ∙ ap (λ b. of q xs ++ cond b (x ∷ []) []) t))
    | false ↦ λ t. h q ∙ ap some_of (sym (filter-append (λ y. eq_by_cmp R q (key y)) xs (x ∷ []) ∙ ap (λ b. of q xs ++ cond b (x ∷ []) []) t ∙ append-nil (of q xs)))
  ] refl

  listed : (f : K → List X) (q : K) (xs : List X) → find R q (map_list (λ x. (key x, f (key x))) xs) ≡ cond (list_any (λ x. eq_by_cmp R q (key x)) xs) (Some (f q)) None
  listed f q [] = refl
  listed f q (x ∷ xs) = elim (eq_by_cmp R q (key x)) as (λ b. eq_by_cmp R q (key x) ≡ b → cond b (Some (f (key x))) (find R q (map_list (λ y. (key y, f (key y))) xs)) ≡ cond (b || list_any (λ y. eq_by_cmp R q (key y)) xs) (Some (f q)) None) [
    | true ↦ λ t. ap (λ k. Some (f k)) (sym (anti q (key x) ((Equal-is (R q (key x))).0 t)))
    | false ↦ λ t. listed f q xs
  ] refl

  any_kept : (p : X → Bool) (xs : List X) → cond (list_any p xs) (Some (filter p xs)) None ≡ some_of (filter p xs)
  any_kept p [] = refl
  any_kept p (x ∷ xs) = elim (p x) as (λ b. cond (b || list_any p xs) (Some (cond b (x ∷ filter p xs) (filter p xs))) None ≡ some_of (cond b (x ∷ filter p xs) (filter p xs))) [
    | true ↦ refl
    | false ↦ any_kept p xs
  ]

  -- the keys in order, each with its elements
  abbrev pub gathered : List X → List (K × List X)
  gathered xs = map.entries (map.from_entries {R = R} (map_list (λ x. (key x, of (key x) xs)) xs))

  pub gathered_rises : (xs : List X) → T (is_sorted R (gathered xs))
  gathered_rises xs = map.entries_sorted (map.from_entries {R = R} (map_list (λ x. (key x, of (key x) xs)) xs))

  pub gathered_holds : (xs : List X) → Holds R key xs (gathered xs)
  gathered_holds xs q =
      let fs = map_list (λ x. (key x, of (key x) xs)) xs in
      sym (map.get-entries (map.from_entries {R = R} fs) q) ∙ map.get-from_entries o fs q ∙ listed (λ k. of k xs) q xs ∙ any_kept (λ x. eq_by_cmp R q (key x)) xs

  -- then it has just these keys, in order
  pub holds_all : (xs : List X) (es : List (K × List X)) → T (is_sorted R es) → Holds R key xs es → es ≡ gathered xs
  holds_all xs es rises h = same_entries R o anti es (gathered xs) rises (gathered_rises xs) (λ q. h q ∙ sym (gathered_holds xs q))

  -- lists that have the same of each key
  pub gathered_same : (xs ys : List X) → ((q : K) → of q xs ≡ of q ys) → gathered xs ≡ gathered ys
  gathered_same xs ys h = holds_all ys (gathered xs) (gathered_rises xs) (λ q. gathered_holds xs q ∙ ap some_of (h q))

  pub holds_nothing : (xs : List X) → xs ≡ [] → [] ≡ gathered xs
  holds_nothing xs e = holds_all xs [] tt (holds_none xs [] e refl)

module _ {K V X : Type 0} (R : K → K → Ordering) (f : V → List X) where
  find_shown : (q : K) (es : List (K × V)) → find R q (map_list (λ e. (e.0, f e.1)) es) ≡ option_map f (lookup (λ k. is_eq (R q k)) es)
  find_shown q [] = refl
  find_shown q (e ∷ es) = elim (is_eq (R q e.0)) as (λ b. cond b (Some (f e.1)) (find R q (map_list (λ e. (e.0, f e.1)) es)) ≡ option_map f (cond b (Some e.1) (lookup (λ k. is_eq (R q k)) es))) [
    | true ↦ refl
    | false ↦ find_shown q es
  ]

  below_shown : (d : K) (es : List (K × V)) → AllByRecursion (λ y. R d y ≡ Less) (keys_of es) → T (below_all R d (map_list (λ e. (e.0, f e.1)) es))
  below_shown d [] h = tt
  below_shown d (e ∷ es) h = both _ _ (subst (λ r. T (is_lt r)) (sym h.0) tt) (below_shown d es h.1)

  pub rises_shown : (es : List (K × V)) → IsStrictlySortedBy R (keys_of es) → T (is_sorted R (map_list (λ e. (e.0, f e.1)) es))
  unfolding IsStrictlySortedBy
  rises_shown [] h = tt
  rises_shown (e ∷ es) h = both _ _ (below_shown e.0 es h.0) (rises_shown es h.1)

  own_shown : (own : Option V) (none v : V) (x : X) → f none ≡ [] → f v ≡ f (unwrap_or own none) ++ x ∷ [] → f v ≡ unwrap_or (option_map f own) [] ++ x ∷ []
  own_shown None none v x e is = is ∙ ap (λ ys. ys ++ x ∷ []) e
  own_shown (Some w) none v x e is = is

  -- what is taken out under a key, with one more element, and put in again
  pub put_again : IsTotalOrder R → (es ms fs : List (K × V)) (k : K) (own : Option V) (none v : V) (x : X)
      → own ≡ lookup (λ y. is_eq (R k y)) es
      → ((q : K) → lookup (λ y. is_eq (R q y)) ms ≡ cond (is_eq (R k q)) None (lookup (λ y. is_eq (R q y)) es))
      → f none ≡ [] → f v ≡ f (unwrap_or own none) ++ x ∷ []
      → ((q : K) → lookup (λ y. is_eq (R q y)) fs ≡ cond (is_eq (R k q)) (Some v) (lookup (λ y. is_eq (R q y)) ms))
      → IsPutUnder R k x (map_list (λ e. (e.0, f e.1)) es) (map_list (λ e. (e.0, f e.1)) fs)
  put_again o es ms fs k own none v x was took e is put q =
      find_shown q fs ∙ ap (option_map f) (put q ∙ ap (cond (is_eq (R k q)) (Some v)) (took q))
      ∙ elim (is_eq (R k q)) as (λ b. is_eq (R k q) ≡ b → option_map f (cond b (Some v) (cond b None (lookup (λ y. is_eq (R q y)) es))) ≡ cond (is_eq (R q k)) (Some (under R k (map_list (λ e. (e.0, f e.1)) es) ++ x ∷ [])) (find R q (map_list (λ e. (e.0, f e.1)) es))) [
        | true ↦ λ t. ap Some (own_shown own none v x e is ∙ ap (λ r. unwrap_or r [] ++ x ∷ []) (ap (option_map f) was ∙ sym (find_shown k es)))
            ∙ ap (λ b. cond b (Some (under R k (map_list (λ e. (e.0, f e.1)) es) ++ x ∷ [])) (find R q (map_list (λ e. (e.0, f e.1)) es))) (sym ((eq_by_cmp_equiv o).symm q k ∙ t))
        | false ↦ λ t. sym (find_shown q es)
            ∙ ap (λ b. cond b (Some (under R k (map_list (λ e. (e.0, f e.1)) es) ++ x ∷ [])) (find R q (map_list (λ e. (e.0, f e.1)) es))) (sym ((eq_by_cmp_equiv o).symm q k ∙ t))
      ] refl
