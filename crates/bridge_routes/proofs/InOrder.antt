-- What is gathered of a list in order.
use Rattle.std.proofs.Common.{◌≡◌, ℕ, suc, ◌+◌, ◌<◌, ◌≤◌, Bool, true, false, cond, T, List, [], ◌∷◌, ◌++◌, length, take, drop, get_or, map, filter, Some, is_some, not, ◌&&◌, Bor, refl, sym, ap, subst, ◌∙◌, arith}
use Rattle.std.proofs.lemmas.List.{append-nil, take-append-drop, length-drop, get_or-drop, drop_more, drop-drop, drop-map, length-map, get_or-map}
use Rattle.std.specs.List.{take-map}
use Rattle.std.proofs.lemmas.List.Elements.{filter-append}
use Rattle.std.proofs.lemmas.List.Sorted.{ranks_by, sorted_far}
use Rattle.std.proofs.lemmas.Cmp.{tied_itself}
use Rattle.std.specs.List.{AllByRecursion}
use Rattle.std.specs.List.Sorted.{IsSortedBy, IsSortedByKey, IsStableBy, ties}
use Rattle.std.specs.Ordering.{eq_by_cmp, is_eq, is_lt, ordering_reverse}
use Rattle.std.specs.declared.cmp.Ordering.{Ordering}
use Rattle.std.specs.declared.cmp.Ordering.TheVariants.{Less, Equal, Greater}
use Rattle.std.specs.Cmp.{IsTotalOrder, Equal-is}
use Rattle.std.specs.FinMap.{IsAntisymmetric, find}
use Rattle.std.specs.FinMap.Entries.{below_all}
use Rattle.bridge_routes.specs.Tables.{front, referents}
use Rattle.bridge_routes.proofs.Gathering.{some_of, both, gathered, gathered_holds, gathered_rises, gathered_same, holds_all}

is_less : (r s : Ordering) → r ≡ ordering_reverse s → is_lt r ≡ false → is_eq s ≡ false → s ≡ Less
is_less r Less e h n = refl
is_less r Equal e h n = cc
is_less r Greater e h n = let f = ap is_lt e in cc

some_own : {X : Type 0} (xs : List X) → 0 < length xs → some_of xs ≡ Some xs
some_own [] h = absurd (omega arith)
some_own (x ∷ xs) h = refl

either : {A : Type 0} (P : A → Type 0) (b : Bool) (x y : A) → P x → P y → P (cond b x y)
either P true x y p q = p
either P false x y p q = q

module _ {K X : Type 0} {R : K → K → Ordering} (o : IsTotalOrder R) (anti : IsAntisymmetric R) (key : X → K) where
  abbrev of : K → List X → List X
  of k xs = filter (λ x. eq_by_cmp R k (key x)) xs

  abbrev AllOf : K → List X → Type 0
  AllOf k = AllByRecursion (λ x. key x ≡ k)

  abbrev AllAbove : K → List X → Type 0
  AllAbove k = AllByRecursion (λ x. R k (key x) ≡ Less)

  abbrev NoneBelow : K → List X → Type 0
  NoneBelow k = AllByRecursion (λ x. is_lt (R (key x) k) ≡ false)

  abbrev InOrder : List X → Type 0
  InOrder [] = Unit {0}
  InOrder (x ∷ xs) = NoneBelow (key x) xs × InOrder xs

  none_below : (k : K) (d : X) (xs : List X) → ((i : ℕ) → i < length xs → is_lt (R (key (get_or xs i d)) k) ≡ false) → NoneBelow k xs
  none_below k d [] h = tt
  none_below k d (x ∷ xs) h = (h 0 (omega arith), none_below k d xs (λ i p. h (suc i) (omega arith)))

  in_order : (xs : List X) → ((i j : ℕ) (d : X) → i ≤ j → j < length xs → is_lt (R (key (get_or xs j d)) (key (get_or xs i d))) ≡ false) → InOrder xs
  in_order [] h = tt
  in_order (x ∷ xs) h = (none_below (key x) x xs (λ i p. h 0 (suc i) x (omega arith) (omega arith)), in_order xs (λ i j d p q. h (suc i) (suc j) d (omega arith) (omega arith)))

  past : (a b c : K) → R a b ≡ Less → is_lt (R c b) ≡ false → R a c ≡ Less
  past a b c p h = elim (is_eq (R b c)) as (λ t. is_eq (R b c) ≡ t → R a c ≡ Less) [
    | true ↦ λ t. subst (λ x. R a x ≡ Less) (anti b c ((Equal-is (R b c)).0 t)) p
    | false ↦ λ t. o.trans a b c p (is_less (R c b) (R b c) (o.antisymm c b) h t)
  ] refl

  all_past : (a b : K) (xs : List X) → R a b ≡ Less → NoneBelow b xs → AllAbove a xs
  all_past a b [] p h = tt
  all_past a b (x ∷ xs) p h = (past a b (key x) p h.0, all_past a b xs p h.1)

  sorted_drop : (p : ℕ) (xs : List X) → IsSortedByKey key R xs → IsSortedByKey key R (drop p xs)
  sorted_drop p xs up i d z lt =
      let long = length-drop p xs in
      let next : p + i + 1 ≡ p + (i + 1) = omega arith in
      ap (λ y. is_lt (R (key y) (key (get_or (drop p xs) i d)))) (get_or-drop p xs (i + 1) d ∙ ap (λ j. get_or xs j d) (sym next))
      ∙ ap (λ y. is_lt (R (key (get_or xs (p + i + 1) d)) (key y))) (get_or-drop p xs i d) ∙ up (p + i) d (omega arith) (omega arith)

  -- what stands at the front of a key, and after it
  front_of_key : (k : K) (xs : List X) → AllOf k (take (front R key k xs) xs)
  front_of_key k [] = tt
  front_of_key k (x ∷ xs) = elim (eq_by_cmp R k (key x)) as (λ b. eq_by_cmp R k (key x) ≡ b → AllOf k (take (cond b (suc (front R key k xs)) 0) (x ∷ xs))) [
    | true ↦ λ t. (sym (anti k (key x) ((Equal-is (R k (key x))).0 t)), front_of_key k xs)
    | false ↦ λ t. tt
  ] refl

  above_front : (k : K) (xs : List X) → NoneBelow k xs → InOrder xs → AllAbove k (drop (front R key k xs) xs)
  above_front k [] h g = tt
  above_front k (x ∷ xs) h g = elim (eq_by_cmp R k (key x)) as (λ b. eq_by_cmp R k (key x) ≡ b → AllAbove k (drop (cond b (suc (front R key k xs)) 0) (x ∷ xs))) [
    | true ↦ λ t. above_front k xs h.1 g.1
    | false ↦ λ t. let up = is_less (R (key x) k) (R k (key x)) (o.antisymm (key x) k) h.0 t in (up, all_past k (key x) xs up g.0)
  ] refl

  -- filtered by a key that all have, or none
  of_own : (q k : K) (b : Bool) → eq_by_cmp R q k ≡ b → (xs : List X) → AllOf k xs → of q xs ≡ cond b xs []
  of_own q k b t [] h = either (λ ys. [] ≡ ys) b [] [] refl refl
  of_own q k b t (x ∷ xs) h =
      ap (λ c. cond c (x ∷ of q xs) (of q xs)) (ap (eq_by_cmp R q) h.0 ∙ t) ∙ ap (λ ys. cond b (x ∷ ys) ys) (of_own q k b t xs h.1)
      ∙ elim b as (λ c. cond c (x ∷ cond c xs []) (cond c xs []) ≡ cond c (x ∷ xs) []) [ true ↦ refl | false ↦ refl ]

  of_above : (k : K) (xs : List X) → AllAbove k xs → of k xs ≡ []
  of_above k [] h = refl
  of_above k (x ∷ xs) h = ap (λ r. cond (is_eq r) (x ∷ of k xs) (of k xs)) h.0 ∙ of_above k xs h.1

  found_above : (k q : K) (xs : List X) → AllAbove k xs → is_some (some_of (of q xs)) ≡ true → R k q ≡ Less
  found_above k q [] h f = cc
  found_above k q (x ∷ xs) h f = elim (eq_by_cmp R q (key x)) as (λ b. eq_by_cmp R q (key x) ≡ b → is_some (some_of (cond b (x ∷ of q xs) (of q xs))) ≡ true → R k q ≡ Less) [
    | true ↦ λ t _. ap (R k) (anti q (key x) ((Equal-is (R q (key x))).0 t)) ∙ h.0
    | false ↦ λ t g. found_above k q xs h.1 g
  ] refl f

  below_found : {V : Type 0} (k : K) (es : List (K × V)) → ((q : K) → is_some (find R q es) ≡ true → R k q ≡ Less) → T (below_all R k es)
  below_found k [] h = tt
  below_found k (e ∷ es) h = both _ _ (subst (λ r. T (is_lt r)) (sym (h e.0 (ap (λ r. is_some (cond (is_eq r) (Some e.1) (find R e.0 es))) (tied_itself o e.0)))) tt)
      (below_found k es (λ q f. h q (either (λ r. is_some r ≡ true) (eq_by_cmp R q e.0) (Some e.1) (find R q es) refl f)))

  -- the first key with its elements, and what is gathered of the rest
  gathered_first : (k : K) (own rest : List X) → 0 < length own → AllOf k own → AllAbove k rest → gathered o anti key (own ++ rest) ≡ (k, own) ∷ gathered o anti key rest
  gathered_first k own rest some same above =
      let held = gathered_holds o anti key rest in
      let below = below_found k (gathered o anti key rest) (λ q f. found_above k q rest above (sym (ap is_some (held q)) ∙ f)) in
      sym (holds_all o anti key (own ++ rest) ((k, own) ∷ gathered o anti key rest) (both _ _ below (gathered_rises o anti key rest))
      (λ q. elim (eq_by_cmp R q k) as (λ b. eq_by_cmp R q k ≡ b → cond b (Some own) (find R q (gathered o anti key rest)) ≡ some_of (of q (own ++ rest))) [
        | true ↦ λ t. sym (ap some_of (filter-append (λ x. eq_by_cmp R q (key x)) own rest ∙ ap (λ ys. ys ++ of q rest) (of_own q k true t own same)
            ∙ ap (λ ys. own ++ ys) (subst (λ x. of x rest ≡ []) (sym (anti q k ((Equal-is (R q k)).0 t))) (of_above k rest above)) ∙ append-nil own) ∙ some_own own some)
        | false ↦ λ t. held q ∙ ap some_of (sym (filter-append (λ x. eq_by_cmp R q (key x)) own rest ∙ ap (λ ys. ys ++ of q rest) (of_own q k false t own same)))
      ] refl))

  -- of a list in order that has a first key
  gathered_in_order : (k : K) (x : X) (xs : List X) → k ≡ key x → IsSortedByKey key R (x ∷ xs)
      → gathered o anti key (x ∷ xs) ≡ (k, take (front R key k (x ∷ xs)) (x ∷ xs)) ∷ gathered o anti key (drop (front R key k (x ∷ xs)) (x ∷ xs))
  gathered_in_order k x xs e up =
      let ys = x ∷ xs in
      let n = front R key k ys in
      let order = in_order ys (sorted_far (λ a b. is_lt (R (key a) (key b))) (ranks_by o key) ys up) in
      let tied : R k (key x) ≡ Equal = ap (R k) (sym e) ∙ tied_itself o k in
      let some : 0 < length (take n ys) = subst (λ r. 0 < length (take (cond (is_eq r) (suc (front R key k xs)) 0) ys)) (sym tied) (omega arith) in
      let none : NoneBelow k ys = subst (λ a. NoneBelow a ys) (sym e) (ap is_lt (tied_itself o (key x)), order.0) in
      ap (gathered o anti key) (sym (take-append-drop n ys)) ∙ gathered_first k (take n ys) (drop n ys) some (front_of_key k ys) (above_front k ys none order)

  -- the same of what is left of a list of references
  module _ {B : Type 0} (f : B → X) (es : List B) (p : ℕ) (b : B) (k : K) (there : p < length es) (is : b ≡ get_or es p b) (own : k ≡ key (f b)) where
    abbrev left : List X
    left = map f (drop p es)

    step : left ≡ f b ∷ map f (drop (p + 1) es)
    step = ap (map f) (drop_more es p b there ∙ ap (λ y. y ∷ drop (p + 1) es) (sym is))

    pub front_some : 0 < front R key k left
    front_some = subst (λ ys. 0 < front R key k ys) (sym step) (subst (λ r. 0 < cond (is_eq r) (suc (front R key k (map f (drop (p + 1) es)))) 0) (sym (ap (R k) (sym own) ∙ tied_itself o k)) (omega arith))

    pub gathered_at : IsSortedByKey key R (map f es) → gathered o anti key left ≡ (k, map f (take (front R key k left) (drop p es))) ∷ gathered o anti key (map f (drop (p + front R key k left) es))
    gathered_at up =
        let n = front R key k left in
        let order = subst (IsSortedByKey key R) (drop-map f p es ∙ step) (sorted_drop p (map f es) up) in
        let first : List X → Type 0 = λ ys. gathered o anti key ys ≡ (k, take (front R key k ys) ys) ∷ gathered o anti key (drop (front R key k ys) ys) in
        subst first (sym step) (gathered_in_order k (f b) (map f (drop (p + 1) es)) own order)
        ∙ (λ i. (k, take-map f n (drop p es) i) ∷ gathered o anti key ((drop-map f n (drop p es) ∙ ap (map f) (drop-drop n p es)) i))

-- lists of references, sorted stably by the keys of what they point to
module _ {K X : Type 0} {R : K → K → Ordering} (o : IsTotalOrder R) (anti : IsAntisymmetric R) (key : X → K) where
  abbrev less : Bor X → Bor X → Bool
  less a b = is_lt (R (key a.now) (key b.now))

  tied : (q k : K) → (not (is_lt (R q k)) && not (is_lt (R k q))) ≡ eq_by_cmp R q k
  tied q k = elim (R q k) as (λ r. R k q ≡ ordering_reverse r → (not (is_lt r) && not (is_lt (R k q))) ≡ is_eq r) [
    | Less ↦ λ e. refl
    | Equal ↦ λ e. ap (λ r. not (is_lt r)) e
    | Greater ↦ λ e. ap (λ r. not (is_lt r)) e
  ] (o.antisymm k q)

  of_shown : (q : K) (rs : List (Bor X)) → filter (λ x. eq_by_cmp R q (key x)) (referents rs) ≡ referents (filter (λ r. eq_by_cmp R q (key r.now)) rs)
  of_shown q [] = refl
  of_shown q (r ∷ rs) = elim (eq_by_cmp R q (key r.now)) as (λ b. cond b (r.now ∷ filter (λ x. eq_by_cmp R q (key x)) (referents rs)) (filter (λ x. eq_by_cmp R q (key x)) (referents rs)) ≡ referents (cond b (r ∷ filter (λ r. eq_by_cmp R q (key r.now)) rs) (filter (λ r. eq_by_cmp R q (key r.now)) rs))) [
    | true ↦ ap (λ ys. r.now ∷ ys) (of_shown q rs)
    | false ↦ of_shown q rs
  ]

  pub sorted_shown : (rs : List (Bor X)) → IsSortedBy less rs → IsSortedByKey key R (referents rs)
  sorted_shown rs up k d low lt =
      let e : Bor X = record { ref_ptr = (0, 0); now = d } in
      let long = length-map rs (λ r. r.now) in
      ap (λ x. is_lt (R (key x) (key (get_or (referents rs) k d)))) (get_or-map (λ r. r.now) rs (k + 1) e d (omega arith))
      ∙ ap (λ x. is_lt (R (key (get_or rs (k + 1) e).now) (key x))) (get_or-map (λ r. r.now) rs k e d (omega arith)) ∙ up k e low (omega arith)

  pub gathered_stable : ((q : K) → (x : X) × (key x ≡ q)) → (rs ts : List (Bor X)) → IsStableBy less rs ts → gathered o anti key (referents ts) ≡ gathered o anti key (referents rs)
  gathered_stable at rs ts stable = gathered_same o anti key (referents ts) (referents rs) (λ q.
      let kept : (us : List (Bor X)) → filter (ties less (record { ref_ptr = (0, 0); now = (at q).0 })) us ≡ filter (λ r. eq_by_cmp R q (key r.now)) us
      = λ us i. filter (λ r. (tied (key (at q).0) (key r.now) ∙ ap (λ k. eq_by_cmp R k (key r.now)) (at q).1) i) us in
      of_shown q ts ∙ ap referents (sym (kept ts) ∙ stable (record { ref_ptr = (0, 0); now = (at q).0 }) ∙ kept rs) ∙ sym (of_shown q rs))
