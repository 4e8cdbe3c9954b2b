-- Clients in the order of their bytes: one put in its place, one taken out, and the one that stands in a place.
use Rattle.std.proofs.Common.{◌≡◌, ℕ, zero, suc, ◌+◌, ◌<◌, ◌≤◌, Bool, true, false, cond, ◌||◌, ◌&&◌, not, T, List, [], ◌∷◌, ◌++◌, map as map_list, length, get_or, take, drop, Some, None, ⊎_elim, refl, sym, ap, subst, ◌∙◌, arith}
use Rattle.std.proofs.lemmas.Bool.{cases_lt, ne_eqb}
use Rattle.std.proofs.lemmas.List.Sorted.{searchable_from_sorted}
use Rattle.std.proofs.lemmas.Map.Keys.{Less-from_sorted}
use Rattle.std.specs.List.{AllByRecursion, HoldsAt, list_any, insert, remove}
use Rattle.std.specs.List.Sorted.{IsNonDecreasingBy, IsPartitionPoint, IsSortedBy, IsStrictlySortedBy}
use Rattle.std.specs.Cmp.{IsTotalOrder, Equal-is, eq_by_cmp_equiv}
use Rattle.std.specs.Ordering.{eq_by_cmp, is_eq, is_lt, ordering_index, ordering_reverse}
use Rattle.std.specs.declared.cmp.Ordering.{Ordering}
use Rattle.std.specs.declared.cmp.Ordering.TheVariants.{Less, Equal, Greater}
use Rattle.std.specs.FinMap.{IsAntisymmetric, find}
use Rattle.std.specs.FinMap.Entries.{below_all, is_sorted, same_entries}
use Rattle.std.specs.FinSet as set
use Rattle.std.specs.Prelude.{◌==◌}
use Rattle.std.proofs.lemmas.Cmp.{tied_itself}
use Rattle.subscription_set.specs.Filing.{IsEmptiness}
use Rattle.law_maps.proofs.Tables as tables
use Rattle.subscription_set.proofs.Places.{first_part, second_part}

both : (a b : Bool) → T a → T b → T (a && b)
both true b p q = q
both false b p q = p

either : (b : Bool) → (b || true) ≡ true
either true = refl
either false = refl

swap : (a b c : Bool) → (a || (b || c)) ≡ (b || (a || c))
swap true true c = refl
swap true false c = refl
swap false b c = refl

-- ---- parts of a list

all_put : {K : Type 0} (P : K → Type 0) (ys : List K) (i : ℕ) (x : K) → AllByRecursion P ys → P x → AllByRecursion P (take i ys ++ x ∷ drop i ys)
all_put P ys zero x h p = (p, h)
all_put P [] (suc i) x h p = (p, h)
all_put P (y ∷ ys) (suc i) x h p = (h.0, all_put P ys i x h.1 p)

all_taken : {K : Type 0} (P : K → Type 0) (ys : List K) (i : ℕ) → AllByRecursion P ys → AllByRecursion P (take i ys ++ drop (suc i) ys)
all_taken P [] zero h = h
all_taken P [] (suc i) h = h
all_taken P (y ∷ ys) zero h = h.1
all_taken P (y ∷ ys) (suc i) h = (h.0, all_taken P ys i h.1)

low_part : {K : Type 0} (P : K → Type 0) (xs : List K) (i : ℕ) → ((k : ℕ) (d : K) → k < i → P (get_or xs k d)) → AllByRecursion P (take i xs)
low_part P xs zero h = tt
low_part P [] (suc i) h = tt
low_part P (x ∷ xs) (suc i) h = (h 0 x (omega arith), low_part P xs i (λ k d lt. h (suc k) d (omega arith)))

high_part : {K : Type 0} (P : K → Type 0) (xs : List K) (i : ℕ) → ((k : ℕ) (d : K) → i ≤ k → k < length xs → P (get_or xs k d)) → AllByRecursion P (drop i xs)
high_part P [] zero h = tt
high_part P [] (suc i) h = tt
high_part P (x ∷ xs) zero h = (h 0 x (omega arith) (omega arith), high_part P xs zero (λ k d le lt. h (suc k) d (omega arith) (omega arith)))
high_part P (x ∷ xs) (suc i) h = high_part P xs i (λ k d le lt. h (suc k) d (omega arith) (omega arith))

pub all_there : {K : Type 0} (P : K → Type 0) (ys : List K) (i : ℕ) → i < length ys → AllByRecursion P ys → (d : K) → P (get_or ys i d)
all_there P [] i lt h d = absurd (omega arith)
all_there P (y ∷ ys) zero lt h d = h.0
all_there P (y ∷ ys) (suc i) lt h d = all_there P ys i (omega arith) h.1 d

any_put : {K : Type 0} (t : K → Bool) (xs : List K) (i : ℕ) (x : K) → list_any t (take i xs ++ x ∷ drop i xs) ≡ (t x || list_any t xs)
any_put t xs zero x = refl
any_put t [] (suc i) x = refl
any_put t (y ∷ ys) (suc i) x = ap (λ b. t y || b) (any_put t ys i x) ∙ swap (t y) (t x) (list_any t ys)

any_at : {K : Type 0} (t : K → Bool) (xs : List K) (i : ℕ) → i < length xs → ((d : K) → t (get_or xs i d) ≡ true) → list_any t xs ≡ true
any_at t [] i lt h = absurd (omega arith)
any_at t (x ∷ xs) zero lt h = ap (λ b. b || list_any t xs) (h x)
any_at t (x ∷ xs) (suc i) lt h = ap (λ b. t x || b) (any_at t xs i (omega arith) h) ∙ either (t x)

module _ {K : Type 0} {R : K → K → Ordering} (o : IsTotalOrder R) (anti : IsAntisymmetric R) where
  -- ---- one that is put in

  sorted_put : (xs : List K) (i : ℕ) (x : K) → IsStrictlySortedBy R xs → AllByRecursion (λ y. R y x ≡ Less) (take i xs) → AllByRecursion (λ y. R x y ≡ Less) (drop i xs) → IsStrictlySortedBy R (take i xs ++ x ∷ drop i xs)
  unfolding IsStrictlySortedBy
  sorted_put xs zero x h low high = (high, h)
  sorted_put [] (suc i) x h low high = (tt, tt)
  sorted_put (y ∷ ys) (suc i) x h low high = (all_put (λ z. R y z ≡ Less) ys i x h.0 low.0, sorted_put ys i x h.1 low.1 high)

  weakly : (xs : List K) → IsStrictlySortedBy R xs → IsSortedBy (λ a b. is_lt (R a b)) xs
  weakly xs h k d from lt = ap is_lt (o.antisymm (get_or xs (k + 1) d) (get_or xs k d) ∙ ap ordering_reverse (Less-from_sorted R xs k (k + 1) d h (omega arith) lt))

  greater_is : (x y : K) → R y x ≡ Greater → R x y ≡ Less
  greater_is x y h = o.antisymm x y ∙ ap ordering_reverse h

  -- what a binary search says where it finds none
  abbrev pub IsPlaceFor : List K → K → ℕ → Type 0
  IsPlaceFor xs x i = IsNonDecreasingBy (λ y. ordering_index (R y x)) xs → IsPartitionPoint (λ y. R y x ≡ Less) (λ y. R y x ≡ Greater) xs i

  pub put_sorted : (xs : List K) (i : ℕ) (x : K) → IsStrictlySortedBy R xs → IsPlaceFor xs x i → IsStrictlySortedBy R (insert xs i x)
  put_sorted xs i x h place =
      let parts = place (searchable_from_sorted o (λ y. y) xs x (weakly xs h)) in
      sorted_put xs i x h (low_part (λ y. R y x ≡ Less) xs i (λ k d lt. parts.0 k d (omega arith) lt)) (high_part (λ y. R x y ≡ Less) xs i (λ k d from lt. greater_is x (get_or xs k d) (parts.1 k d from lt)))

  pub put_set : (xs : List K) (i : ℕ) (x : K) → set.from_list {R = R} (insert xs i x) ≡ set.insert (set.from_list xs) x
  put_set xs i x = set.same_set o anti _ _ (λ q.
      set.contains-from_list o (insert xs i x) q ∙ any_put (eq_by_cmp R q) xs i x ∙ ap (λ b. eq_by_cmp R q x || b) (sym (set.contains-from_list o xs q)) ∙ sym (set.contains-insert o (set.from_list xs) x q))

  -- one that is there already
  pub there_set : (xs : List K) (i : ℕ) (x : K) → i < length xs → HoldsAt (λ y. R y x ≡ Equal) xs i → set.from_list {R = R} xs ≡ set.insert (set.from_list xs) x
  there_set xs i x lt at = set.same_set o anti _ _ (λ q. by q (eq_by_cmp R q x) refl ∙ sym (set.contains-insert o (set.from_list xs) x q))
    where
      by : (q : K) (b : Bool) → eq_by_cmp R q x ≡ b → set.contains (set.from_list {R = R} xs) q ≡ (b || set.contains (set.from_list {R = R} xs) q)
      by q true t = set.contains-from_list o xs q ∙ any_at (eq_by_cmp R q) xs i lt (λ d. ap (λ y. eq_by_cmp R q y) (anti (get_or xs i d) x (at d)) ∙ t)
      by q false t = refl

  -- ---- one that is taken out

  pub taken_sorted : (xs : List K) (i : ℕ) → IsStrictlySortedBy R xs → IsStrictlySortedBy R (remove xs i)
  unfolding IsStrictlySortedBy
  taken_sorted [] zero h = h
  taken_sorted [] (suc i) h = h
  taken_sorted (y ∷ ys) zero h = h.1
  taken_sorted (y ∷ ys) (suc i) h = (all_taken (λ z. R y z ≡ Less) ys i h.0, taken_sorted ys i h.1)

  same_as : (q x : K) → eq_by_cmp R q x ≡ true → q ≡ x
  same_as q x t = anti q x ((Equal-is (R q x)).0 t)

  none_above : (x q : K) (ys : List K) → AllByRecursion (λ y. R x y ≡ Less) ys → eq_by_cmp R q x ≡ true → list_any (eq_by_cmp R q) ys ≡ false
  none_above x q [] h t = refl
  none_above x q (y ∷ ys) h t = ap (λ b. b || list_any (eq_by_cmp R q) ys) (ap (λ z. eq_by_cmp R z y) (same_as q x t) ∙ ap is_eq h.0) ∙ none_above x q ys h.1 t

  first_taken : (y q : K) (ys : List K) (b : Bool) → AllByRecursion (λ z. R y z ≡ Less) ys → eq_by_cmp R q y ≡ b → list_any (eq_by_cmp R q) ys ≡ (not b && (b || list_any (eq_by_cmp R q) ys))
  first_taken y q ys true h t = none_above y q ys h t
  first_taken y q ys false h t = refl

  later_taken : (x y q : K) (a b : Bool) → R y x ≡ Less → eq_by_cmp R q y ≡ b → (b || (not (eq_by_cmp R q x) && a)) ≡ (not (eq_by_cmp R q x) && (b || a))
  later_taken x y q a true less t = sym (ap (λ b. not b && true) (ap (λ z. eq_by_cmp R z x) (same_as q y t) ∙ ap is_eq less))
  later_taken x y q a false less t = refl

  any_taken : (xs : List K) (i : ℕ) (x : K) → IsStrictlySortedBy R xs → i < length xs → ((d : K) → get_or xs i d ≡ x) → (q : K)
      → list_any (eq_by_cmp R q) (take i xs ++ drop (suc i) xs) ≡ (not (eq_by_cmp R q x) && list_any (eq_by_cmp R q) xs)
  unfolding IsStrictlySortedBy
  any_taken [] i x h lt at q = absurd (omega arith)
  any_taken (y ∷ ys) zero x h lt at q = first_taken y q ys (eq_by_cmp R q y) h.0 refl ∙ ap (λ z. not (eq_by_cmp R q z) && (eq_by_cmp R q y || list_any (eq_by_cmp R q) ys)) (at y)
  any_taken (y ∷ ys) (suc i) x h lt at q =
      let less : R y x ≡ Less = subst (λ z. R y z ≡ Less) (at y) (all_there (λ z. R y z ≡ Less) ys i (omega arith) h.0 y) in
      ap (λ b. eq_by_cmp R q y || b) (any_taken ys i x h.1 (omega arith) at q) ∙ later_taken x y q (list_any (eq_by_cmp R q) ys) (eq_by_cmp R q y) less refl

  pub taken_set : (xs : List K) (i : ℕ) (x : K) → IsStrictlySortedBy R xs → i < length xs → HoldsAt (λ y. R y x ≡ Equal) xs i → set.from_list {R = R} (remove xs i) ≡ set.remove (set.from_list xs) x
  taken_set xs i x h lt at = set.same_set o anti _ _ (λ q.
      set.contains-from_list o (remove xs i) q ∙ any_taken xs i x h lt (λ d. anti (get_or xs i d) x (at d)) q ∙ ap (λ b. not (eq_by_cmp R q x) && b) (sym (set.contains-from_list o xs q)) ∙ sym (set.contains-remove o (set.from_list xs) x q))

  none_tied : (xs : List K) (x : K) → ((k : ℕ) (d : K) → k < length xs → is_eq (R (get_or xs k d) x) ≡ false) → list_any (eq_by_cmp R x) xs ≡ false
  none_tied [] x h = refl
  none_tied (y ∷ ys) x h = ap (λ b. b || list_any (eq_by_cmp R x) ys) ((eq_by_cmp_equiv o).symm x y ∙ h 0 y (omega arith)) ∙ none_tied ys x (λ k d lt. h (suc k) d (omega arith))

  -- one that isn't there
  pub absent_set : (xs : List K) (i : ℕ) (x : K) → IsStrictlySortedBy R xs → IsPlaceFor xs x i → set.from_list {R = R} xs ≡ set.remove (set.from_list xs) x
  absent_set xs i x h place =
      let parts = place (searchable_from_sorted o (λ y. y) xs x (weakly xs h)) in
      let none = none_tied xs x (λ k d lt. ⊎_elim (λ low. ap is_eq (parts.0 k d (omega arith) low)) (λ high. ap is_eq (parts.1 k d high lt)) (cases_lt k i)) in
      set.same_set o anti _ _ (λ q. by none q (eq_by_cmp R q x) refl ∙ sym (set.contains-remove o (set.from_list xs) x q))
    where
      by : list_any (eq_by_cmp R x) xs ≡ false → (q : K) (b : Bool) → eq_by_cmp R q x ≡ b → set.contains (set.from_list {R = R} xs) q ≡ (not b && set.contains (set.from_list {R = R} xs) q)
      by none q true t = set.contains-from_list o xs q ∙ ap (λ z. list_any (eq_by_cmp R z) xs) (same_as q x t) ∙ none
      by none q false t = refl

  -- ---- no clients

  pub none_rises : IsStrictlySortedBy R []
  unfolding IsStrictlySortedBy
  none_rises = tt

  pub empty_is : (xs : List K) (b : Bool) → b ≡ (length xs == 0) → IsEmptiness (set.from_list {R = R} xs) b
  empty_is [] b e = subst (IsEmptiness (set.from_list {R = R} [])) (sym e) (λ x. set.contains-empty R x)
  empty_is (x ∷ xs) b e = subst (IsEmptiness (set.from_list {R = R} (x ∷ xs))) (sym (e ∙ ne_eqb (length (x ∷ xs)) 0 (λ z. omega (arith, z)))) (x, set.contains-insert o (set.from_list xs) x x ∙ ap (λ r. is_eq r || set.contains (set.from_list {R = R} xs) x) (tied_itself o x))

  -- ---- lists in order are the same where they have the same elements

  abbrev marks : List K → List (K × Unit {0})
  marks ks = map_list (λ k. (k, tt)) ks

  keys_marks : (ks : List K) → map_list (λ e. e.0) (marks ks) ≡ ks
  keys_marks [] = refl
  keys_marks (k ∷ ks) = ap (λ l. k ∷ l) (keys_marks ks)

  mark_first : {X : Type 0} (x : X) (a b : Bool) → cond a (Some x) (cond b (Some x) None) ≡ cond (a || b) (Some x) None
  mark_first x true b = refl
  mark_first x false b = refl

  find_marks : (q : K) (ks : List K) → find R q (marks ks) ≡ cond (list_any (eq_by_cmp R q) ks) (Some tt) None
  find_marks q [] = refl
  find_marks q (k ∷ ks) = ap (λ r. cond (eq_by_cmp R q k) (Some tt) r) (find_marks q ks) ∙ mark_first tt (eq_by_cmp R q k) (list_any (eq_by_cmp R q) ks)

  rising_marks : (ks : List K) → IsStrictlySortedBy R ks → T (is_sorted R (marks ks))
  rising_marks ks h = tables.rising o (marks ks) (subst (IsStrictlySortedBy R) (sym (keys_marks ks)) h)

  below_marks : {X : Type 0} (k : K) (es : List (K × X)) → T (below_all R k es) → T (below_all R k (marks (map_list (λ e. e.0) es)))
  below_marks k [] h = tt
  below_marks k (e ∷ es) h = both _ _ (first_part _ _ h) (below_marks k es (second_part _ _ h))

  sorted_marks : {X : Type 0} (es : List (K × X)) → T (is_sorted R es) → T (is_sorted R (marks (map_list (λ e. e.0) es)))
  sorted_marks [] h = tt
  sorted_marks (e ∷ es) h = both _ _ (below_marks e.0 es (first_part _ _ h)) (sorted_marks es (second_part _ _ h))

  pub same_sorted : {X Y : Type 0} (es : List (K × X)) (fs : List (K × Y)) → T (is_sorted R es) → T (is_sorted R fs) → ((q : K) → list_any (eq_by_cmp R q) (map_list (λ e. e.0) es) ≡ list_any (eq_by_cmp R q) (map_list (λ e. e.0) fs))
      → map_list (λ e. e.0) es ≡ map_list (λ e. e.0) fs
  same_sorted es fs h k same =
      let a = map_list (λ e. e.0) es in
      let b = map_list (λ e. e.0) fs in
      sym (keys_marks a)
      ∙ ap (map_list (λ e. e.0)) (same_entries R o anti (marks a) (marks b) (sorted_marks es h) (sorted_marks fs k) (λ q. find_marks q a ∙ ap (λ t. cond t (Some tt) None) (same q) ∙ sym (find_marks q b)))
      ∙ keys_marks b

  pub same_keys : {X : Type 0} (es : List (K × X)) (ks : List K) → T (is_sorted R es) → IsStrictlySortedBy R ks → ((q : K) → list_any (eq_by_cmp R q) (map_list (λ e. e.0) es) ≡ list_any (eq_by_cmp R q) ks) → map_list (λ e. e.0) es ≡ ks
  same_keys es ks h up same =
      let own = map_list (λ e. e.0) es in
      sym (keys_marks own)
      ∙ ap (map_list (λ e. e.0)) (same_entries R o anti (marks own) (marks ks) (sorted_marks es h) (rising_marks ks up) (λ q. find_marks q own ∙ ap (λ b. cond b (Some tt) None) (same q) ∙ sym (find_marks q ks)))
      ∙ keys_marks ks
