-- An ordered map or set of the library as the finite map or set that it holds.
use Rattle.std.proofs.Common.{◌≡◌, Bool, true, false, cond, T, List, [], ◌∷◌, Option, Some, None, Less, refl, sym, ap, subst, ◌∙◌, ◌||◌, ◌&&◌, not, ◌<◌, length, arith}
use Rattle.std.specs.Ordering.{is_eq, is_lt, eq_by_cmp}
use Rattle.std.specs.declared.cmp.Ordering.{Ordering}
use Rattle.std.specs.Cmp.{IsTotalOrder, eq_by_cmp_equiv, tied_itself, Equal-is}
use Rattle.std.specs.FinMap.{FinMap, IsAntisymmetric, find}
use Rattle.std.specs.FinMap as map
use Rattle.std.specs.FinSet as set
use Rattle.std.specs.FinMap.Entries.{below_all, is_sorted, same_entries}
use Rattle.std.specs.List.{AllByRecursion, list_any}
use Rattle.std.specs.List.Sorted.{IsStrictlySortedBy}
use Rattle.std.specs.Map.{lookup, keys_of}

find-lookup : {K X : Type 0} (R : K → K → Ordering) (q : K) (es : List (K × X)) → find R q es ≡ lookup (λ k. is_eq (R q k)) es
find-lookup R q [] = refl
find-lookup R q (e ∷ es) = ap (λ r. cond (is_eq (R q e.0)) (Some e.1) r) (find-lookup R q es)

twice : {Y : Type 0} (b : Bool) (x y z : Y) → cond b x (cond b y z) ≡ cond b x z
twice true x y z = refl
twice false x y z = refl

absent : {Y : Type 0} (b : Bool) (x y : Option Y) → (b ≡ true → y ≡ None) → x ≡ None → cond b x y ≡ y
absent true x y h e = e ∙ sym (h refl)
absent false x y h e = refl

there : {Y : Type 0} (v : Y) (b : Bool) (y : Option Y) → (b ≡ true → y ≡ Some v) → cond b (Some v) y ≡ y
there v true y h = sym (h refl)
there v false y h = refl

and_cond : (b c : Bool) → (not b && c) ≡ cond b false c
and_cond true c = refl
and_cond false c = refl

or_cond : (b c : Bool) → (b || c) ≡ cond b true c
or_cond true c = refl
or_cond false c = refl

module _ {K X : Type 0} {R : K → K → Ordering} (o : IsTotalOrder R) where
  pub get_table : (es : List (K × X)) (q : K) → map.get (map.from_entries {R = R} es) q ≡ lookup (λ k. is_eq (R q k)) es
  get_table es q = map.get-from_entries o es q ∙ find-lookup R q es

  pub insert_table : IsAntisymmetric R → (es fs : List (K × X)) (k : K) (v : X)
      → ((q : K) → lookup (λ x. is_eq (R q x)) fs ≡ cond (is_eq (R k q)) (Some v) (lookup (λ x. is_eq (R q x)) es))
      → map.from_entries {R = R} fs ≡ map.insert (map.from_entries es) k v
  insert_table same es fs k v h = map.same_map o same _ _
      (λ q. get_table fs q ∙ h q ∙ sym (map.get-insert o (map.from_entries es) k v q ∙ (λ i. cond ((eq_by_cmp_equiv o).symm q k i) (Some v) (get_table es q i))))

  pub remove_table : IsAntisymmetric R → (es fs : List (K × X)) (k : K)
      → ((q : K) → lookup (λ x. is_eq (R q x)) fs ≡ cond (is_eq (R k q)) None (lookup (λ x. is_eq (R q x)) es))
      → map.from_entries {R = R} fs ≡ map.remove (map.from_entries es) k
  remove_table same es fs k h = map.same_map o same _ _
      (λ q. get_table fs q ∙ h q ∙ sym (map.get-remove o (map.from_entries es) k q ∙ (λ i. cond ((eq_by_cmp_equiv o).symm q k i) None (get_table es q i))))

  pub insert_taken : IsAntisymmetric R → (m : FinMap R X) (k : K) (v : X) → map.insert (map.remove m k) k v ≡ map.insert m k v
  insert_taken same m k v = map.same_map o same _ _
      (λ q. map.get-insert o (map.remove m k) k v q ∙ ap (cond (eq_by_cmp R q k) (Some v)) (map.get-remove o m k q) ∙ twice (eq_by_cmp R q k) (Some v) None (map.get m q) ∙ sym (map.get-insert o m k v q))

  -- to take out what isn't there changes nothing
  pub remove_absent : IsAntisymmetric R → (m : FinMap R X) (k : K) → map.get m k ≡ None → map.remove m k ≡ m
  remove_absent same m k none = map.same_map o same _ _
      (λ q. map.get-remove o m k q ∙ absent (eq_by_cmp R q k) None (map.get m q) (λ t. ap (map.get m) (same q k ((Equal-is (R q k)).0 t)) ∙ none) refl)

  -- to put what is there changes nothing
  pub insert_same : IsAntisymmetric R → (m : FinMap R X) (k : K) (v : X) → map.get m k ≡ Some v → map.insert m k v ≡ m
  insert_same same m k v is = map.same_map o same _ _
      (λ q. map.get-insert o m k v q ∙ there v (eq_by_cmp R q k) (map.get m q) (λ t. ap (map.get m) (same q k ((Equal-is (R q k)).0 t)) ∙ is))

  pub get_inserted : (m : FinMap R X) (k : K) (v : X) → map.get (map.insert m k v) k ≡ Some v
  get_inserted m k v = map.get-insert o m k v k ∙ ap (λ b. cond b (Some v) (map.get m k)) (ap is_eq (tied_itself o k))

-- the same of a set
module _ {K : Type 0} {R : K → K → Ordering} (o : IsTotalOrder R) where
  pub contains_table : (ks : List K) (q : K) → set.contains (set.from_list {R = R} ks) q ≡ list_any (λ k. is_eq (R q k)) ks
  contains_table ks q = set.contains-from_list o ks q

  pub add_table : IsAntisymmetric R → (ks ls : List K) (k : K)
      → ((q : K) → list_any (λ x. is_eq (R q x)) ls ≡ cond (is_eq (R k q)) true (list_any (λ x. is_eq (R q x)) ks))
      → set.from_list {R = R} ls ≡ set.insert (set.from_list ks) k
  add_table same ks ls k h = set.same_set o same _ _
      (λ q. contains_table ls q ∙ h q
      ∙ sym (set.contains-insert o (set.from_list ks) k q ∙ or_cond (eq_by_cmp R q k) _ ∙ (λ i. cond ((eq_by_cmp_equiv o).symm q k i) true (contains_table ks q i))))

  pub leave_table : IsAntisymmetric R → (ks ls : List K) (k : K)
      → ((q : K) → list_any (λ x. is_eq (R q x)) ls ≡ cond (is_eq (R k q)) false (list_any (λ x. is_eq (R q x)) ks))
      → set.from_list {R = R} ls ≡ set.remove (set.from_list ks) k
  leave_table same ks ls k h = set.same_set o same _ _
      (λ q. contains_table ls q ∙ h q
      ∙ sym (set.contains-remove o (set.from_list ks) k q ∙ and_cond (eq_by_cmp R q k) _ ∙ (λ i. cond ((eq_by_cmp_equiv o).symm q k i) false (contains_table ks q i))))

  pub none_in : (ks : List K) (p : K → Bool) → (0 < length ks → ⊥) → list_any p ks ≡ false
  none_in [] p h = refl
  none_in (k ∷ ks) p h = absurd (h (omega arith))

-- ---- entries in order
both : (a b : Bool) → T a → T b → T (a && b)
both true b p q = q
both false b p q = p

module _ {K X : Type 0} {R : K → K → Ordering} (o : IsTotalOrder R) where
  pub get_apart : (m : FinMap R X) (k : K) (v : X) (q : K) → eq_by_cmp R q k ≡ false → map.get (map.insert m k v) q ≡ map.get m q
  get_apart m k v q apart = map.get-insert o m k v q ∙ ap (λ b. cond b (Some v) (map.get m q)) apart

  pub get_removed : (m : FinMap R X) (k : K) → map.get (map.remove m k) k ≡ None
  get_removed m k = map.get-remove o m k k ∙ ap (λ b. cond b None (map.get m k)) (ap is_eq (tied_itself o k))

  pub get_left : (m : FinMap R X) (k q : K) → eq_by_cmp R q k ≡ false → map.get (map.remove m k) q ≡ map.get m q
  get_left m k q apart = map.get-remove o m k q ∙ ap (λ b. cond b None (map.get m q)) apart

  pub remove_taken : IsAntisymmetric R → (m : FinMap R X) (k : K) → map.remove (map.remove m k) k ≡ map.remove m k
  remove_taken same m k = remove_absent o same (map.remove m k) k (get_removed m k)

  sorted_below : (d : K) (es : List (K × X)) → AllByRecursion (λ y. R d y ≡ Less) (keys_of es) → T (below_all R d es)
  sorted_below d [] h = tt
  sorted_below d (x ∷ xs) h = both _ _ (subst (λ r. T (is_lt r)) (sym h.0) tt) (sorted_below d xs h.1)

  pub rising : (es : List (K × X)) → IsStrictlySortedBy R (keys_of es) → T (is_sorted R es)
  unfolding IsStrictlySortedBy
  rising [] h = tt
  rising (x ∷ xs) h = both _ _ (sorted_below x.0 xs h.0) (rising xs h.1)

  -- entries in order are those of their map
  pub entries_sorted : IsAntisymmetric R → (es : List (K × X)) → T (is_sorted R es) → map.entries (map.from_entries {R = R} es) ≡ es
  entries_sorted same es h = same_entries R o same (map.entries (map.from_entries {R = R} es)) es (map.entries_sorted (map.from_entries {R = R} es)) h
      (λ q. sym (map.get-entries (map.from_entries {R = R} es) q) ∙ map.get-from_entries o es q)
