-- A list in key order that has what the content has is its entries.
use Rattle.std.proofs.Common.{◌≡◌, inl, inr, ℕ, Bool, true, false, cond, ◌&&◌, List, [], ◌∷◌, map, Option, Some, None, Ordering, Less, Equal, Greater, T, zero, suc, ◌+◌, ◌<◌, length, get_or, arith, refl, sym, ap, subst, ◌∙◌}
use Rattle.std.specs.List.{AllByRecursion, IsDistinct}
use Rattle.std.specs.List.Sorted.{IsPermutation, IsStrictlySortedBy}
use Rattle.std.specs.Ordering.{is_lt, is_eq}
use Rattle.std.specs.Cmp.{eq_by_cmp_equiv}
use Rattle.std.specs.Map.{lookup, keys_of}
use Rattle.std.specs.FinMap.{get, entries, from_entries, from_sorted, find, is_sorted, get-from_entries, get-from_sorted, entries-from_sorted, same_map}
use Rattle.std.specs.FinMap.Entries.{below_all}
use Rattle.std.proofs.lemmas.Bool.{cases_Bool}
use Rattle.std.proofs.lemmas.List.Sorted.{IsPermutation-map, IsPermutation-sym, Contains-permutation}
use Rattle.std.proofs.lemmas.Map.Keys.{IsDistinct-IsPermutation}
use Rattle.std.proofs.lemmas.Map.Views.{Contains-from_lookup, lookup-from_Contains}
use Rattle.row_store.specs.declared.memory.RowKey.{RowKey}
use Rattle.row_store.specs.Cells.{Cell, plain_key, cell_at, shown, filled}
use Rattle.row_store.proofs.Keys.{keys_total, exact_keys}
use Rattle.row_store.proofs.CellLemmas.{same_key, ties, row_in, get_shown, one_later}
use Rattle.row_store.specs.Rows.{Key, Content, key_cmp}

abbrev Pairs : Type 0
Pairs = List (Key × List ℕ)

-- ---- a list in order is the entries of the map that answers alike

pub entries_are : (c : Content) (es : Pairs) → T (is_sorted key_cmp es) → ((q : Key) → get c q ≡ find key_cmp q es) → entries c ≡ es
entries_are c es up same = ap entries (same_map keys_total exact_keys c (from_sorted es) (λ q. same q ∙ sym (get-from_sorted key_cmp es q up))) ∙ entries-from_sorted key_cmp es up

first : (a b : Bool) → T (a && b) → T a
first true b p = tt
first false b p = absurd p

second : (a b : Bool) → T (a && b) → T b
second true b p = p
second false b p = absurd p

joined : (a b : Bool) → T a → T b → T (a && b)
joined true b p q = q
joined false b p q = absurd p

find_is : (es : Pairs) (q : Key) → find key_cmp q es ≡ lookup (same_key q) es
find_is [] q = refl
find_is (e ∷ es) q = ap (cond (same_key q e.0) (Some e.1)) (find_is es q)

-- ---- keys that rise are apart

less_apart : (o : Ordering) → T (is_lt o) → is_eq o ≡ false
less_apart Less p = refl
less_apart Equal p = absurd p
less_apart Greater p = refl

below_apart : (k : Key) (es : Pairs) → T (below_all key_cmp k es) → AllByRecursion (λ q. same_key k q ≡ false) (keys_of es)
below_apart k [] p = tt
below_apart k (e ∷ es) p = (less_apart (key_cmp k e.0) (first _ _ p), below_apart k es (second _ _ p))

pub sorted_apart : (es : Pairs) → T (is_sorted key_cmp es) → IsDistinct same_key (keys_of es)
unfolding IsDistinct
sorted_apart [] p = tt
sorted_apart (e ∷ es) p = (below_apart e.0 es (first _ _ p), sorted_apart es (second _ _ p))

-- ---- the same in another order

agree : (o p : Option (List ℕ)) → ((v : List ℕ) → o ≡ Some v → p ≡ Some v) → ((v : List ℕ) → p ≡ Some v → o ≡ Some v) → o ≡ p
agree None None f g = refl
agree (Some v) p f g = sym (f v refl)
agree None (Some v) f g = g v refl

lookup_moved : (xs es : Pairs) → IsPermutation xs es → T (is_sorted key_cmp es) → (q : Key) → lookup (same_key q) xs ≡ lookup (same_key q) es
lookup_moved xs es moved up q =
    let back = IsPermutation-sym xs es moved in
    let apart = sorted_apart es up in
    let laws = eq_by_cmp_equiv keys_total in
    let other : IsDistinct same_key (keys_of xs) = IsDistinct-IsPermutation same_key laws.symm (keys_of es) (keys_of xs) (IsPermutation-map (λ (e : Key × List ℕ). e.0) es xs back) apart in
    agree (lookup (same_key q) xs) (lookup (same_key q) es)
    (λ v at. lookup-from_Contains laws q v es apart (Contains-permutation xs es (q, v) moved (Contains-from_lookup ties q v xs at)))
    (λ v at. lookup-from_Contains laws q v xs other (Contains-permutation es xs (q, v) back (Contains-from_lookup ties q v es at)))

pub entries_moved : (xs es : Pairs) → IsPermutation xs es → T (is_sorted key_cmp es) → entries (from_entries {R = key_cmp} xs) ≡ es
entries_moved xs es moved up = entries_are (from_entries xs) es up (λ q. get-from_entries keys_total xs q ∙ find_is xs q ∙ lookup_moved xs es moved up q ∙ sym (find_is es q))

-- ---- places in order

abbrev AreAbove : Key → List (RowKey × Cell) → Type 0
AreAbove k cells = AllByRecursion (λ m. key_cmp k (plain_key m) ≡ Less) (keys_of cells)

above_none : (q : Key) (cells : List (RowKey × Cell)) → AreAbove q cells → cell_at cells q ≡ None
above_none q [] all = refl
above_none q (e ∷ cells) all = rw (all.0) (above_none q cells all.1)

below_filled : (k : Key) (cells : List (RowKey × Cell)) → AreAbove k cells → T (below_all key_cmp k (filled cells))
below_filled k [] all = tt
below_filled k ((n, Some value) ∷ cells) all = joined _ _ (subst (λ o. T (is_lt o)) (sym all.0) tt) (below_filled k cells all.1)
below_filled k ((n, None) ∷ cells) all = below_filled k cells all.1

abbrev pub row_key_cmp : RowKey → RowKey → Ordering
row_key_cmp a b = key_cmp (plain_key a) (plain_key b)

filled_sorted : (cells : List (RowKey × Cell)) → IsStrictlySortedBy row_key_cmp (keys_of cells) → T (is_sorted key_cmp (filled cells))
unfolding IsStrictlySortedBy
filled_sorted [] up = tt
filled_sorted ((n, Some value) ∷ cells) up = joined _ _ (below_filled (plain_key n) cells up.0) (filled_sorted cells up.1)
filled_sorted ((n, None) ∷ cells) up = filled_sorted cells up.1

picked : (b : Bool) (v : List ℕ) (o : Option Cell) (value : Cell) → row_in (Some value) ≡ Some v → cond b (Some v) (row_in o) ≡ row_in (cond b (Some value) o)
picked true v o value is = sym is
picked false v o value is = refl

find_filled : (cells : List (RowKey × Cell)) → IsStrictlySortedBy row_key_cmp (keys_of cells) → (q : Key) → find key_cmp q (filled cells) ≡ row_in (cell_at cells q)
unfolding IsStrictlySortedBy
find_filled [] up q = refl
find_filled ((n, Some value) ∷ cells) up q = ap (cond (same_key q (plain_key n)) (Some value.items)) (find_filled cells up.1 q) ∙ picked (same_key q (plain_key n)) value.items (cell_at cells q) (Some value) refl
find_filled ((n, None) ∷ cells) up q = find_filled cells up.1 q ∙ elim (cases_Bool (same_key q (plain_key n))) [
  | inl tie ↦ rw tie (ap row_in (above_none q cells (subst (λ k. AreAbove k cells) (sym (ties q (plain_key n) tie)) up.0)))
  | inr other ↦ rw other refl
]

pub entries_filled : (cells : List (RowKey × Cell)) → IsStrictlySortedBy row_key_cmp (keys_of cells) → filled cells ≡ entries (shown cells)
entries_filled cells up = sym (entries_are (shown cells) (filled cells) (filled_sorted cells up) (λ q. get_shown cells q ∙ sym (find_filled cells up q)))

-- ---- a test of neighbours

less_is : (o : Ordering) → T (is_lt o) → o ≡ Less
less_is Less h = refl
less_is Equal h = absurd h
less_is Greater h = absurd h

lower : (x y : Key) (es : Pairs) → key_cmp x y ≡ Less → T (below_all key_cmp y es) → T (below_all key_cmp x es)
lower x y [] low p = tt
lower x y (e ∷ es) low p = joined _ _ (subst (λ o. T (is_lt o)) (sym (keys_total.trans x y e.0 low (less_is (key_cmp y e.0) (first _ _ p)))) tt) (lower x y es low (second _ _ p))

-- keys that rise from each to the next
abbrev pub Rises : {X : Type 0} → (X → Key × List ℕ) → List X → Type 0
Rises {X} f xs = (k : ℕ) (d : X) → k + 1 < length xs → key_cmp (f (get_or xs k d)).0 (f (get_or xs (k + 1) d)).0 ≡ Less

pub rising_sorted : {X : Type 0} (f : X → Key × List ℕ) (xs : List X) → Rises f xs → T (is_sorted key_cmp (map f xs))
rising_sorted f [] up = tt
rising_sorted f (x ∷ []) up = tt
rising_sorted f (x ∷ y ∷ xs) up =
    let rest = rising_sorted f (y ∷ xs) (λ k d low. subst (λ n. key_cmp (f (get_or (y ∷ xs) k d)).0 (f (get_or (x ∷ y ∷ xs) n d)).0 ≡ Less) (sym (one_later k)) (up (suc k) d (omega (arith, low)))) in
    let low = up 0 x (omega arith) in
    joined _ _ (joined _ _ (subst (λ o. T (is_lt o)) (sym low) tt) (lower (f x).0 (f y).0 (map f xs) low (first _ _ rest))) rest

pub sorted_rises : {X : Type 0} (f : X → Key × List ℕ) (xs : List X) → T (is_sorted key_cmp (map f xs)) → Rises f xs
sorted_rises f [] up k d low = absurd (omega (arith, low))
sorted_rises f (x ∷ []) up k d low = absurd (omega (arith, low))
sorted_rises f (x ∷ y ∷ xs) up zero d low = less_is _ (first _ _ (first _ _ up))
sorted_rises f (x ∷ y ∷ xs) up (suc k) d low =
    subst (λ n. key_cmp (f (get_or (y ∷ xs) k d)).0 (f (get_or (x ∷ y ∷ xs) n d)).0 ≡ Less) (one_later k) (sorted_rises f (y ∷ xs) (second _ _ up) k d (omega (arith, low)))
