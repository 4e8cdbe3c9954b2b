-- Rows in the order of their keys, and parts of them.
use Rattle.std.proofs.Common.{◌≡◌, ◌≢◌, inl, inr, ℕ, ◌≤◌, Bool, true, false, ◌&&◌, T, List, [], ◌∷◌, ◌++◌, Option, Some, None, Ordering, Less, Equal, Greater, arith, refl, sym, ap, subst, ◌∙◌}
use Rattle.std.specs.Cmp.{ranked, tied_itself}
use Rattle.std.specs.FinMap.{find, from_entries, get-from_entries, is_sorted}
use Rattle.std.specs.FinMap.Entries.{below_all}
use Rattle.std.specs.List.{AllByRecursion}
use Rattle.std.specs.Ordering.{eq_by_cmp, is_eq, is_lt, nat_cmp, ordering_then}
use Rattle.std.proofs.lemmas.Bool.{cases_Bool}
use Rattle.row_store.specs.Rows.{Key, key_cmp}
use Rattle.row_store.proofs.Keys.{keys_total, exact_keys, equal_is}
use Rattle.row_store.proofs.Sorted.{entries_are}

abbrev pub Pairs : Type 0
Pairs = List (Key × List ℕ)

-- ---- keys
abbrev pub same_key : Key → Key → Bool
same_key q k = eq_by_cmp key_cmp q k

pub itself : (k : Key) → same_key k k ≡ true
itself k = ap is_eq (tied_itself keys_total k)

pub same_is : (q k : Key) → same_key q k ≡ true → q ≡ k
same_is q k h = exact_keys q k (equal_is (key_cmp q k) h)

pub other_key : (q k : Key) → q ≢ k → same_key q k ≡ false
other_key q k apart = elim (cases_Bool (same_key q k)) [
  | inl t ↦ absurd (apart (same_is q k t))
  | inr f ↦ f
]

pub less_apart : (a b : Key) → key_cmp a b ≡ Less → a ≢ b
less_apart a b low same = (let other : Less ≡ Equal = sym low ∙ ap (key_cmp a) (sym same) ∙ tied_itself keys_total a in cc)

less_number : (a b : ℕ) (o r : Ordering) → nat_cmp a b ≡ o → ordering_then o r ≡ Less → a ≤ b
less_number a b Less r is h = omega (arith, ranked a b Less (sym is))
less_number a b Equal r is h = omega (arith, ranked a b Equal (sym is))
less_number a b Greater r is h = absurd cc

pub kind_up : (a b : Key) → key_cmp a b ≡ Less → a.0 ≤ b.0
kind_up a b low = less_number a.0 b.0 (nat_cmp a.0 b.0) _ refl low

-- ---- lists
pub all_front : {A : Type 0} (P : A → Type 0) (xs ys : List A) → AllByRecursion P (xs ++ ys) → AllByRecursion P xs
all_front P [] ys all = tt
all_front P (x ∷ xs) ys all = (all.0, all_front P xs ys all.1)

pub all_back : {A : Type 0} (P : A → Type 0) (xs ys : List A) → AllByRecursion P (xs ++ ys) → AllByRecursion P ys
all_back P [] ys all = all
all_back P (x ∷ xs) ys all = all_back P xs ys all.1

pub all_both : {A : Type 0} (P : A → Type 0) (xs ys : List A) → AllByRecursion P xs → AllByRecursion P ys → AllByRecursion P (xs ++ ys)
all_both P [] ys front back = back
all_both P (x ∷ xs) ys front back = (front.0, all_both P xs ys front.1 back)

pub all_turned : {A : Type 0} (P Q : A → Type 0) (xs : List A) → ((x : A) → P x → Q x) → AllByRecursion P xs → AllByRecursion Q xs
all_turned P Q [] turn all = tt
all_turned P Q (x ∷ xs) turn all = (turn x all.0, all_turned P Q xs turn all.1)

-- ---- what is found
abbrev pub either : Option (List ℕ) → Option (List ℕ) → Option (List ℕ)
either None o = o
either (Some v) o = Some v

pub find_both : (q : Key) (xs ys : Pairs) → find key_cmp q (xs ++ ys) ≡ either (find key_cmp q xs) (find key_cmp q ys)
find_both q [] ys = refl
find_both q (x ∷ xs) ys = elim (cases_Bool (same_key q x.0)) [
  | inl t ↦ rw t refl
  | inr f ↦ rw f (find_both q xs ys)
]

-- all have what the key lacks
pub find_none : (q : Key) (P : Key → Type 0) (xs : Pairs) → AllByRecursion (λ e. P e.0) xs → (P q → ⊥) → find key_cmp q xs ≡ None
find_none q P [] all lacks = refl
find_none q P (x ∷ xs) all lacks = rw (other_key q x.0 (λ e. lacks (subst P (sym e) all.0))) (find_none q P xs all.1 lacks)

some_is : (a b : List ℕ) → Some a ≡ Some b → a ≡ b
some_is a b e = cc

pub find_some : (q : Key) (P : Key × List ℕ → Type 0) (xs : Pairs) (v : List ℕ) → AllByRecursion P xs → find key_cmp q xs ≡ Some v → P (q, v)
find_some q P [] v all is = absurd (cc)
find_some q P (x ∷ xs) v all is = elim (cases_Bool (same_key q x.0)) [
  | inl t ↦ subst P (λ i. (sym (same_is q x.0 t) i, some_is x.1 v (rw t at is) i)) all.0
  | inr f ↦ find_some q P xs v all.1 (rw f at is)
]

-- ---- keys that rise
first : (a b : Bool) → T (a && b) → T a
first true b p = tt
first false b p = absurd p

second : (a b : Bool) → T (a && b) → T b
second true b p = p
second false b p = absurd p

joined : (a b : Bool) → T a → T b → T (a && b)
joined true b p q = q
joined false b p q = absurd p

less_is : (o : Ordering) → T (is_lt o) → o ≡ Less
less_is Less h = refl
less_is Equal h = absurd h
less_is Greater h = absurd h

abbrev pub IsAbove : Key → Key × List ℕ → Type 0
IsAbove k e = key_cmp k e.0 ≡ Less

below_is : (k : Key) (xs : Pairs) → T (below_all key_cmp k xs) → AllByRecursion (IsAbove k) xs
below_is k [] h = tt
below_is k (x ∷ xs) h = (less_is _ (first _ _ h), below_is k xs (second _ _ h))

below_from : (k : Key) (xs : Pairs) → AllByRecursion (IsAbove k) xs → T (below_all key_cmp k xs)
below_from k [] all = tt
below_from k (x ∷ xs) all = joined _ _ (subst (λ o. T (is_lt o)) (sym all.0) tt) (below_from k xs all.1)

pub sorted_head : (x : Key × List ℕ) (xs : Pairs) → T (is_sorted key_cmp (x ∷ xs)) → AllByRecursion (IsAbove x.0) xs
sorted_head x xs up = below_is x.0 xs (first _ _ up)

pub sorted_tail : (x : Key × List ℕ) (xs : Pairs) → T (is_sorted key_cmp (x ∷ xs)) → T (is_sorted key_cmp xs)
sorted_tail x xs up = second _ _ up

pub sorted_more : (x : Key × List ℕ) (xs : Pairs) → AllByRecursion (IsAbove x.0) xs → T (is_sorted key_cmp xs) → T (is_sorted key_cmp (x ∷ xs))
sorted_more x xs all up = joined _ _ (below_from x.0 xs all) up

pub sorted_front : (xs ys : Pairs) → T (is_sorted key_cmp (xs ++ ys)) → T (is_sorted key_cmp xs)
sorted_front [] ys up = tt
sorted_front (x ∷ xs) ys up = sorted_more x xs (all_front (IsAbove x.0) xs ys (sorted_head x (xs ++ ys) up)) (sorted_front xs ys (sorted_tail x (xs ++ ys) up))

pub sorted_back : (xs ys : Pairs) → T (is_sorted key_cmp (xs ++ ys)) → T (is_sorted key_cmp ys)
sorted_back [] ys up = up
sorted_back (x ∷ xs) ys up = sorted_back xs ys (sorted_tail x (xs ++ ys) up)

pub sorted_both : (xs ys : Pairs) → T (is_sorted key_cmp xs) → T (is_sorted key_cmp ys) → AllByRecursion (λ x. AllByRecursion (IsAbove x.0) ys) xs → T (is_sorted key_cmp (xs ++ ys))
sorted_both [] ys up also apart = also
sorted_both (x ∷ xs) ys up also apart =
    sorted_more x (xs ++ ys) (all_both (IsAbove x.0) xs ys (sorted_head x xs up) apart.0) (sorted_both xs ys (sorted_tail x xs up) also apart.1)

-- lists in order that answer alike are the same
pub one_list : (xs ys : Pairs) → T (is_sorted key_cmp xs) → T (is_sorted key_cmp ys) → ((q : Key) → find key_cmp q xs ≡ find key_cmp q ys) → xs ≡ ys
one_list xs ys up also same =
    sym (entries_are (from_entries xs) xs up (get-from_entries keys_total xs)) ∙ entries_are (from_entries xs) ys also (λ q. get-from_entries keys_total xs q ∙ same q)

-- each row is found at its key
found_later : (x : Key × List ℕ) (xs ys : Pairs) → AllByRecursion (IsAbove x.0) ys → AllByRecursion (λ e. find key_cmp e.0 xs ≡ Some e.1) ys → AllByRecursion (λ e. find key_cmp e.0 (x ∷ xs) ≡ Some e.1) ys
found_later x xs [] up all = tt
found_later x xs (y ∷ ys) up all = (rw (other_key y.0 x.0 (λ e. less_apart x.0 y.0 up.0 (sym e))) all.0, found_later x xs ys up.1 all.1)

pub each_found : (xs : Pairs) → T (is_sorted key_cmp xs) → AllByRecursion (λ e. find key_cmp e.0 xs ≡ Some e.1) xs
each_found [] up = tt
each_found (x ∷ xs) up = (rw (itself x.0) refl, found_later x xs xs (sorted_head x xs up) (each_found xs (sorted_tail x xs up)))

-- the first is at the least key of all
pub least_first : (x : Key × List ℕ) (xs : Pairs) (q : Key) (v : List ℕ) → T (is_sorted key_cmp (x ∷ xs)) → find key_cmp q (x ∷ xs) ≡ Some v → (key_cmp x.0 q ≡ Less → ⊥) → x ≡ (q, v)
least_first x xs q v up is least = elim (cases_Bool (same_key q x.0)) [
  | inl t ↦ λ i. (sym (same_is q x.0 t) i, some_is x.1 v (rw t at is) i)
  | inr f ↦ absurd (least (find_some q (IsAbove x.0) xs v (sorted_head x xs up) (rw f at is)))
]
