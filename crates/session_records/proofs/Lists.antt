-- What taking rows out of the table, and putting one in, does to the content.
use Rattle.std.proofs.Common.{◌≡◌, ◌≢◌, ◌⊎◌, inl, inr, ℕ, ℤ, pos, List, [], ◌∷◌, map, filter, Bool, true, false, not, ◌&&◌, ◌||◌, cond, Option, Some, None, Ordering, Less, Equal, Greater, refl, sym, ap, subst, ◌∙◌, true≢false}
use Rattle.std.specs.List.{AllByRecursion, list_any, list_all}
use Rattle.std.specs.Ordering.{is_eq, eq_by_cmp, nat_cmp, int_cmp, ordering_then, match_ordering}
use Rattle.std.specs.Cmp.{eq_by_cmp_equiv}
use Rattle.std.specs.Cmp.Lexicographic.{slice_cmp}
use Rattle.std.specs.FinMap.{find, get, insert, remove, get-from_entries, get-insert, get-remove, same_map}
use Rattle.std.specs.FinMap.Entries.{where_key, find-where_key}
use Rattle.std.proofs.Common.{arith}
use Rattle.std.proofs.lemmas.Int.{ints}
use Rattle.std.proofs.lemmas.Bool.Decides.{nat_tests}
use Rattle.std.proofs.lemmas.Bool.{or_parts, cases_Bool}
use Rattle.sqlite_value.specs.declared.value.Value.TheVariants.{Int, Blob}
use Rattle.sqlite_value.specs.Order.{Row, column, bytes, value_cmp}
use Rattle.sqlite_value.proofs.OrderLemmas.{value_cmp_total, value_cmp-Int, value_cmp-Blob}
use Rattle.sqlite_trees.specs.Tree.{rowid, has_rowid, put_row, without_rowid, IsAscending}
use Rattle.sqlite_sql.specs.Term.{holds}
use Rattle.sqlite_sql.specs.Ops.{binary, is_true, from_truth}
use Rattle.sqlite_sql.specs.declared.ops.BinaryOp.TheVariants.{Compare}
use Rattle.sqlite_sql.specs.declared.ops.CompareOp.TheVariants.{Eq}
use Rattle.sqlite.specs.Collation.TheVariants.{Binary}
use Rattle.sqlite_rules.specs.Lists.{Has}
use Rattle.sqlite_rules.specs.Calls.{ids_of}
use Rattle.sqlite_rules.specs.Edit.{id_in, without_all, is_taken}
use Rattle.sqlite_rules.specs.Probe.{AreFound}
use Rattle.sqlite_rules.proofs.ProbeLemmas.{has_mapped, mapped_has}
use Rattle.std.specs.Cmp.{tied_itself, tied_back}
use Rattle.row_store.proofs.Keys.{keys_total, exact_keys, equal_is}
use Rattle.session_records.proofs.Means.{tests}
use Rattle.row_store.specs.Rows.{Key, key_cmp}
use Rattle.session_records.specs.Stored.{IsStored, IsFormedRow, key_in, entry_in, content_in, AreRows}

-- the row is at the key
abbrev pub hit : Key → Row → Bool
hit key r = eq_by_cmp key_cmp key (key_in r)

-- ---- taking out

as_where : (key : Key) (rows : List Row) → map entry_in (filter (λ r. not (hit key r)) rows) ≡ where_key key_cmp (λ k. not (eq_by_cmp key_cmp key k)) (map entry_in rows)
as_where key [] = refl
as_where key (r ∷ rows) = elim (hit key r) as (λ b. map entry_in (cond (not b) (r ∷ filter (λ x. not (hit key x)) rows) (filter (λ x. not (hit key x)) rows)) ≡ cond (not b) (entry_in r ∷ where_key key_cmp (λ k. not (eq_by_cmp key_cmp key k)) (map entry_in rows)) (where_key key_cmp (λ k. not (eq_by_cmp key_cmp key k)) (map entry_in rows))) [
  | true ↦ as_where key rows
  | false ↦ ap (λ xs. entry_in r ∷ xs) (as_where key rows)
]

turned : (key q : Key) → eq_by_cmp key_cmp key q ≡ eq_by_cmp key_cmp q key
turned key q = (eq_by_cmp_equiv keys_total).symm key q

unless : {A : Type 0} (b : Bool) (x y : A) → cond (not b) x y ≡ cond b y x
unless true x y = refl
unless false x y = refl

pub erased : (key : Key) (rows : List Row) → content_in (filter (λ r. not (hit key r)) rows) ≡ remove (content_in rows) key
erased key rows = same_map keys_total exact_keys _ _ (λ q.
    get-from_entries keys_total _ q
    ∙ ap (find key_cmp q) (as_where key rows)
    ∙ find-where_key key_cmp (λ k. not (eq_by_cmp key_cmp key k)) q (λ x t. ap (λ k. not (eq_by_cmp key_cmp key k)) (sym (exact_keys q x t))) (map entry_in rows)
    ∙ ap (λ b. cond (not b) (find key_cmp q (map entry_in rows)) None) (turned key q)
    ∙ unless (eq_by_cmp key_cmp q key) _ _
    ∙ ap (cond (eq_by_cmp key_cmp q key) None) (sym (get-from_entries keys_total _ q)) ∙ sym (get-remove keys_total (content_in rows) key q))

-- what the query finds are the rowids of the rows at the key
truth_of : (b : Bool) → is_true (from_truth (Some b)) ≡ b
truth_of true = refl
truth_of false = refl

of_naturals : (m n : ℕ) → is_eq (int_cmp (pos m) (pos n)) ≡ is_eq (nat_cmp m n)
of_naturals m n = grind (arith, ints, nat_tests)

same_int : (m n : ℕ) → is_true (binary (Compare Eq Binary) (Int (pos m)) (Int (pos n))) ≡ is_eq (nat_cmp m n)
unfolding binary
same_int m n = truth_of _ ∙ ap is_eq (value_cmp-Int (pos m) (pos n)) ∙ of_naturals m n

same_bytes : (s t : List ℕ) → is_true (binary (Compare Eq Binary) (Blob s) (Blob t)) ≡ is_eq (slice_cmp nat_cmp s t)
unfolding binary
same_bytes s t = truth_of _ ∙ ap is_eq (value_cmp-Blob s t)

three : (a b c : Ordering) → (is_eq a && (is_eq b && (is_eq c && true))) ≡ is_eq (ordering_then a (ordering_then b c))
three Less b c = refl
three Greater b c = refl
three Equal Less c = refl
three Equal Greater c = refl
three Equal Equal Less = refl
three Equal Equal Equal = refl
three Equal Equal Greater = refl

abbrev pub given_key : Key → Row
given_key key = Int (pos key.0) ∷ Blob key.1.0 ∷ Blob key.1.1 ∷ []

pub test_is : (key : Key) (r : Row) → IsFormedRow r → list_all (holds (given_key key ∷ r ∷ [])) tests ≡ hit key r
test_is key r (id, k, v, is) =
    rw (is.kind, is.owner, is.place, same_int k.0 key.0, same_bytes k.1.0 key.1.0, same_bytes k.1.1 key.1.1) (three (nat_cmp k.0 key.0) (slice_cmp nat_cmp k.1.0 key.1.0) (slice_cmp nat_cmp k.1.1 key.1.1)) ∙ turned_at key k r is
  where
    turned_at : (key k : Key) (r : Row) → IsStored id k v r → eq_by_cmp key_cmp k key ≡ hit key r
    turned_at key k r is = sym (turned key k) ∙ rw (is.kind, is.owner, is.place) refl

-- ---- taking out by rowid

passed : {A : Type 0} (a b : Bool) (x : A) (xs : List A) → cond (not a) (cond (not b) (x ∷ xs) xs) xs ≡ cond (not (a || b)) (x ∷ xs) xs
passed true b x xs = refl
passed false b x xs = refl

twice : {A : Type 0} (p q : A → Bool) (xs : List A) → filter (λ x. not (p x)) (filter (λ x. not (q x)) xs) ≡ filter (λ x. not (q x || p x)) xs
twice p q [] = refl
twice {A} p q (x ∷ xs) =
    elim (q x) as (λ b. filter (λ x. not (p x)) (cond (not b) (x ∷ filter (λ x. not (q x)) xs) (filter (λ x. not (q x)) xs)) ≡ cond (not (b || p x)) (x ∷ filter (λ x. not (q x || p x)) xs) (filter (λ x. not (q x || p x)) xs)) [
      | true ↦ twice p q xs
      | false ↦ ap (λ ys. cond {A = List A} (not (p x)) (x ∷ ys) ys) (twice p q xs)
    ]

keeps_all : {A : Type 0} (xs : List A) → xs ≡ filter (λ x. true) xs
keeps_all [] = refl
keeps_all (x ∷ xs) = ap (λ ys. x ∷ ys) (keeps_all xs)

without_is : (ids : List ℤ) (rows : List Row) → without_all rows ids ≡ filter (λ r. not (list_any (λ id. has_rowid id r) ids)) rows
without_is [] rows = keeps_all rows
without_is (id ∷ ids) rows = without_is ids (without_rowid id rows) ∙ twice (λ r. list_any (λ id. has_rowid id r) ids) (has_rowid id) rows

filter_same : {A : Type 0} (p q : A → Bool) (xs : List A) → ((x : A) → Has xs x → p x ≡ q x) → filter p xs ≡ filter q xs
filter_same p q [] same = refl
filter_same {A} p q (x ∷ xs) same =
    ap (λ b. cond {A = List A} b (x ∷ filter p xs) (filter p xs)) (same x (inl refl)) ∙ ap (λ ys. cond {A = List A} (q x) (x ∷ ys) ys) (filter_same p q xs (λ y h. same y (inr h)))

pub each : {A : Type 0} (P : A → Type 0) (xs : List A) (x : A) → AllByRecursion P xs → Has xs x → P x
each P [] x all h = absurd h
each P (y ∷ xs) x all (inl same) = subst P (sym same) all.0
each P (y ∷ xs) x all (inr later) = each P xs x all.1 later

pub any_has : {A : Type 0} (p : A → Bool) (xs : List A) (x : A) → Has xs x → p x ≡ true → list_any p xs ≡ true
any_has p [] x h is = absurd h
any_has p (y ∷ xs) x (inl same) is = rw (← same, is) refl
any_has p (y ∷ xs) x (inr later) is = rw (any_has p xs x later is) (or_true (p y))
  where
    or_true : (b : Bool) → (b || true) ≡ true
    or_true true = refl
    or_true false = refl

has_any : {A : Type 0} (p : A → Bool) (xs : List A) → list_any p xs ≡ true → (x : A) × Has xs x × (p x ≡ true)
has_any p [] h = absurd (true≢false (sym h))
has_any p (y ∷ xs) h = elim (cases_Bool (p y)) [
  | inl here ↦ (y, inl refl, here)
  | inr other ↦ let r = has_any p xs (rw other at h) in (r.0, inr r.1, r.2)
]

-- two rows with one rowid are one
one_row : (rows : List Row) (a b : Row) → IsAscending (λ x y. value_cmp (rowid x) (rowid y) ≢ Equal) rows → Has rows a → Has rows b → value_cmp (rowid a) (rowid b) ≡ Equal → a ≡ b
one_row [] a b up h k tie = absurd h
one_row (r ∷ rows) a b up (inl h) (inl k) tie = h ∙ sym k
one_row (r ∷ rows) a b up (inl h) (inr k) tie = absurd (each _ rows b up.0 k (subst (λ x. value_cmp (rowid x) (rowid b) ≡ Equal) h tie))
one_row (r ∷ rows) a b up (inr h) (inl k) tie = absurd (each _ rows a up.0 h (tied_back value_cmp_total (rowid a) (rowid r) (subst (λ x. value_cmp (rowid a) (rowid x) ≡ Equal) k tie)))
one_row (r ∷ rows) a b up (inr h) (inr k) tie = one_row rows a b up.1 h k tie

id_of : (r : Row) → IsFormedRow r → rowid r ≡ Int (id_in (rowid r))
id_of r (id, k, v, is) = rw is.id_is refl

pub taken_out : (key : Key) (rows found : List Row) → AreRows rows → AreFound tests rows (given_key key) found → without_all rows (ids_of found) ≡ filter (λ r. not (hit key r)) rows
taken_out key rows found are at = without_is (ids_of found) rows ∙ filter_same _ _ rows (λ r there. ap not (same_test r there (cases_Bool (hit key r))))
  where
    formed : (r : Row) → Has rows r → IsFormedRow r
    formed r h = each IsFormedRow rows r are.typed.formed h

    is_there : (r : Row) → Has rows r → hit key r ≡ true → list_any (λ id. has_rowid id r) (ids_of found) ≡ true
    is_there r h is = any_has (λ id. has_rowid id r) (ids_of found) (id_in (rowid r))
        (mapped_has (λ x. id_in (rowid x)) found (rowid r ∷ []) (at.complete r h (test_is key r (formed r h) ∙ is)))
        (ap (λ v. is_eq (value_cmp (rowid r) v)) (sym (id_of r (formed r h))) ∙ ap is_eq (tied_itself value_cmp_total (rowid r)))

    only_there : (r : Row) → Has rows r → list_any (λ id. has_rowid id r) (ids_of found) ≡ true → hit key r ≡ true
    only_there r h is =
        let id = has_any (λ id. has_rowid id r) (ids_of found) is in
        let x = has_mapped (λ x. id_in (rowid x)) found id.0 id.1 in
        let other = at.sound x.0 x.1 in
        let tie : value_cmp (rowid r) (rowid other.0) ≡ Equal = ap (value_cmp (rowid r)) (id_of other.0 (formed other.0 other.1) ∙ ap (λ y. Int (id_in (rowid y))) (sym other.3) ∙ ap Int (sym x.2)) ∙ equal_is _ id.2 in
        ap (hit key) (one_row rows r other.0 are.typed.apart h other.1 tie) ∙ sym (test_is key other.0 (formed other.0 other.1)) ∙ other.2

    same_test : (r : Row) → Has rows r → (hit key r ≡ true) ⊎ (hit key r ≡ false) → list_any (λ id. has_rowid id r) (ids_of found) ≡ hit key r
    same_test r h (inl on) = is_there r h on ∙ sym on
    same_test r h (inr out) = elim (cases_Bool (list_any (λ id. has_rowid id r) (ids_of found))) [
      | inl any ↦ absurd (true≢false (sym (only_there r h any) ∙ out))
      | inr none ↦ none ∙ sym out
    ]

all_left : {A : Type 0} (P : A → Type 0) (p : A → Bool) (xs : List A) → AllByRecursion P xs → AllByRecursion P (filter p xs)
all_left P p [] all = tt
all_left {A} P p (x ∷ xs) all = elim (p x) as (λ b. AllByRecursion P (cond {A = List A} b (x ∷ filter p xs) (filter p xs))) [ true ↦ (all.0, all_left P p xs all.1) | false ↦ all_left P p xs all.1 ]

apart_left : {A : Type 0} (R : A → A → Type 0) (p : A → Bool) (xs : List A) → IsAscending R xs → IsAscending R (filter p xs)
apart_left R p [] up = tt
apart_left {A} R p (x ∷ xs) up = elim (p x) as (λ b. IsAscending R (cond {A = List A} b (x ∷ filter p xs) (filter p xs))) [ true ↦ (all_left (R x) p xs up.0, apart_left R p xs up.1) | false ↦ apart_left R p xs up.1 ]

pub rows_left : (p : Row → Bool) (rows : List Row) → AreRows rows → AreRows (filter p rows)
rows_left p rows are = record {
  typed = record { formed = all_left IsFormedRow p rows are.typed.formed; apart = apart_left _ p rows are.typed.apart };
  keys_apart = apart_left _ p rows are.keys_apart;
}

-- ---- putting in

abbrev pub Put : Ordering → Row → Row → List Row → List Row
Put o new r rows = match_ordering o (r ∷ put_row new rows) (new ∷ rows) (new ∷ r ∷ rows)

all_put : (P : Row → Type 0) (new : Row) (rows : List Row) → P new → AllByRecursion P rows → AllByRecursion P (put_row new rows)
all_put P new [] is all = (is, tt)
all_put P new (r ∷ rows) is all = elim (value_cmp (rowid r) (rowid new)) as (λ o. AllByRecursion P (Put o new r rows)) [ Less ↦ (all.0, all_put P new rows is all.1) | Equal ↦ (is, all.1) | Greater ↦ (is, all) ]

abbrev Apart : Row → Row → Type 0
Apart a b = value_cmp (rowid a) (rowid b) ≢ Equal

untied : (o : Ordering) → is_eq o ≡ false → o ≢ Equal
untied o off tie = true≢false (ap is_eq (sym tie) ∙ off)

new_apart : (new : Row) (rows : List Row) → is_taken rows new ≡ false → AllByRecursion (Apart new) rows
new_apart new [] free = tt
new_apart new (r ∷ rows) free = let parts = or_parts _ _ free in (λ tie. untied _ parts.0 (tied_back value_cmp_total (rowid new) (rowid r) tie), new_apart new rows parts.1)

apart_put : (new : Row) (rows : List Row) → is_taken rows new ≡ false → IsAscending Apart rows → IsAscending Apart (put_row new rows)
apart_put new [] free up = (tt, tt)
apart_put new (r ∷ rows) free up =
    let parts = or_parts (is_eq (value_cmp (rowid r) (rowid new))) (is_taken rows new) free in
    elim (value_cmp (rowid r) (rowid new)) as (λ o. IsAscending Apart (Put o new r rows)) [
      | Less ↦ (all_put (Apart r) new rows (untied _ parts.0) up.0, apart_put new rows parts.1 up.1)
      | Equal ↦ (new_apart new rows parts.1, up.1)
      | Greater ↦ (new_apart new (r ∷ rows) free, up)
    ]

abbrev pub Found : Key → List Row → Option (List ℕ)
Found q rows = find key_cmp q (map entry_in rows)

none_here : (b : Bool) (x : List ℕ) (o : Option (List ℕ)) → cond b (Some x) o ≡ None → (b ≡ false) × (o ≡ None)
none_here true x o h = absurd (cc)
none_here false x o h = (refl, h)

abbrev KeysApart : Row → Row → Type 0
KeysApart a b = eq_by_cmp key_cmp (key_in a) (key_in b) ≡ false

-- no row is at the key
absent_off : (q : Key) (rows : List Row) → Found q rows ≡ None → AllByRecursion (λ r. eq_by_cmp key_cmp q (key_in r) ≡ false) rows
absent_off q [] none = tt
absent_off q (r ∷ rows) none = let h = none_here (eq_by_cmp key_cmp q (key_in r)) _ _ none in (h.0, absent_off q rows h.1)

ascending_put : (R : Row → Row → Type 0) (new : Row) (rows : List Row) → AllByRecursion (R new) rows → AllByRecursion (λ r. R r new) rows → IsAscending R rows → IsAscending R (put_row new rows)
ascending_put R new [] before later up = (tt, tt)
ascending_put R new (r ∷ rows) before later up =
    elim (value_cmp (rowid r) (rowid new)) as (λ o. IsAscending R (Put o new r rows)) [
      | Less ↦ (all_put (R r) new rows later.0 up.0, ascending_put R new rows before.1 later.1 up.1)
      | Equal ↦ (before.1, up.1)
      | Greater ↦ (before, up)
    ]

turned_off : (new : Row) (rows : List Row) → AllByRecursion (KeysApart new) rows → AllByRecursion (λ r. KeysApart r new) rows
turned_off new [] all = tt
turned_off new (r ∷ rows) all = (turned (key_in r) (key_in new) ∙ all.0, turned_off new rows all.1)

pub rows_put : (new : Row) (rows : List Row) → is_taken rows new ≡ false → get (content_in rows) (key_in new) ≡ None → IsFormedRow new → AreRows rows → AreRows (put_row new rows)
rows_put new rows free none is are =
    let off = absent_off (key_in new) rows (sym (get-from_entries keys_total _ _) ∙ none) in
    record {
      typed = record { formed = all_put IsFormedRow new rows is are.typed.formed; apart = apart_put new rows free are.typed.apart };
      keys_apart = ascending_put KeysApart new rows off (turned_off new rows off) are.keys_apart;
    }

put_found : (new : Row) (rows : List Row) (q : Key) → is_taken rows new ≡ false → Found (key_in new) rows ≡ None → Found q (put_row new rows) ≡ cond (eq_by_cmp key_cmp q (key_in new)) (Some (bytes (column new 4))) (Found q rows)
put_found new [] q free none = refl
put_found new (r ∷ rows) q free none = go (value_cmp (rowid r) (rowid new)) (or_parts (is_eq (value_cmp (rowid r) (rowid new))) (is_taken rows new) free).0
    (put_found new rows q (or_parts (is_eq (value_cmp (rowid r) (rowid new))) (is_taken rows new) free).1 (none_here (eq_by_cmp key_cmp (key_in new) (key_in r)) _ _ none).1)
  where
    off : (eq_by_cmp key_cmp (key_in new) (key_in r) ≡ false) × (Found (key_in new) rows ≡ None)
    off = none_here (eq_by_cmp key_cmp (key_in new) (key_in r)) _ _ none

    swapped : (a b : Bool) (x y : List ℕ) (o : Option (List ℕ)) → (b ≡ true → a ≡ false) → cond a (Some x) (cond b (Some y) o) ≡ cond b (Some y) (cond a (Some x) o)
    swapped a true x y o h = rw (h refl) refl
    swapped a false x y o h = refl

    go : (o : Ordering) → is_eq o ≡ false → Found q (put_row new rows) ≡ cond (eq_by_cmp key_cmp q (key_in new)) (Some (bytes (column new 4))) (Found q rows) → Found q (Put o new r rows) ≡ cond (eq_by_cmp key_cmp q (key_in new)) (Some (bytes (column new 4))) (cond (eq_by_cmp key_cmp q (key_in r)) (Some (bytes (column r 4))) (Found q rows))
    go Less other later = ap (cond (eq_by_cmp key_cmp q (key_in r)) (Some (bytes (column r 4)))) later
        ∙ swapped (eq_by_cmp key_cmp q (key_in r)) (eq_by_cmp key_cmp q (key_in new)) _ _ _ (λ same. ap (λ k. eq_by_cmp key_cmp k (key_in r)) (exact_keys q (key_in new) (equal_is _ same)) ∙ off.0)
    go Equal other later = absurd (true≢false other)
    go Greater other later = refl

pub put_in : (new : Row) (rows : List Row) → is_taken rows new ≡ false → get (content_in rows) (key_in new) ≡ None → content_in (put_row new rows) ≡ insert (content_in rows) (key_in new) (bytes (column new 4))
put_in new rows free none = same_map keys_total exact_keys _ _ (λ q.
    get-from_entries keys_total _ q ∙ put_found new rows q free (sym (get-from_entries keys_total _ _) ∙ none)
    ∙ ap (cond (eq_by_cmp key_cmp q (key_in new)) (Some (bytes (column new 4)))) (sym (get-from_entries keys_total _ q)) ∙ sym (get-insert keys_total (content_in rows) (key_in new) _ q))
