-- What the order of a query tells of the rows that it shows.
use Rattle.std.proofs.Common.{◌≡◌, inr, IsTrue, ℕ, zero, suc, pos, ◌+◌, ◌<◌, length, List, [], ◌∷◌, map, get_or, Bool, false, Ordering, Less, Equal, Greater, T, arith, refl, sym, ap, subst, ◌∙◌}
use Rattle.std.specs.List.{All, AllByRecursion, IsDistinct}
use Rattle.std.specs.List.Sorted.{IsPermutation}
use Rattle.std.specs.Ordering.{is_lt, is_eq, eq_by_cmp, nat_cmp, int_cmp, ordering_then, ordering_reverse}
use Rattle.std.specs.Cmp.Lexicographic.{slice_cmp}
use Rattle.std.specs.Cmp.{IsTotalOrder, eq_by_cmp_equiv}
use Rattle.std.specs.FinMap.{is_sorted}
use Rattle.std.proofs.lemmas.Int.{ints}
use Rattle.std.proofs.lemmas.Bool.Decides.{nat_tests}
use Rattle.std.proofs.lemmas.List.{length-map}
use Rattle.std.proofs.lemmas.List.Elements.{All-from_recursion}
use Rattle.std.proofs.lemmas.List.Sorted.{IsPermutation-map, IsPermutation-sym, All-permutation}
use Rattle.std.proofs.lemmas.Map.Keys.{IsDistinct-IsPermutation}
use Rattle.sqlite_value.specs.declared.value.Value.{Value}
use Rattle.sqlite_value.specs.Order.{Row, value_cmp}
use Rattle.sqlite_value.proofs.OrderLemmas.{value_cmp_total, value_cmp-Int, value_cmp-Blob, then-Equal}
use Rattle.sqlite_trees.specs.Tree.{Trees, rowid, IsAscending}
use Rattle.sqlite_sql.specs.Query.{IsAnswer, Output, output, output_cmp}
use Rattle.sqlite_sql.specs.Program.{overlay}
use Rattle.sqlite.specs.Effect.{Database}
use Rattle.sqlite.specs.State.{State, Shown}
use Rattle.sqlite.proofs.Callers.{reads_as}
use Rattle.std.specs.Map.{keys_of}
use Rattle.session_records.specs.Connections.{Adopts, IsSameAs}
use Rattle.row_store.specs.Rows.{Key, key_cmp}
use Rattle.session_records.specs.Table.{rows_schema}
use Rattle.session_records.specs.Stored.{IsFormedRow, IsShown, HasForm, HaveIds, AreNumbered, AreRows, AreTyped, IsFormed, held, key_in, entry_in, entry_shown}
use Rattle.session_records.proofs.Means.{all_text, all_is, all_plain, all, numbered_text, numbered_is, numbered_plain, numbered}
use Rattle.row_store.proofs.Keys.{keys_total}
use Rattle.row_store.proofs.CellLemmas.{one_later}
use Rattle.row_store.proofs.Sorted.{rising_sorted, sorted_apart}
use Rattle.session_records.proofs.Adopts.{shown, answer_shown, apart_distinct, all_numbered}
use Rattle.session_records.proofs.Loads.{same_listed, all_kept}

-- ---- not below and apart is above

above_of : (a b : Ordering) → a ≡ ordering_reverse b → is_lt b ≡ false → is_eq a ≡ false → a ≡ Less
above_of Less b turn low apart = refl
above_of Equal b turn low apart = absurd cc
above_of Greater Less turn low apart = absurd cc
above_of Greater Equal turn low apart = absurd (let e = turn in cc)
above_of Greater Greater turn low apart = absurd (let e = turn in cc)

pub above : {K : Type 0} (R : K → K → Ordering) → IsTotalOrder R → (x y : K) → is_lt (R y x) ≡ false → eq_by_cmp R x y ≡ false → R x y ≡ Less
above R total x y low apart = above_of (R x y) (R y x) (total.antisymm x y) low apart

abbrev second : Output → Row
second o = o.1

-- ---- neighbours

pub distinct_next : {X K : Type 0} (e : K → K → Bool) (f : X → K) (xs : List X) → IsDistinct e (map f xs) → (k : ℕ) (d : X) → k + 1 < length xs → e (f (get_or xs k d)) (f (get_or xs (k + 1) d)) ≡ false
unfolding IsDistinct
distinct_next e f [] apart k d low = absurd (omega (arith, low))
distinct_next e f (x ∷ []) apart k d low = absurd (omega (arith, low))
distinct_next e f (x ∷ y ∷ xs) apart zero d low = apart.0.0
distinct_next e f (x ∷ y ∷ xs) apart (suc k) d low =
    subst (λ n. e (f (get_or (y ∷ xs) k d)) (f (get_or (x ∷ y ∷ xs) n d)) ≡ false) (one_later k) (distinct_next e f (y ∷ xs) apart.1 k d (omega (arith, low)))

pub get_or-map : {X Y : Type 0} (f : X → Y) (xs : List X) (k : ℕ) (d : X) → get_or (map f xs) k (f d) ≡ f (get_or xs k d)
get_or-map f [] k d = refl
get_or-map f (x ∷ xs) zero d = refl
get_or-map f (x ∷ xs) (suc k) d = get_or-map f xs k d

-- ---- the order by keys is that of keys

naturals : (m n : ℕ) → int_cmp (pos m) (pos n) ≡ nat_cmp m n
naturals m n = grind (arith, ints, nat_tests)

same_order : (r s : Row) → IsFormedRow r → IsFormedRow s → output_cmp all (output all ([] ∷ r ∷ [])) (output all ([] ∷ s ∷ [])) ≡ key_cmp (key_in r) (key_in s)
same_order r s (id, k, v, is) (jd, l, w, at) =
    rw (is.kind, is.owner, is.place, at.kind, at.owner, at.place, value_cmp-Int (pos k.0) (pos l.0), naturals k.0 l.0, value_cmp-Blob k.1.0 l.1.0, value_cmp-Blob k.1.1 l.1.1)
    (ap (λ o. ordering_then (nat_cmp k.0 l.0) (ordering_then (slice_cmp nat_cmp k.1.0 l.1.0) o)) (then-Equal _))

-- an output of the query of all rows
abbrev Comes : Output → Type 0
Comes o = (r : Row) × IsFormedRow r × (o ≡ output all ([] ∷ r ∷ []))

each_comes : (rows : List Row) → AllByRecursion IsFormedRow rows → AllByRecursion Comes (map (λ r. output all ([] ∷ r ∷ [])) rows)
each_comes [] all = tt
each_comes (r ∷ rows) all = ((r, all.0, refl), each_comes rows all.1)

abbrev key_shown : Output → Key
key_shown o = (entry_shown o.1).0

come_order : (x y : Output) → Comes x → Comes y → output_cmp all x y ≡ key_cmp (key_shown x) (key_shown y)
come_order x y (r, is, from) (s, at, to) = rw (from, to) (same_order r s is at)

no_key_again : (r : Row) (table : List Row) → AllByRecursion (λ s. eq_by_cmp key_cmp (key_in r) (key_in s) ≡ false) table → AllByRecursion (λ k. eq_by_cmp key_cmp (key_in r) k ≡ false) (map key_in table)
no_key_again r [] all = tt
no_key_again r (s ∷ table) all = (all.0, no_key_again r table all.1)

keys_distinct : (table : List Row) → IsAscending (λ r s. eq_by_cmp key_cmp (key_in r) (key_in s) ≡ false) table → IsDistinct (eq_by_cmp key_cmp) (map key_in table)
unfolding IsDistinct
keys_distinct [] up = tt
keys_distinct (r ∷ table) up = (no_key_again r table up.0, keys_distinct table up.1)

module _ (db : Trees) (rows : List Row) (are : AreRows (db 0)) (a : IsAnswer all db [] rows) where
  come : All Comes a.ordered
  come = All-permutation Comes a.kept a.ordered a.same (All-from_recursion Comes a.kept (subst (AllByRecursion Comes) (sym (all_kept db rows a)) (each_comes (db 0) are.typed.formed)))

  keys_kept : map key_shown a.kept ≡ map key_in (db 0)
  keys_kept = ap (map key_shown) (all_kept db rows a) ∙ each_key (db 0)
    where
      each_key : (table : List Row) → map key_shown (map (λ r. output all ([] ∷ r ∷ [])) table) ≡ map key_in table
      each_key [] = refl
      each_key (r ∷ table) = ap (λ ks. key_in r ∷ ks) (each_key table)

  apart : IsDistinct (eq_by_cmp key_cmp) (map key_shown a.ordered)
  apart = IsDistinct-IsPermutation (eq_by_cmp key_cmp) (eq_by_cmp_equiv keys_total).symm (map key_shown a.kept) (map key_shown a.ordered) (IsPermutation-map key_shown a.kept a.ordered a.same)
      (subst (IsDistinct (eq_by_cmp key_cmp)) (sym keys_kept) (keys_distinct (db 0) are.keys_apart))

  shown_is : map entry_shown rows ≡ map (λ (o : Output). entry_shown o.1) a.ordered
  shown_is = ap (map entry_shown) a.shown ∙ sym (same_listed a.ordered)

  pub keys_rise : T (is_sorted key_cmp (map entry_shown rows))
  keys_rise = subst (λ es. T (is_sorted key_cmp es)) (sym shown_is) (rising_sorted (λ (o : Output). entry_shown o.1) a.ordered (λ k d low.
      let x = get_or a.ordered k d in
      let y = get_or a.ordered (k + 1) d in
      above key_cmp keys_total (key_shown x) (key_shown y)
      (ap is_lt (sym (come_order y x (come (k + 1) d low) (come k d (omega (arith, low))))) ∙ a.sorted k d (omega arith) low)
      (distinct_next (eq_by_cmp key_cmp) key_shown a.ordered apart k d low)))

  pub all_shown : All IsShown rows
  all_shown = subst (All IsShown) (sym a.shown) (All-permutation IsShown (map second a.kept) (map second a.ordered) (IsPermutation-map second a.kept a.ordered a.same)
      (All-from_recursion IsShown (map second a.kept) (subst (λ os. AllByRecursion IsShown (map second os)) (sym (all_kept db rows a)) (each_shown (db 0) are.typed.formed))))
    where
      shown_of : (r : Row) → IsFormedRow r → IsShown (second (output all ([] ∷ r ∷ [])))
      shown_of r (id, k, v, is) = record { kind = (k.0, is.byte, is.kind); owner = (k.1.0, is.owner); place = (k.1.1, is.place); value = (v, is.value_is) }

      each_shown : (table : List Row) → AllByRecursion IsFormedRow table → AllByRecursion IsShown (map second (map (λ r. output all ([] ∷ r ∷ [])) table))
      each_shown [] all = tt
      each_shown (r ∷ table) all = (shown_of r all.0, each_shown table all.1)

-- ---- the order by rowids is that of rowids

abbrev Numbers : Output → Type 0
Numbers o = o.0 ≡ rowid o.1 ∷ []

each_numbers : (rows : List Row) → AllByRecursion Numbers (map (λ r. output numbered ([] ∷ r ∷ [])) rows)
each_numbers [] = tt
each_numbers (r ∷ rows) = (refl, each_numbers rows)

abbrev id_shown : Output → Value
id_shown o = rowid o.1

number_order : (x y : Output) → Numbers x → Numbers y → output_cmp numbered x y ≡ value_cmp (id_shown x) (id_shown y)
number_order x y is at = rw (is, at) (then-Equal _)

module _ (db : Trees) (rows : List Row) (are : AreTyped (db 0)) (a : IsAnswer numbered db [] rows) where
  number : All Numbers a.ordered
  number = All-permutation Numbers a.kept a.ordered a.same (All-from_recursion Numbers a.kept (subst (AllByRecursion Numbers) (sym (all_numbered db rows a)) (each_numbers (db 0))))

  ids_kept : map id_shown a.kept ≡ map rowid (db 0)
  ids_kept = ap (map id_shown) (all_numbered db rows a) ∙ each_id (db 0)
    where
      each_id : (table : List Row) → map id_shown (map (λ r. output numbered ([] ∷ r ∷ [])) table) ≡ map rowid table
      each_id [] = refl
      each_id (r ∷ table) = ap (λ ids. rowid r ∷ ids) (each_id table)

  ids_apart : IsDistinct (eq_by_cmp value_cmp) (map id_shown a.ordered)
  ids_apart = IsDistinct-IsPermutation (eq_by_cmp value_cmp) (eq_by_cmp_equiv value_cmp_total).symm (map id_shown a.kept) (map id_shown a.ordered) (IsPermutation-map id_shown a.kept a.ordered a.same)
      (subst (IsDistinct (eq_by_cmp value_cmp)) (sym ids_kept) (apart_distinct (db 0) are.apart))

  have_ids : HaveIds (map second a.ordered)
  have_ids k d low =
      let low' : k + 1 < length a.ordered = omega (arith, length-map a.ordered second, low) in
      let x = get_or a.ordered k ([], d) in
      let y = get_or a.ordered (k + 1) ([], d) in
      rw (get_or-map second a.ordered k ([], d), get_or-map second a.ordered (k + 1) ([], d))
      (above value_cmp value_cmp_total (id_shown x) (id_shown y)
      (ap is_lt (sym (number_order y x (number (k + 1) ([], d) low') (number k ([], d) (omega (arith, low'))))) ∙ a.sorted k ([], d) (omega arith) low')
      (distinct_next (eq_by_cmp value_cmp) id_shown a.ordered ids_apart k ([], d) low'))

  pub are_numbered : AreNumbered rows
  are_numbered = record {
    formed = All-permutation HasForm (map shown (db 0)) rows (answer_shown db rows a) (All-from_recursion HasForm (map shown (db 0)) (each_form (db 0) are.formed));
    rising = subst HaveIds (sym a.shown) have_ids;
  }
    where
      form_of : (r : Row) → IsFormedRow r → HasForm (shown r)
      form_of r (id, k, v, is) = record { id = (id, is.id_is); kind = (k.0, is.byte, is.kind); owner = (k.1.0, is.owner); place = (k.1.1, is.place); value = (v, is.value_is) }

      each_form : (table : List Row) → AllByRecursion IsFormedRow table → AllByRecursion HasForm (map shown table)
      each_form [] all = tt
      each_form (r ∷ table) all = (form_of r all.0, each_form table all.1)

-- ---- of what the texts show

pub shown_ordered : (old new : State) (rows : List Row) → IsFormed old.now → Shown all_text [] old new rows → All IsShown rows × T (is_sorted key_cmp (map entry_shown rows))
shown_ordered old new rows is h =
    let read = reads_as all_text [] old new rows_schema is.schema _ all_is.0 all_plain all_is.1 rows h in
    let answer = read.answer _ in
    (all_shown (overlay old.now.trees []) rows is.rows answer, keys_rise (overlay old.now.trees []) rows is.rows answer)

pub shown_numbered : (old new : State) (rows : List Row) → old.now.schema ≡ rows_schema → Shown numbered_text [] old new rows → AreTyped (old.now.trees 0) → AreNumbered rows
shown_numbered old new rows has h are =
    let read = reads_as numbered_text [] old new rows_schema has _ numbered_is.0 numbered_plain numbered_is.1 rows h in
    are_numbered (overlay old.now.trees []) rows are (read.answer _)

-- ---- a table whose keys rise in some order has no key twice

each_off : (r : Row) (table : List Row) → AllByRecursion (λ k. eq_by_cmp key_cmp (key_in r) k ≡ false) (keys_of (map entry_in table)) → AllByRecursion (λ s. eq_by_cmp key_cmp (key_in r) (key_in s) ≡ false) table
each_off r [] all = tt
each_off r (s ∷ table) all = (all.0, each_off r table all.1)

distinct_apart : (table : List Row) → IsDistinct (eq_by_cmp key_cmp) (keys_of (map entry_in table)) → IsAscending (λ r s. eq_by_cmp key_cmp (key_in r) (key_in s) ≡ false) table
unfolding IsDistinct
distinct_apart [] d = tt
distinct_apart (r ∷ table) d = (each_off r table d.0, distinct_apart table d.1)

pub apart_of_sorted : (table : List Row) (es : List (Key × List ℕ)) → IsPermutation (map entry_in table) es → T (is_sorted key_cmp es) → IsAscending (λ r s. eq_by_cmp key_cmp (key_in r) (key_in s) ≡ false) table
apart_of_sorted table es moved up = distinct_apart table (IsDistinct-IsPermutation (eq_by_cmp key_cmp) (eq_by_cmp_equiv keys_total).symm (keys_of es) (keys_of (map entry_in table))
    (IsPermutation-map (λ (e : Key × List ℕ). e.0) es (map entry_in table) (IsPermutation-sym (map entry_in table) es moved)) (sorted_apart es up))

-- ---- a table that is found in the form

pub found_formed : (old mid new : State) → old.now.schema ≡ rows_schema → (IsTrue old.is_open → old.now ≡ old.committed) → AreTyped (old.now.trees 0) → IsSameAs old mid → (es : List (Key × List ℕ))
    → IsPermutation (map entry_in (mid.now.trees 0)) es → T (is_sorted key_cmp es) → IsSameAs mid new → IsTrue new.is_open × IsFormed new.now × (new.committed ≡ new.now) × Adopts old new
found_formed old mid new has settled typed one es moved up two =
    let now : new.now ≡ old.now = two.now ∙ one.now in
    let committed : new.committed ≡ old.now = two.committed ∙ one.committed ∙ sym (settled one.was_open) in
    let formed : IsFormed old.now = record { schema = has; rows = record { typed = typed; keys_apart = apart_of_sorted (old.now.trees 0) es (subst (λ (d : Database). IsPermutation (map entry_in (d.trees 0)) es) one.now moved) up } } in
    (two.is_open, subst IsFormed (sym now) formed, committed ∙ sym now, inr (formed, ap held committed))
