-- What the query with rowids tells of the table.
use Rattle.std.proofs.Common.{◌≡◌, ◌≢◌, ◌⊎◌, inl, inr, ℕ, suc, zero, ◌+◌, ◌<◌, List, [], ◌∷◌, map, flat_map, length, get_or, false, Ordering, Less, Equal, Greater, arith, refl, sym, ap, subst, subst₂, ◌∙◌}
use Rattle.std.specs.List.{AllByRecursion, IsDistinct}
use Rattle.std.specs.List.Sorted.{IsPermutation, IsStrictlySortedBy}
use Rattle.std.specs.Ordering.{eq_by_cmp, is_eq}
use Rattle.std.specs.Cmp.{eq_by_cmp_equiv}
use Rattle.std.proofs.lemmas.List.Sorted.{IsPermutation-map, IsPermutation-sym, All-permutation}
use Rattle.std.proofs.lemmas.Map.Keys.{IsDistinct-IsPermutation, IsDistinct-from_sorted}
use Rattle.sqlite_value.specs.declared.value.Value.{Value}
use Rattle.sqlite_value.specs.Order.{Row, column, value_cmp}
use Rattle.sqlite_value.proofs.OrderLemmas.{value_cmp_total}
use Rattle.sqlite_trees.specs.Tree.{Trees, rowid, IsAscending}
use Rattle.sqlite_sql.specs.Query.{IsAnswer, Output, output, matches}
use Rattle.session_records.proofs.Means.{numbered}
use Rattle.row_store.proofs.CellLemmas.{one_later}
use Rattle.row_store.proofs.Neighbours.{any_default}
use Rattle.session_records.specs.Stored.{AreTyped, IsFormedRow, HasForm, AreNumbered}

-- a row as the query shows it
abbrev pub shown : Row → Row
shown r = column r 0 ∷ column r 1 ∷ column r 2 ∷ column r 3 ∷ column r 4 ∷ []

each_shown : (rows : List Row) → map (λ (o : Output). o.1) (map (output numbered) (flat_map (λ r. ([] ∷ r ∷ []) ∷ []) rows)) ≡ map shown rows
each_shown [] = refl
each_shown (r ∷ rows) = ap (λ xs. shown r ∷ xs) (each_shown rows)

pub answer_shown : (db : Trees) (rows : List Row) → IsAnswer numbered db [] rows → IsPermutation (map shown (db 0)) rows
answer_shown db rows a =
    let kept : a.kept ≡ map (output numbered) (matches db [] numbered.from ([] ∷ [])) = a.distinct ∙ ap (map (output numbered)) a.grouped in
    subst₂ (λ xs ys. IsPermutation xs ys) (ap (map (λ (o : Output). o.1)) kept ∙ each_shown (db 0)) (sym a.shown) (IsPermutation-map (λ (o : Output). o.1) a.kept a.ordered a.same)

-- ---- the form

formed_of : (r : Row) → HasForm (shown r) → IsFormedRow r
formed_of r h = (h.id.0, (h.kind.0, (h.owner.0, h.place.0)), h.value.0, record { id_is = h.id.1; kind = h.kind.2; byte = h.kind.1; owner = h.owner.1; place = h.place.1; value_is = h.value.1 })

all_formed : (table : List Row) → ((k : ℕ) (d : Row) → k < length (map shown table) → HasForm (get_or (map shown table) k d)) → AllByRecursion IsFormedRow table
all_formed [] all = tt
all_formed (r ∷ table) all = (formed_of r (all 0 r (omega arith)), all_formed table (λ k d low. all (suc k) d (omega (arith, low))))

-- ---- rowids that rise are apart

all_above : (v : Value) (r : Row) (rows : List Row) → value_cmp v (rowid r) ≡ Less → ((k : ℕ) (d : Row) → k + 1 < length (r ∷ rows) → value_cmp (rowid (get_or (r ∷ rows) k d)) (rowid (get_or (r ∷ rows) (k + 1) d)) ≡ Less)
    → AllByRecursion (λ y. value_cmp v y ≡ Less) (map rowid (r ∷ rows))
all_above v r [] low up = (low, tt)
all_above v r (s ∷ rows) low up =
    (low, all_above v s rows (value_cmp_total.trans v (rowid r) (rowid s) low (up 0 r (omega arith))) (λ k d far. subst (λ n. value_cmp (rowid (get_or (s ∷ rows) k d)) (rowid (get_or (r ∷ s ∷ rows) n d)) ≡ Less) (sym (one_later k)) (up (suc k) d (omega (arith, far)))))

rising : (rows : List Row) → ((k : ℕ) (d : Row) → k + 1 < length rows → value_cmp (rowid (get_or rows k d)) (rowid (get_or rows (k + 1) d)) ≡ Less) → IsStrictlySortedBy value_cmp (map rowid rows)
unfolding IsStrictlySortedBy
rising [] up = tt
rising (r ∷ []) up = (tt, tt)
rising (r ∷ s ∷ rows) up =
    let later : (k : ℕ) (d : Row) → k + 1 < length (s ∷ rows) → value_cmp (rowid (get_or (s ∷ rows) k d)) (rowid (get_or (s ∷ rows) (k + 1) d)) ≡ Less
    = λ k d far. subst (λ n. value_cmp (rowid (get_or (s ∷ rows) k d)) (rowid (get_or (r ∷ s ∷ rows) n d)) ≡ Less) (sym (one_later k)) (up (suc k) d (omega (arith, far))) in
    (all_above (rowid r) s rows (up 0 r (omega arith)) later, rising (s ∷ rows) later)

same_ids : (table : List Row) → map rowid (map shown table) ≡ map rowid table
same_ids [] = refl
same_ids (r ∷ table) = ap (λ xs. rowid r ∷ xs) (same_ids table)

untied : (a b : Value) → eq_by_cmp value_cmp a b ≡ false → value_cmp a b ≢ Equal
untied a b off tie = absurd (let e = sym (ap is_eq tie) ∙ off in cc)

each_apart : (v : Row) (table : List Row) → AllByRecursion (λ y. eq_by_cmp value_cmp (rowid v) y ≡ false) (map rowid table) → AllByRecursion (λ r. value_cmp (rowid v) (rowid r) ≢ Equal) table
each_apart v [] all = tt
each_apart v (r ∷ table) all = (untied (rowid v) (rowid r) all.0, each_apart v table all.1)

apart_of : (table : List Row) → IsDistinct (eq_by_cmp value_cmp) (map rowid table) → IsAscending (λ a b. value_cmp (rowid a) (rowid b) ≢ Equal) table
unfolding IsDistinct
apart_of [] d = tt
apart_of (r ∷ table) d = (each_apart r table d.0, apart_of table d.1)

ids_off : (v : Row) (table : List Row) → AllByRecursion (λ r. value_cmp (rowid v) (rowid r) ≢ Equal) table → AllByRecursion (λ y. eq_by_cmp value_cmp (rowid v) y ≡ false) (map rowid table)
ids_off v [] all = tt
ids_off v (r ∷ table) all = (off (value_cmp (rowid v) (rowid r)) all.0, ids_off v table all.1)
  where
    off : (o : Ordering) → o ≢ Equal → is_eq o ≡ false
    off Less h = refl
    off Equal h = absurd (h refl)
    off Greater h = refl

pub apart_distinct : (table : List Row) → IsAscending (λ a b. value_cmp (rowid a) (rowid b) ≢ Equal) table → IsDistinct (eq_by_cmp value_cmp) (map rowid table)
unfolding IsDistinct
apart_distinct [] up = tt
apart_distinct (r ∷ table) up = (ids_off r table up.0, apart_distinct table up.1)

one_each : {X : Type 0} (f : List Row → X) (rows : List Row) → map f (flat_map (λ r. ([] ∷ r ∷ []) ∷ []) rows) ≡ map (λ r. f ([] ∷ r ∷ [])) rows
one_each f [] = refl
one_each f (r ∷ rows) = ap (λ xs. f ([] ∷ r ∷ []) ∷ xs) (one_each f rows)

pub all_numbered : (db : Trees) (rows : List Row) (a : IsAnswer numbered db [] rows) → a.kept ≡ map (λ r. output numbered ([] ∷ r ∷ [])) (db 0)
all_numbered db rows a = a.distinct ∙ ap (map (output numbered)) a.grouped ∙ one_each (output numbered) (db 0)

pub rows_of : (db : Trees) (rows : List Row) → IsAnswer numbered db [] rows → AreNumbered rows → AreTyped (db 0)
rows_of db rows a are =
    let moved = answer_shown db rows a in
    let back = IsPermutation-sym (map shown (db 0)) rows moved in
    let ids : IsDistinct (eq_by_cmp value_cmp) (map rowid (map shown (db 0))) = IsDistinct-IsPermutation (eq_by_cmp value_cmp) (eq_by_cmp_equiv value_cmp_total).symm (map rowid rows) (map rowid (map shown (db 0)))
    (IsPermutation-map rowid rows (map shown (db 0)) back) (IsDistinct-from_sorted value_cmp (map rowid rows) (rising rows are.rising)) in
    record {
      formed = all_formed (db 0) (All-permutation HasForm rows (map shown (db 0)) back are.formed);
      apart = apart_of (db 0) (subst (IsDistinct (eq_by_cmp value_cmp)) (same_ids (db 0)) ids);
    }

-- ---- the loop over the rows

less_or : (k i : ℕ) → k < i + 1 → (k < i) ⊎ (k ≡ i)
less_or zero zero low = inr refl
less_or zero (suc i) low = inl (omega arith)
less_or (suc k) zero low = absurd (omega (arith, low))
less_or (suc k) (suc i) low = elim (less_or k i (omega (arith, low))) [ inl less ↦ inl (omega (arith, less)) | inr same ↦ inr (ap suc same) ]

pub next_formed : (rows : List Row) (i : ℕ) (x : Row) → i < length rows → x ≡ get_or rows i x → HasForm x → ((k : ℕ) (d : Row) → k < i → HasForm (get_or rows k d)) → (k : ℕ) (d : Row) → k < i + 1 → HasForm (get_or rows k d)
next_formed rows i x low is has all k d less = elim (less_or k i less) [
  | inl before ↦ all k d before
  | inr same ↦ subst HasForm (is ∙ any_default rows i x d low ∙ ap (λ n. get_or rows n d) (sym same)) has
]
