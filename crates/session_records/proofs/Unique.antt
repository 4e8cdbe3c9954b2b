-- At most one row is at a key, and where one is, no other row can be put in at it.
use Rattle.std.proofs.Common.{◌≡◌, ◌≢◌, ◌⊎◌, inl, inr, ℕ, ℤ, pos, List, [], ◌∷◌, filter, Bool, true, false, not, ◌&&◌, cond, Some, None, Ordering, Less, Equal, Greater, refl, sym, ap, subst, ◌∙◌, true≢false}
use Rattle.std.specs.List.{AllByRecursion}
use Rattle.std.specs.Ordering.{is_eq, is_ne, eq_by_cmp}
use Rattle.std.specs.FinMap.{get, get-from_entries}
use Rattle.std.proofs.lemmas.Bool.{cases_Bool, not-true, or_parts}
use Rattle.sqlite_value.specs.declared.value.Value.TheVariants.{Int, Blob}
use Rattle.sqlite_value.specs.Keys.{plain, first_key}
use Rattle.sqlite_value.specs.Order.{Row, value_cmp}
use Rattle.sqlite_trees.specs.Tree.{Trees, rowid, put_row, IsAscending}
use Rattle.sqlite_sql.specs.Ops.{binary, is_true, from_truth}
use Rattle.sqlite_schema.specs.declared.schema.Constraint.TheVariants.{Unique, ForeignKey}
use Rattle.sqlite_schema.specs.Rules.{Fits, Keeps, agree, clashes, differ, guards}
use Rattle.sqlite_rules.specs.Edit.{is_taken}
use Rattle.sqlite_rules.specs.Lists.{Has}
use Rattle.sqlite_rules.proofs.ListLemmas.{test_has}
use Rattle.sqlite_rules.proofs.RuleLemmas.{keeps_at}
use Rattle.row_store.specs.Rows.{Key, key_cmp}
use Rattle.row_store.proofs.Keys.{keys_total, exact_keys, equal_is}
use Rattle.session_records.specs.Stored.{IsFormedRow, AreRows, content_in, key_in}
use Rattle.session_records.specs.Table.{rows_table, rows_index, rows_schema, listed_schema}
use Rattle.session_records.proofs.Means.{schema_is}
use Rattle.session_records.proofs.Lists.{hit, test_is, each, any_has, Found, Put}

-- a row as the table has it
abbrev pub stored : ℤ → Key → List ℕ → Row
stored id key value = Int id ∷ Int (pos key.0) ∷ Blob key.1.0 ∷ Blob key.1.1 ∷ Blob value ∷ []

-- ---- at most one row is at a key

none_hit : (key : Key) (r : Row) (rows : List Row) → hit key r ≡ true → AllByRecursion (λ s. eq_by_cmp key_cmp (key_in r) (key_in s) ≡ false) rows → filter (hit key) rows ≡ []
none_hit key r [] at off = refl
none_hit key r (s ∷ rows) at off =
    let here : hit key s ≡ false = ap (λ k. eq_by_cmp key_cmp k (key_in s)) (exact_keys key (key_in r) (equal_is _ at)) ∙ off.0 in
    rw here (none_hit key r rows at off.1)

abbrev pub OneHit : Key → List Row → Type 0
OneHit key rows = (filter (hit key) rows ≡ []) ⊎ ((r : Row) × Has rows r × (hit key r ≡ true) × (filter (hit key) rows ≡ r ∷ []))

pub one_hit : (key : Key) (rows : List Row) → IsAscending (λ a b. eq_by_cmp key_cmp (key_in a) (key_in b) ≡ false) rows → OneHit key rows
one_hit key [] up = inl refl
one_hit key (r ∷ rows) up = elim (cases_Bool (hit key r)) [
  | inl at ↦ inr (r, inl refl, at, rw at (ap (λ xs. r ∷ xs) (none_hit key r rows at up.0)))
  | inr off ↦ elim (one_hit key rows up.1) [
    | inl none ↦ inl (rw off none)
    | inr found ↦ inr (found.0, inr found.1, found.2, rw off found.3)
  ]
]

pub has_filter : (key : Key) (rows : List Row) (s : Row) → Has rows s → hit key s ≡ true → Has (filter (hit key) rows) s
has_filter key [] s h at = absurd h
has_filter key (r ∷ rows) s (inl same) at = rw (← same, at) (inl refl)
has_filter key (r ∷ rows) s (inr later) at = elim (hit key r) as (λ b. Has (cond {A = List Row} b (r ∷ filter (hit key) rows) (filter (hit key) rows)) s) [
  | true ↦ inr (has_filter key rows s later at)
  | false ↦ has_filter key rows s later at
]

-- no row at the key
pub none_found : (key : Key) (rows : List Row) → filter (hit key) rows ≡ [] → Found key rows ≡ None
none_found key [] none = refl
none_found key (r ∷ rows) none = elim (cases_Bool (hit key r)) [
  | inl at ↦ absurd (let e = rw at at none in cc)
  | inr off ↦ rw off (none_found key rows (rw off at none))
]

-- ---- a row that was put in is at no row's key

put_there : (new : Row) (rows : List Row) → is_taken rows new ≡ false → Has (put_row new rows) new
put_there new [] free = inl refl
put_there new (r ∷ rows) free =
    elim (value_cmp (rowid r) (rowid new)) as (λ o. Has (Put o new r rows) new) [
      | Less ↦ inr (put_there new rows (or_parts (is_eq (value_cmp (rowid r) (rowid new))) (is_taken rows new) free).1)
      | Equal ↦ inl refl
      | Greater ↦ inl refl
    ]

put_stays : (new : Row) (rows : List Row) (s : Row) → is_taken rows new ≡ false → Has rows s → Has (put_row new rows) s
put_stays new [] s free h = absurd h
put_stays new (r ∷ rows) s free h =
    let parts = or_parts (is_eq (value_cmp (rowid r) (rowid new))) (is_taken rows new) free in
    go (value_cmp (rowid r) (rowid new)) parts.0 h (put_stays new rows s parts.1)
  where
    go : (o : Ordering) → is_eq o ≡ false → Has (r ∷ rows) s → (Has rows s → Has (put_row new rows) s) → Has (Put o new r rows) s
    go Less off (inl same) on = inl same
    go Less off (inr later) on = inr (on later)
    go Equal off at on = absurd (true≢false off)
    go Greater off at on = inr at

differs : (o : Ordering) → is_eq o ≡ false → is_true (from_truth (Some (is_ne o))) ≡ true
differs Less off = refl
differs Equal off = absurd (true≢false off)
differs Greater off = refl

apart_ids : (a b : ℤ) → is_eq (value_cmp (Int a) (Int b)) ≡ false → differ (Int a) (Int b) ≡ true
unfolding binary
apart_ids a b off = differs (value_cmp (Int a) (Int b)) off

agree_is : (id : ℤ) (key : Key) (value : List ℕ) (r : Row) → IsFormedRow r → agree plain (1 ∷ 2 ∷ 3 ∷ []) r (1 ∷ 2 ∷ 3 ∷ []) (stored id key value) ≡ hit key r
unfolding first_key
agree_is id key value r is = test_is key r is

not_taken : (rows : List Row) (new r : Row) → is_taken rows new ≡ false → Has rows r → is_eq (value_cmp (rowid r) (rowid new)) ≡ false
not_taken rows new r free there = elim (cases_Bool (is_eq (value_cmp (rowid r) (rowid new)))) [
  | inl tie ↦ absurd (true≢false (sym (any_has (λ x. is_eq (value_cmp (rowid x) (rowid new))) rows r there tie) ∙ free))
  | inr apart ↦ apart
]

both : (a b : Bool) → a ≡ true → b ≡ true → (a && b) ≡ true
both a b x y = rw (x, y) refl

clash : (rows : List Row) (id : ℤ) (key : Key) (value : List ℕ) (r : Row) → IsFormedRow r → is_taken rows (stored id key value) ≡ false → Has rows r → hit key r ≡ true
    → clashes plain (1 ∷ 2 ∷ 3 ∷ []) (put_row (stored id key value) rows) (stored id key value) ≡ true
clash rows id key value r is free there at =
    let new = stored id key value in
    let own : rowid r ≡ Int is.0 = is.3.id_is in
    any_has (λ s. agree plain (1 ∷ 2 ∷ 3 ∷ []) s (1 ∷ 2 ∷ 3 ∷ []) new && differ (rowid s) (rowid new)) (put_row new rows) r (put_stays new rows r free there)
    (both _ _ (agree_is id key value r is ∙ at) (ap (λ v. differ v (Int id)) own ∙ apart_ids is.0 id (ap (λ v. is_eq (value_cmp v (Int id))) (sym own) ∙ not_taken rows new r free there)))

not_foreign : Unique ≢ ForeignKey
not_foreign e = cc

-- the table keeps its key, so no row was there before
pub free_key : (rows : List Row) (next : Trees) (id : ℤ) (key : Key) (value : List ℕ) → AreRows rows → is_taken rows (stored id key value) ≡ false → next 0 ≡ put_row (stored id key value) rows → Fits rows_schema next
    → get (content_in rows) key ≡ None
free_key rows next id key value are free put fits =
    let new = stored id key value in
    let listed : Keeps Unique listed_schema next = subst (λ s. Keeps Unique s next) schema_is (fits.rules Unique not_foreign) in
    let passes = keeps_at Unique listed_schema next rows_table new listed (inl refl) (subst (λ all. Has all new) (sym put) (put_there new rows free)) in
    let alone : clashes plain (1 ∷ 2 ∷ 3 ∷ []) (next 0) new ≡ false = not-true _ (test_has (λ i. not (guards i rows_table && clashes i.order i.columns (next 0) new)) listed_schema.indexes rows_index passes (inl refl)) in
    elim (one_hit key rows are.keys_apart) [
      | inl none ↦ get-from_entries keys_total _ key ∙ none_found key rows none
      | inr it ↦ absurd (true≢false (sym (clash rows id key value it.0 (each IsFormedRow rows it.0 are.typed.formed it.1) free it.1 it.2) ∙ ap (λ all. clashes plain (1 ∷ 2 ∷ 3 ∷ []) all new) (sym put) ∙ alone))
    ]
