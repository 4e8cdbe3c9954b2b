-- Greatest places, and the rows that may be there.
use Rattle.std.proofs.Common.{◌≡◌, ◌⊎◌, inl, inr, ◌<◌, ◌+◌, ◌&&◌, ℕ, length, Bool, true, false, not, cond, List, [], ◌∷◌, ◌++◌, Option, Some, None, Vec, Ordering, Less, Equal, Greater, T, map, take, get_or, refl, sym, ap, subst, ◌∙◌}
use Rattle.std.specs.Cmp.{tied_itself}
use Rattle.std.specs.Cmp.Lexicographic.{slice_cmp, nat_list_cmp_total}
use Rattle.std.specs.FinMap.{entries, find, get, get-entries, same_map}
use Rattle.std.specs.FinMap.Entries.{below_all}
use Rattle.std.specs.List.{AllByRecursion}
use Rattle.std.specs.Ordering.{is_lt, is_eq, nat_cmp}
use Rattle.std.specs.declared.alloc.Global.{Global}
use Rattle.std.proofs.lemmas.Bool.{cases_Bool}
use Rattle.std.proofs.lemmas.List.{take_more}
use Rattle.row_store.specs.declared.memory.RowKey.{RowKey}
use Rattle.row_store.specs.declared.row.Change.{Change}
use Rattle.row_store.specs.declared.row.Change.TheVariants.{Put, Remove}
use Rattle.row_store.specs.declared.row.Row.{Row}
use Rattle.row_store.specs.Cells.{Cell, cell_at, plain_key}
use Rattle.row_store.specs.Rows.{Key, Content, entry_of, key_cmp, key_of, after_all}
use Rattle.row_store.proofs.CellLemmas.{Sets, at_key, same_key, ties}
use Rattle.row_store.proofs.Keys.{keys_total, exact_keys}
use Rattle.row_store.specs.Gathered.{AreOnce}
use Rattle.row_store.specs.Leading.{key_in, value_in, left_by, left_by_one, left_or, or_else}
use Rattle.row_store.proofs.Leaving.{changes_leave, second_is_last}
use Rattle.row_journal.specs.Journal.{is_other, others}
use Rattle.row_journal.proofs.JournalLaws.{get_other}
use Rattle.row_journal.specs.Tops.{Allows, AllowsRow, Covers, Grows, IsIdle, IsNumbered, Leaves, Tops, is_within, may_have, shelf}

-- ---- a greater place

less : (o : Ordering) → is_lt o ≡ true → o ≡ Less
less Less h = refl
less Equal h = absurd cc
less Greater h = absurd cc

not_true : (b : Bool) → not b ≡ true → b ≡ false
not_true true h = absurd cc
not_true false h = refl

not_false : (b : Bool) → not b ≡ false → b ≡ true
not_false true h = refl
not_false false h = absurd cc

-- what is within a place is within a greater one
higher : (old new place : List ℕ) → is_lt (slice_cmp nat_cmp old new) ≡ true → is_lt (slice_cmp nat_cmp old place) ≡ false → not (is_lt (slice_cmp nat_cmp new place)) ≡ true
higher old new place above within = elim (cases_Bool (is_lt (slice_cmp nat_cmp new place))) [
  | inl less_ ↦ absurd (let t : slice_cmp nat_cmp old place ≡ Less = nat_list_cmp_total.trans old new place (less _ above) (less _ less_) in
      let z : true ≡ false = sym (ap is_lt t) ∙ within in cc)
  | inr more ↦ ap not more
]

within_more : (o : Option Cell) (top : Vec ℕ Global) (place : List ℕ) → is_within o top.items ≡ false → is_within o place ≡ true → not (is_lt (slice_cmp nat_cmp top.items place)) ≡ true
within_more None top place above within = absurd cc
within_more (Some None) top place above within = absurd cc
within_more (Some (Some old)) top place above within = higher old.items top.items place (not_false _ above) (not_true _ within)

itself_within : (place : List ℕ) → not (is_lt (slice_cmp nat_cmp place place)) ≡ true
itself_within place = elim (cases_Bool (is_lt (slice_cmp nat_cmp place place))) [
  | inl less_ ↦ absurd (let z : Less ≡ Equal = sym (less _ less_) ∙ tied place in cc)
  | inr more ↦ ap not more
]
  where
    tied : (xs : List ℕ) → slice_cmp nat_cmp xs xs ≡ Equal
    tied xs = tied_itself nat_list_cmp_total xs

-- a greatest place that is put where the place is above the one before it
pub raised : (old new : Tops) (own : RowKey) (top : Vec ℕ Global) (kind : ℕ) (owner : List ℕ) → plain_key own ≡ (kind, (owner, [])) → Sets old new (plain_key own) (Some (Some top))
    → is_within (cell_at old (plain_key own)) top.items ≡ false → Grows old new
raised old new own top kind owner is sets above q within = elim (cases_Bool (same_key (plain_key own) (shelf q))) [
  | inl tie ↦ ap (λ o. is_within o q.1.1) (at_key old new own (Some (Some top)) sets (shelf q) ∙ ap (λ b. cond b (Some (Some top)) (cell_at old (shelf q))) tie)
      ∙ within_more (cell_at old (shelf q)) top q.1.1 (ap (λ k. is_within (cell_at old k) top.items) (sym (ties (plain_key own) (shelf q) tie)) ∙ above) within
  | inr other ↦ ap (λ o. is_within o q.1.1) (at_key old new own (Some (Some top)) sets (shelf q) ∙ ap (λ b. cond b (Some (Some top)) (cell_at old (shelf q))) other) ∙ within
]

pub raised_there : (old new : Tops) (own : RowKey) (top : Vec ℕ Global) (kind : ℕ) (owner place : List ℕ) → plain_key own ≡ (kind, (owner, [])) → top.items ≡ place
    → Sets old new (plain_key own) (Some (Some top)) → may_have new (kind, (owner, place)) ≡ true
raised_there old new own top kind owner place is items sets =
    ap (λ o. is_within o place) (at_key old new own (Some (Some top)) sets (kind, (owner, [])) ∙ ap (λ b. cond b (Some (Some top)) (cell_at old (kind, (owner, [])))) here)
    ∙ ap (λ t. not (is_lt (slice_cmp nat_cmp t place))) items ∙ itself_within place
  where
    here : same_key (plain_key own) (kind, (owner, [])) ≡ true
    here = ap (λ k. same_key (plain_key own) k) (sym is) ∙ ap is_eq (tied_itself keys_total (plain_key own))

-- ---- many

pub grows_on : (a b c : Tops) → Grows a b → Grows b c → Grows a c
grows_on a b c one two q h = two q (one q h)

pub allows_more : (old new : Tops) (change : Change) → Grows old new → Allows old change → Allows new change
allows_more old new (Put row) grows allows = λ numbered. grows (key_of row) (allows numbered)
allows_more old new (Remove kind owner place) grows allows = tt

pub all_more_of : {A : Type 0} (P Q : A → Type 0) (xs : List A) → ((x : A) → P x → Q x) → AllByRecursion P xs → AllByRecursion Q xs
all_more_of P Q [] f all = tt
all_more_of P Q (x ∷ xs) f all = (f x all.0, all_more_of P Q xs f all.1)

pub allow_one : {A : Type 0} (P Q : A → Type 0) (xs : List A) (x : A) → ((y : A) → P y → Q y) → AllByRecursion P xs → Q x → AllByRecursion Q (xs ++ x ∷ [])
allow_one P Q [] x f all one = (one, tt)
allow_one P Q (y ∷ ys) x f all one = (f y all.0, allow_one P Q ys x f all.1 one)

-- ---- removals of rows that aren't there

pub leaves_none : (tops : Tops) → Leaves tops [] []
leaves_none tops = record { each = λ q. inl refl }

pub leaves_same : (tops : Tops) (these those : List Change) → Leaves tops these those → (c : Content) → Covers tops c → after_all c these ≡ after_all c those
leaves_same tops these those l c covers = same_map keys_total exact_keys (after_all c these) (after_all c those)
    (λ q. changes_leave c these q ∙ by q (l.each q) ∙ sym (changes_leave c those q))
  where
    by : (q : Key) → (left_by these q ≡ left_by those q) ⊎ ((left_by those q ≡ Some None) × (left_by these q ≡ None) × IsNumbered q × (may_have tops q ≡ false))
        → left_or (left_by these q) (get c q) ≡ left_or (left_by those q) (get c q)
    by q (inl same) = ap (λ l. left_or l (get c q)) same
    by q (inr idle) = ap (λ l. left_or l (get c q)) idle.1 ∙ covers q idle.2 idle.3 ∙ sym (ap (λ l. left_or l (get c q)) idle.0)

one_left : (ch : Change) (xs : List Change) (q : Key) → left_by (xs ++ ch ∷ []) q ≡ or_else (left_by_one ch q) (left_by xs q)
one_left ch xs q = second_is_last xs (ch ∷ []) q

pub leaves_push : (tops : Tops) (these those : List Change) (ch : Change) → Leaves tops these those → Leaves tops (these ++ ch ∷ []) (those ++ ch ∷ [])
leaves_push tops these those ch l = record { each = λ q. by q (l.each q) (left_by_one ch q) refl }
  where
    After : Key → Option (Option (List ℕ)) → Option (Option (List ℕ)) → Type 0
    After q new old = (new ≡ old) ⊎ ((old ≡ Some None) × (new ≡ None) × IsNumbered q × (may_have tops q ≡ false))

    by : (q : Key) → After q (left_by these q) (left_by those q) → (o : Option (Option (List ℕ))) → left_by_one ch q ≡ o → After q (left_by (these ++ ch ∷ []) q) (left_by (those ++ ch ∷ []) q)
    by q (inl same) o is = inl (one_left ch these q ∙ ap (or_else (left_by_one ch q)) same ∙ sym (one_left ch those q))
    by q (inr idle) None is = inr (one_left ch those q ∙ ap (λ x. or_else x (left_by those q)) is ∙ idle.0, one_left ch these q ∙ ap (λ x. or_else x (left_by these q)) is ∙ idle.1, idle.2, idle.3)
    by q (inr idle) (Some v) is = inl (one_left ch these q ∙ ap (λ x. or_else x (left_by these q)) is ∙ sym (one_left ch those q ∙ ap (λ x. or_else x (left_by those q)) is))

pub leaves_skip : (tops : Tops) (these those : List Change) (ch : Change) → IsIdle tops ch → left_by those (key_in ch) ≡ None → Leaves tops these those → Leaves tops these (those ++ ch ∷ [])
leaves_skip tops these those ch idle none l = record { each = λ q. by q (l.each q) (cases_Bool (same_key q (key_in ch))) }
  where
    After : Key → Option (Option (List ℕ)) → Option (Option (List ℕ)) → Type 0
    After q new old = (new ≡ old) ⊎ ((old ≡ Some None) × (new ≡ None) × IsNumbered q × (may_have tops q ≡ false))

    nothing : (q : Key) → After q (left_by these q) (left_by those q) → left_by those q ≡ None → left_by these q ≡ None
    nothing q (inl same) is = same ∙ is
    nothing q (inr other) is = other.1

    by : (q : Key) → After q (left_by these q) (left_by those q) → (same_key q (key_in ch) ≡ true) ⊎ (same_key q (key_in ch) ≡ false) → After q (left_by these q) (left_by (those ++ ch ∷ []) q)
    by q a (inl tie) = let here : q ≡ key_in ch = ties q (key_in ch) tie in
        inr (
          one_left ch those q ∙ ap (λ b. or_else (cond b (Some (value_in ch)) None) (left_by those q)) tie ∙ ap (λ v. Some v) idle.0,
          nothing q a (ap (left_by those) here ∙ none),
          subst IsNumbered (sym here) idle.1,
          ap (may_have tops) here ∙ idle.2,
        )
    by q a (inr other) = subst (λ o. After q (left_by these q) o) (sym (one_left ch those q ∙ ap (λ b. or_else (cond b (Some (value_in ch)) None) (left_by those q)) other)) a

first : (a b : Bool) → T (a && b) → T a
first true b p = tt
first false b p = absurd p

second : (a b : Bool) → T (a && b) → T b
second true b p = p
second false b p = absurd p

abbrev plain : Change → Key × Option (List ℕ)
plain c = (key_in c, value_in c)

below_at : (k : Key) (xs rest : List Change) (ch : Change) → T (below_all key_cmp k (map plain (xs ++ ch ∷ rest))) → T (is_lt (key_cmp k (key_in ch)))
below_at k [] rest ch p = first _ _ p
below_at k (x ∷ xs) rest ch p = below_at k xs rest ch (second _ _ p)

apart : (low high : Key) → T (is_lt (key_cmp low high)) → same_key high low ≡ false
apart low high p = elim (cases_Bool (same_key high low)) [
  | inl tie ↦ absurd (subst (λ o. T (is_lt o)) (ap (key_cmp low) (ties high low tie) ∙ tied_itself keys_total low) p)
  | inr other ↦ other
]

-- of changes that name each key once none before a change names its key
pub once_before : (xs rest : List Change) (ch : Change) → AreOnce (xs ++ ch ∷ rest) → left_by xs (key_in ch) ≡ None
once_before [] rest ch p = refl
once_before (x ∷ xs) rest ch p = (λ i. or_else (once_before xs rest ch (second _ _ p) i) (cond (apart (key_in x) (key_in ch) (below_at (key_in x) xs rest ch (first _ _ p)) i) (Some (value_in x)) None))

-- ---- what is covered stays so

pub covers_more : (old new : Tops) (c : Content) → Grows old new → Covers old c → Covers new c
covers_more old new c grows covers q numbered none = covers q numbered (elim (cases_Bool (may_have old q)) [
  | inl there ↦ absurd (let z : true ≡ false = sym (grows q there) ∙ none in cc)
  | inr not_ ↦ not_
])

no_put : (tops : Tops) (xs : List Change) (q : Key) → AllByRecursion (Allows tops) xs → IsNumbered q → may_have tops q ≡ false → (left_by xs q ≡ None) ⊎ (left_by xs q ≡ Some None)
no_put tops [] q all numbered none = inl refl
no_put tops (x ∷ xs) q all numbered none = elim (no_put tops xs q all.1 numbered none) [
  | inr gone ↦ inr (ap (λ o. or_else o (left_by_one x q)) gone)
  | inl nothing ↦ one x all.0 (cases_Bool (same_key q (key_in x))) (ap (λ o. or_else o (left_by_one x q)) nothing)
]
  where
    one : (y : Change) → Allows tops y → (same_key q (key_in y) ≡ true) ⊎ (same_key q (key_in y) ≡ false) → left_by (x ∷ xs) q ≡ left_by_one y q → (left_by (x ∷ xs) q ≡ None) ⊎ (left_by (x ∷ xs) q ≡ Some None)
    one y allows (inr other) is = inl (is ∙ ap (λ b. cond b (Some (value_in y)) None) other)
    one (Put row) allows (inl tie) is = let here : q ≡ key_of row = ties q (key_of row) tie in
        absurd (let z : true ≡ false = sym (allows (subst IsNumbered here numbered)) ∙ ap (may_have tops) (sym here) ∙ none in cc)
    one (Remove kind owner place) allows (inl tie) is = inr (is ∙ ap (λ b. cond b (Some None) None) tie)

pub covers_others : (tops : Tops) (c : Content) → Covers tops c → Covers tops (others c)
covers_others tops c covers q numbered none = get_other c q ∙ ap (λ o. cond (is_other q) o None) (covers q numbered none) ∙ nothing (is_other q)
  where
    nothing : (b : Bool) → ◌≡◌ {A = Option (List ℕ)} (cond b None None) None
    nothing true = refl
    nothing false = refl

pub covers_after : (tops : Tops) (c : Content) (changes : List Change) → Covers tops c → AllByRecursion (Allows tops) changes → Covers tops (after_all c changes)
covers_after tops c changes covers all q numbered none = changes_leave c changes q ∙ elim (no_put tops changes q all numbered none) [
  | inl same ↦ ap (λ l. left_or l (get c q)) same ∙ covers q numbered none
  | inr gone ↦ ap (λ l. left_or l (get c q)) gone
]

pub allows_entry : (tops : Tops) (entry : Change) → (key_in entry).0 ≡ 240 → Allows tops entry
allows_entry tops (Put row) is = λ numbered. absurd (numbered.1 is)
allows_entry tops (Remove kind owner place) is = tt

-- rows that were loaded
none_found : (tops : Tops) (rows : List Row) (q : Key) → AllByRecursion (AllowsRow tops) rows → IsNumbered q → may_have tops q ≡ false → find key_cmp q (map entry_of rows) ≡ None
none_found tops [] q all numbered none = refl
none_found tops (row ∷ rows) q all numbered none = elim (cases_Bool (same_key q (key_of row))) [
  | inl tie ↦ (let here : q ≡ key_of row = ties q (key_of row) tie in
      absurd (let z : true ≡ false = sym (all.0 (subst IsNumbered here numbered)) ∙ ap (may_have tops) (sym here) ∙ none in cc))
  | inr other ↦ ap (λ b. cond b (Some row.value.items) (find key_cmp q (map entry_of rows))) other ∙ none_found tops rows q all.1 numbered none
]

pub covers_rows : (tops : Tops) (c : Content) (rows : List Row) → map entry_of rows ≡ entries c → AllByRecursion (AllowsRow tops) rows → Covers tops c
covers_rows tops c rows are all q numbered none = get-entries c q ∙ ap (find key_cmp q) (sym are) ∙ none_found tops rows q all numbered none

pub allows_row_more : (old new : Tops) (row : Row) → Grows old new → AllowsRow old row → AllowsRow new row
allows_row_more old new row grows allows = λ numbered. grows (key_of row) (allows numbered)

pub taken_one : {A : Type 0} (xs : List A) (i : ℕ) (x : A) → i < length xs → x ≡ get_or xs i x → take (i + 1) xs ≡ take i xs ++ x ∷ []
taken_one xs i x low is = take_more xs i x low ∙ ap (λ y. take i xs ++ y ∷ []) (sym is)
