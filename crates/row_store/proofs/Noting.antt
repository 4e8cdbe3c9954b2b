-- What is noted at each key, and changes made of it.
use Rattle.std.proofs.Common.{◌≡◌, ◌≢◌, ◌⊎◌, inl, inr, ℕ, Bool, true, false, cond, ◌&&◌, not, List, [], ◌∷◌, ◌++◌, append-nil, map, filter, Option, Some, None, Less, T, refl, sym, ap, subst, ◌∙◌, eq-eqb}
use Rattle.std.specs.Prelude.{◌==◌, Decides, option_map}
use Rattle.std.specs.List.{AllByRecursion}
use Rattle.std.specs.List.Sorted.{IsStrictlySortedBy}
use Rattle.std.specs.Ordering.{is_lt}
use Rattle.std.specs.Cmp.{eq_by_cmp_equiv}
use Rattle.std.specs.FinMap.{get, is_sorted, same_map}
use Rattle.std.specs.FinMap.Entries.{below_all}
use Rattle.std.specs.Map.{keys_of}
use Rattle.std.specs.Option.{option_eq}
use Rattle.std.specs.Str.{bytes_eq}
use Rattle.std.proofs.lemmas.Bool.{cases_Bool, false≢true, ne_eqb}
use Rattle.std.proofs.lemmas.Slice.Eq.{bytes_eq-Decides}
use Rattle.row_store.specs.declared.memory.RowKey.{RowKey}
use Rattle.row_store.specs.declared.row.Change.{Change}
use Rattle.row_store.specs.Cells.{Cell, plain_key, cell_at}
use Rattle.row_store.specs.Rows.{Content, Key, after_all, key_cmp}
use Rattle.row_store.proofs.Keys.{exact_keys, keys_total}
use Rattle.row_store.proofs.CellLemmas.{Sets, at_key, same_key, ties}
use Rattle.row_store.proofs.Sorted.{row_key_cmp}
use Rattle.row_store.specs.Gathered.{AreOnce, IsSettled, first_in}
use Rattle.row_store.specs.Leading.{or_else, first_by, left_by, left_by_one, left_or, key_in, value_in}
use Rattle.row_store.specs.Noted.{Pair, AreLast, AreNoted, plain_value, pair_of, noted_pair, noted, is_noted}
use Rattle.row_store.proofs.Leaving.{changes_leave, else_none, first_by_both, first_none, or_else_else, or_else_none, second_is_last}

-- ---- a table that takes a change

put_or : (b : Bool) (cell : Cell) (o : Option Cell) → option_map plain_value (cond b (Some cell) o) ≡ or_else (cond b (Some (plain_value cell)) None) (option_map plain_value o)
put_or true cell o = refl
put_or false cell o = refl

pub noted_put : (old new : List (RowKey × Cell)) (own : RowKey) (cell : Cell) (change : Change) → noted_pair (own, cell) ≡ pair_of change → Sets old new (plain_key own) (Some cell)
    → (key : Key) → noted new key ≡ or_else (left_by_one change key) (noted old key)
noted_put old new own cell change is sets key =
    ap (option_map plain_value) (at_key old new own (Some cell) sets key) ∙ put_or (same_key (plain_key own) key) cell (cell_at old key)
    ∙ ap (λ b. or_else (cond b (Some (plain_value cell)) None) (noted old key)) ((eq_by_cmp_equiv keys_total).symm (plain_key own) key)
    ∙ ap (λ p. or_else (cond (same_key key p.0) (Some p.1) None) (noted old key)) is

-- ---- two tables that take a change

module _ (first last one before left : Option (Option (List ℕ))) where
  -- the change is of another key, or the first of a key of the kind
  first_more : (of_kind : Bool) → before ≡ cond of_kind first None → (one ≡ None) ⊎ ((of_kind ≡ true) × (before ≡ None)) → or_else one before ≡ cond of_kind (or_else first one) None
  first_more of_kind is (inl other) = ap (λ o. or_else o before) other ∙ is ∙ ap (λ f. cond of_kind f None) (or_else_none first ∙ ap (or_else first) (sym other))
  first_more true is (inr new) = ap (or_else one) new.1 ∙ sym (or_else_none one) ∙ ap (λ f. or_else f one) (sym new.1 ∙ is)
  first_more false is (inr new) = absurd (false≢true new.0)

  last_more : (of_kind : Bool) → before ≡ cond of_kind first None → (first ≡ None → last ≡ None) → or_else left before ≡ last → (one ≡ None) ⊎ ((of_kind ≡ true) × (before ≡ None)) → or_else left (or_else one before) ≡ or_else one last
  last_more of_kind is none leaves (inl other) = ap (λ o. or_else left (or_else o before)) other ∙ leaves ∙ ap (λ o. or_else o last) (sym other)
  last_more true is none leaves (inr new) =
      let no_last = none (sym is ∙ new.1) in
      ap (λ l. or_else l (or_else one before)) (else_none left before (leaves ∙ no_last)).0 ∙ ap (or_else one) (new.1 ∙ sym no_last)
  last_more false is none leaves (inr new) = absurd (false≢true new.0)

  -- it is of another key, or another kind, or it isn't the first
  first_stays : (of_kind : Bool) → before ≡ cond of_kind first None → (one ≡ None) ⊎ ((of_kind ≡ false) ⊎ (before ≢ None)) → before ≡ cond of_kind (or_else first one) None
  first_stays of_kind is (inl other) = is ∙ ap (λ f. cond of_kind f None) (or_else_none first ∙ ap (or_else first) (sym other))
  first_stays false is (inr later) = is
  first_stays true is (inr (inl kind)) = absurd (false≢true (sym kind))
  first_stays true is (inr (inr some)) = is ∙ some_first first (λ none. some (is ∙ none))
    where
      some_first : (f : Option (Option (List ℕ))) → f ≢ None → f ≡ or_else f one
      some_first None is_some = absurd (is_some refl)
      some_first (Some value) is_some = refl

-- a change is of another key, or leaves something
at_or_not : (change : Change) (key : Key) → (left_by_one change key ≡ None) ⊎ (key ≡ key_in change)
at_or_not change key = elim (cases_Bool (same_key key (key_in change))) [ inl tie ↦ inr (ties key (key_in change) tie) | inr other ↦ inl (ap (λ b. cond b (Some (value_in change)) None) other) ]

firsts_then : (kind : ℕ) (xs : List Change) (change : Change) (key : Key) → cond (key.0 == kind) (or_else (first_by xs key) (left_by_one change key)) None ≡ first_in kind (xs ++ change ∷ []) key
firsts_then kind xs change key = ap (λ f. cond (key.0 == kind) f None) (ap (or_else (first_by xs key)) (or_else_none (left_by_one change key)) ∙ sym (first_by_both xs (change ∷ []) key))

module _ (kind : ℕ) (own : RowKey) (cell : Cell) (change : Change) (is : noted_pair (own, cell) ≡ pair_of change) where
  own_key : (key : Key) → key ≡ key_in change → key ≡ plain_key own
  own_key key at = at ∙ ap (λ p. p.0) (sym is)

  pub note_first : (old new lefts : List (RowKey × Cell)) → own.kind ≡ kind → cell_at old (plain_key own) ≡ None → Sets old new (plain_key own) (Some cell)
      → (xs : List Change) → AreNoted kind old lefts xs → AreNoted kind new lefts (xs ++ change ∷ [])
  note_first old new lefts of_kind none sets xs notes = record {
    firsts = λ key.
        noted_put old new own cell change is sets key
        ∙ first_more (first_by xs key) (left_by xs key) (left_by_one change key) (noted old key) (noted lefts key) (key.0 == kind) (notes.firsts key) (way key) ∙ firsts_then kind xs change key;
    lasts = λ key.
        ap (or_else (noted lefts key)) (noted_put old new own cell change is sets key)
        ∙ last_more (first_by xs key) (left_by xs key) (left_by_one change key) (noted old key) (noted lefts key) (key.0 == kind) (notes.firsts key) (first_none xs key) (notes.lasts key) (way key)
        ∙ sym (second_is_last xs (change ∷ []) key);
  }
    where
      way : (key : Key) → (left_by_one change key ≡ None) ⊎ (((key.0 == kind) ≡ true) × (noted old key ≡ None))
      way key = elim (at_or_not change key) [
        | inl other ↦ inl other
        | inr at ↦ (let here = own_key key at in inr (eq-eqb key.0 kind (ap (λ (k : Key). k.0) here ∙ of_kind), ap (λ k. noted old k) here ∙ ap (option_map plain_value) none))
      ]

  pub note_other : (befores old new : List (RowKey × Cell)) → (own.kind ≢ kind) ⊎ (cell_at befores (plain_key own) ≢ None) → Sets old new (plain_key own) (Some cell)
      → (xs : List Change) → AreNoted kind befores old xs → AreNoted kind befores new (xs ++ change ∷ [])
  note_other befores old new later sets xs notes = record {
    firsts = λ key. first_stays (first_by xs key) (left_by xs key) (left_by_one change key) (noted befores key) (noted old key) (key.0 == kind) (notes.firsts key) (way key) ∙ firsts_then kind xs change key;
    lasts = λ key.
        ap (λ l. or_else l (noted befores key)) (noted_put old new own cell change is sets key) ∙ or_else_else (left_by_one change key) (noted old key) (noted befores key)
        ∙ ap (or_else (left_by_one change key)) (notes.lasts key) ∙ sym (second_is_last xs (change ∷ []) key);
  }
    where
      some_noted : (o : Option Cell) → o ≢ None → option_map plain_value o ≢ None
      some_noted None some e = some refl
      some_noted (Some value) some e = absurd (cc)

      way : (key : Key) → (left_by_one change key ≡ None) ⊎ (((key.0 == kind) ≡ false) ⊎ (noted befores key ≢ None))
      way key = elim (at_or_not change key) [
        | inl other ↦ inl other
        | inr at ↦ (let here = own_key key at in elim later [
          | inl kinds ↦ inr (inl (ne_eqb key.0 kind (λ e. kinds (sym (ap (λ (k : Key). k.0) here) ∙ e))))
          | inr some ↦ inr (inr (subst (λ k. noted befores k ≢ None) (sym here) (some_noted (cell_at befores (plain_key own)) some)))
        ])
      ]

-- ---- a table of what the last changes leave
pub note_last : (old new : List (RowKey × Cell)) (own : RowKey) (cell : Cell) (change : Change) → noted_pair (own, cell) ≡ pair_of change → Sets old new (plain_key own) (Some cell)
    → (xs : List Change) → AreLast old xs → AreLast new (xs ++ change ∷ [])
note_last old new own cell change is sets xs lasts key =
    noted_put old new own cell change is sets key ∙ ap (or_else (left_by_one change key)) (lasts key) ∙ sym (second_is_last xs (change ∷ []) key)

pub none_last : (lefts : List (RowKey × Cell)) → lefts ≡ [] → AreLast lefts []
none_last lefts none key = ap (λ es. noted es key) none

-- where nothing is noted first, what is settled is the last
settled_last : (befores : List (RowKey × Cell)) → befores ≡ [] → (last left : Option (Option (List ℕ))) (key : Key) → IsSettled (noted befores key) (or_else last (noted befores key)) left → left ≡ last
settled_last befores none last left key settled = by last (subst (λ b. IsSettled b (or_else last b) left) (ap (λ es. noted es key) none) settled)
  where
    by : (last : Option (Option (List ℕ))) → IsSettled None (or_else last None) left → left ≡ last
    by None (inl same) = same.1
    by None (inr other) = other.1
    by (Some value) (inl same) = absurd (cc)
    by (Some value) (inr other) = other.1

pub last_left : (befores lefts : List (RowKey × Cell)) (changes out : List Change) → befores ≡ [] → AreLast lefts changes
    → ((key : Key) → IsSettled (noted befores key) (or_else (noted lefts key) (noted befores key)) (left_by out key)) → (key : Key) → left_by out key ≡ left_by changes key
last_left befores lefts changes out none lasts settled key = settled_last befores none (noted lefts key) (left_by out key) key (settled key) ∙ lasts key

pub same_content : (changes out : List Change) → ((key : Key) → left_by out key ≡ left_by changes key) → (c : Content) → after_all c out ≡ after_all c changes
same_content changes out same c =
    same_map keys_total exact_keys (after_all c out) (after_all c changes)
    (λ key. changes_leave c out key ∙ ap (λ l. left_or l (get c key)) (same key) ∙ sym (changes_leave c changes key))

none_if : (b : Bool) (o : Option (Option (List ℕ))) → o ≡ cond b o o
none_if true o = refl
none_if false o = refl

pub none_noted : (kind : ℕ) (befores lefts : List (RowKey × Cell)) → befores ≡ [] → lefts ≡ [] → AreNoted kind befores lefts []
none_noted kind befores lefts no_befores no_lefts = record {
  firsts = λ key. ap (λ es. noted es key) no_befores ∙ none_if (key.0 == kind) None;
  lasts = λ key. λ i. or_else (noted (no_lefts i) key) (noted (no_befores i) key);
}

-- ---- a table in the order of its keys

both : (a b : Bool) → T a → T b → T (a && b)
both true b p q = q
both false b p q = absurd p

abbrev AreAbove : Key → List (RowKey × Cell) → Type 0
AreAbove k cells = AllByRecursion (λ m. key_cmp k (plain_key m) ≡ Less) (keys_of cells)

below_pairs : (k : Key) (cells : List (RowKey × Cell)) → AreAbove k cells → T (below_all key_cmp k (map noted_pair cells))
below_pairs k [] all = tt
below_pairs k (e ∷ cells) all = both _ _ (subst (λ o. T (is_lt o)) (sym all.0) tt) (below_pairs k cells all.1)

pairs_sorted : (cells : List (RowKey × Cell)) → IsStrictlySortedBy row_key_cmp (keys_of cells) → T (is_sorted key_cmp (map noted_pair cells))
unfolding IsStrictlySortedBy
pairs_sorted [] up = tt
pairs_sorted (e ∷ cells) up = both _ _ (below_pairs (plain_key e.0) cells up.0) (pairs_sorted cells up.1)

are_once : (changes : List Change) (cells : List (RowKey × Cell)) → map pair_of changes ≡ map noted_pair cells → IsStrictlySortedBy row_key_cmp (keys_of cells) → AreOnce changes
are_once changes cells same up = subst (λ ps. T (is_sorted key_cmp ps)) (sym same) (pairs_sorted cells up)

-- ---- what changes made of it leave

left_in : List Pair → Key → Option (Option (List ℕ))
left_in [] key = None
left_in (p ∷ ps) key = or_else (left_in ps key) (cond (same_key key p.0) (Some p.1) None)

left_by_pairs : (changes : List Change) (key : Key) → left_by changes key ≡ left_in (map pair_of changes) key
unfolding left_in
left_by_pairs [] key = refl
left_by_pairs (change ∷ more) key = ap (λ l. or_else l (left_by_one change key)) (left_by_pairs more key)

above_none : (q : Key) (cells : List (RowKey × Cell)) → AreAbove q cells → cell_at cells q ≡ None
above_none q [] all = refl
above_none q (e ∷ cells) all = rw (all.0) (above_none q cells all.1)

left_in_table : (cells : List (RowKey × Cell)) → IsStrictlySortedBy row_key_cmp (keys_of cells) → (key : Key) → left_in (map noted_pair cells) key ≡ noted cells key
unfolding IsStrictlySortedBy left_in
left_in_table [] up key = refl
left_in_table (e ∷ cells) up key =
    ap (λ l. or_else l (cond (same_key key (plain_key e.0)) (Some (plain_value e.1)) None)) (left_in_table cells up.1 key) ∙ elim (cases_Bool (same_key key (plain_key e.0))) [
      | inl tie ↦ rw (tie, above_none key cells (subst (λ k. AreAbove k cells) (sym (ties key (plain_key e.0) tie)) up.0)) refl
      | inr other ↦ rw other (sym (or_else_none (noted cells key)))
    ]

left_alike : (changes : List Change) (cells : List (RowKey × Cell)) → map pair_of changes ≡ map noted_pair cells → IsStrictlySortedBy row_key_cmp (keys_of cells) → (key : Key) → left_by changes key ≡ noted cells key
left_alike changes cells same up key = left_by_pairs changes key ∙ ap (λ ps. left_in ps key) same ∙ left_in_table cells up key

-- ---- the entries that another table doesn't note alike

maybe_same : {A : Type 0} (E : A → A → Bool) → ((x y : A) → Decides (E x y) (x ≡ y)) → (p q : Option A) → Decides (option_eq E p q) (p ≡ q)
maybe_same E one None None = (λ e. refl, λ e. refl)
maybe_same E one None (Some y) = (λ e. absurd (cc), λ e. absurd (cc))
maybe_same E one (Some x) None = (λ e. absurd (cc), λ e. absurd (cc))
maybe_same E one (Some x) (Some y) = (λ e. ap (λ z. Some z) ((one x y).0 e), λ e. (one x y).1 (cc))

noted_decides : (befores : List (RowKey × Cell)) (e : RowKey × Cell) → Decides (is_noted befores e) (noted befores (plain_key e.0) ≡ Some (plain_value e.1))
noted_decides befores e = maybe_same (option_eq bytes_eq) (maybe_same bytes_eq bytes_eq-Decides) (noted befores (plain_key e.0)) (Some (plain_value e.1))

module _ (befores : List (RowKey × Cell)) where
  abbrev pub changed : List (RowKey × Cell) → List (RowKey × Cell)
  changed cells = filter (λ e. not (is_noted befores e)) cells

  either_above : (b : Bool) (k : Key) (e : RowKey × Cell) (cells : List (RowKey × Cell)) → key_cmp k (plain_key e.0) ≡ Less → AreAbove k cells → AreAbove k (cond b (e ∷ cells) cells)
  either_above true k e cells above all = (above, all)
  either_above false k e cells above all = all

  changed_above : (k : Key) (cells : List (RowKey × Cell)) → AreAbove k cells → AreAbove k (changed cells)
  changed_above k [] all = tt
  changed_above k (e ∷ cells) all = either_above (not (is_noted befores e)) k e (changed cells) all.0 (changed_above k cells all.1)

  either_sorted : (b : Bool) (e : RowKey × Cell) (cells : List (RowKey × Cell)) → AreAbove (plain_key e.0) cells → IsStrictlySortedBy row_key_cmp (keys_of cells) → IsStrictlySortedBy row_key_cmp (keys_of (cond b (e ∷ cells) cells))
  unfolding IsStrictlySortedBy
  either_sorted true e cells all up = (all, up)
  either_sorted false e cells all up = up

  changed_sorted : (cells : List (RowKey × Cell)) → IsStrictlySortedBy row_key_cmp (keys_of cells) → IsStrictlySortedBy row_key_cmp (keys_of (changed cells))
  unfolding IsStrictlySortedBy
  changed_sorted [] up = tt
  changed_sorted (e ∷ cells) up = either_sorted (not (is_noted befores e)) e (changed cells) (changed_above (plain_key e.0) cells up.0) (changed_sorted cells up.1)

  abbrev Settled : List (RowKey × Cell) → List (RowKey × Cell) → Key → Type 0
  Settled cells kept key = IsSettled (noted befores key) (or_else (noted cells key) (noted befores key)) (noted kept key)

  -- at the key of an entry, and at another one
  settled_here : (e : RowKey × Cell) (cells : List (RowKey × Cell)) (key : Key) → key ≡ plain_key e.0 → AreAbove (plain_key e.0) cells → same_key key (plain_key e.0) ≡ true → Settled (e ∷ cells) (changed (e ∷ cells)) key
  settled_here e cells key at all tie = by (is_noted befores e) (noted_decides befores e)
    where
      none : noted (changed cells) key ≡ None
      none = ap (option_map plain_value) (above_none key (changed cells) (subst (λ k. AreAbove k (changed cells)) (sym at) (changed_above (plain_key e.0) cells all)))

      here : (more : List (RowKey × Cell)) → noted (e ∷ more) key ≡ Some (plain_value e.1)
      here more = rw tie refl

      by : (b : Bool) → Decides b (noted befores (plain_key e.0) ≡ Some (plain_value e.1)) → Settled (e ∷ cells) (cond (not b) (e ∷ changed cells) (changed cells)) key
      by true d = inl (ap (λ k. noted befores k) at ∙ d.0 refl ∙ ap (λ l. or_else l (noted befores key)) (sym (here cells)), none)
      by false d =
          let last = ap (λ l. or_else l (noted befores key)) (here cells) in
          inr (λ same. false≢true (d.1 (sym (ap (λ k. noted befores k) at) ∙ same ∙ last)), here (changed cells) ∙ sym last)

  settled_there : (e : RowKey × Cell) (cells : List (RowKey × Cell)) (key : Key) → same_key key (plain_key e.0) ≡ false → Settled cells (changed cells) key → Settled (e ∷ cells) (changed (e ∷ cells)) key
  settled_there e cells key other settled = by (not (is_noted befores e))
    where
      away : (more : List (RowKey × Cell)) → noted more key ≡ noted (e ∷ more) key
      away more = rw other refl

      settled_before : Settled (e ∷ cells) (changed cells) key
      settled_before = subst (λ l. IsSettled (noted befores key) (or_else l (noted befores key)) (noted (changed cells) key)) (away cells) settled

      by : (b : Bool) → Settled (e ∷ cells) (cond b (e ∷ changed cells) (changed cells)) key
      by true = subst (λ l. IsSettled (noted befores key) (or_else (noted (e ∷ cells) key) (noted befores key)) l) (away (changed cells)) settled_before
      by false = settled_before

  pub settled_table : (cells : List (RowKey × Cell)) → IsStrictlySortedBy row_key_cmp (keys_of cells) → (key : Key) → Settled cells (changed cells) key
  unfolding IsStrictlySortedBy
  settled_table [] up key = inl (refl, refl)
  settled_table (e ∷ cells) up key = elim (cases_Bool (same_key key (plain_key e.0))) [
    | inl tie ↦ settled_here e cells key (ties key (plain_key e.0) tie) up.0 tie
    | inr other ↦ settled_there e cells key other (settled_table cells up.1 key)
  ]

-- a change was made of each of these entries
module _ (befores cells : List (RowKey × Cell)) (changes : List Change) (rest : List (RowKey × Cell)) (none : rest ≡ []) (up : IsStrictlySortedBy row_key_cmp (keys_of cells))
    (made : map pair_of changes ++ map noted_pair (changed befores rest) ≡ map noted_pair (changed befores cells)) where
  all_made : map pair_of changes ≡ map noted_pair (changed befores cells)
  all_made = sym (append-nil _) ∙ ap (λ es. map pair_of changes ++ map noted_pair (changed befores es)) (sym none) ∙ made

  pub made_once : AreOnce changes
  made_once = are_once changes (changed befores cells) all_made (changed_sorted befores cells up)

  pub made_settled : (key : Key) → IsSettled (noted befores key) (or_else (noted cells key) (noted befores key)) (left_by changes key)
  made_settled key = subst (IsSettled (noted befores key) (or_else (noted cells key) (noted befores key)))
      (sym (left_alike changes (changed befores cells) all_made (changed_sorted befores cells up) key)) (settled_table befores cells up key)
