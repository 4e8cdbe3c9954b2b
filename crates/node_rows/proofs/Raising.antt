-- Rows of versions 1 and 2, as they stand in version 3.
use Rattle.std.proofs.Common.{◌≡◌, ◌↔◌, inl, inr, ℕ, Bool, true, false, cond, T, List, [], ◌∷◌, ◌++◌, drop, Option, Some, None, Result, Ok, Err, arith, refl, sym, ap, subst, ◌∙◌}
use Rattle.std.specs.Prelude.{◌==◌, ◌||◌, ◌&&◌, ◌≢◌, ◌⊎◌, if◌then◌else◌, option_map}
use Rattle.std.specs.FinMap.{find, is_sorted}
use Rattle.std.specs.FinMap.Entries.{below_all, find-put, is_sorted-put, put}
use Rattle.std.specs.Int.{w16, w32, w64}
use Rattle.std.specs.List.{AllByRecursion}
use Rattle.std.proofs.lemmas.Bool.{cases_Bool}
use Rattle.mqtt_fields.specs.declared.fault.FieldFault.{FieldFault}
use Rattle.mqtt_fields.specs.Field.{after}
use Rattle.mqtt_fields.specs.Numbers.{number}
use Rattle.mqtt_fields.specs.Reading.{◌>>=◌}
use Rattle.mqtt_fields.proofs.NumberLaws.{number_is, wide16}
use Rattle.row_store.specs.Leading.{or_else, left_by, left_or}
use Rattle.row_store.proofs.Leaving.{or_else_else, or_else_none, second_is_last}
use Rattle.row_store.specs.declared.row.Change.{Change}
use Rattle.row_store.specs.declared.row.Change.TheVariants.{Put}
use Rattle.row_store.specs.declared.row.Row.{Row}
use Rattle.row_store.specs.Rows.{Key, entry_of, key_cmp, key_of, Plain}
use Rattle.row_store.proofs.Keys.{keys_total}
use Rattle.session_rows.specs.Reading.{whole, whole_of}
use Rattle.node_rows.specs.Rows.{mark, mark_key, marked}
use Rattle.node_rows.specs.Versions.{AreOlder, AreRaising, Raise, SaysOlder, are_first, differs, raised, raised_all, raised_by, raised_each, raised_row, raised_value, seen_key, seen_value, with_seen}
use Rattle.node_rows.proofs.Lists.{IsAbove, itself, less_apart, other_key, same_is, same_key, sorted_head, sorted_tail}

-- ---- a mark is of one version
one_said : (a b : ℕ × (ℕ × ℕ)) → Some a ≡ Some b → a ≡ b
one_said a b e = cc

abbrev behind_three : Result ((ℕ × ℕ) × List ℕ) FieldFault → Result ((ℕ × (ℕ × ℕ)) × List ℕ) FieldFault
behind_three r = r >>= λ b. Ok ((3, b.0), b.1)

says_three : (r : Result ((ℕ × ℕ) × List ℕ) FieldFault) (version : ℕ) (said : ℕ × ℕ) → whole_of (behind_three r) ≡ Some (version, said) → version ≡ 3
says_three (Ok (x, [])) version said is = sym (ap (λ (y : ℕ × (ℕ × ℕ)). y.0) (one_said (3, x) (version, said) is))
says_three (Ok (x, b ∷ bs)) version said is = absurd (cc)
says_three (Err e) version said is = absurd (cc)

rest_of : ℕ → ℕ → List ℕ
rest_of id named = (number w16).bytes id ++ (number w64).bytes named

third_says_three : (id named version : ℕ) (said : ℕ × ℕ) → whole marked (mark id named) ≡ Some (version, said) → version ≡ 3
unfolding rest_of
third_says_three id named version said is =
    let read : marked.at (mark id named) ≡ behind_three ((after (number w16) (λ _. number w64)).at (rest_of id named)) =
    ap (λ r. r >>= λ (a : ℕ × List ℕ). (after (number w16) (λ _. number w64)).at a.1 >>= λ b. Ok ((a.0, b.0), b.1)) ((number_is w16 wide16).again 3 (rest_of id named) (omega arith))
    in
    says_three ((after (number w16) (λ _. number w64)).at (rest_of id named)) version said (ap whole_of (sym read) ∙ is)

not_older : (id named : ℕ) → SaysOlder (mark id named) → ⊥
not_older id named older = elim older.1 [
  | inl one ↦ (let same : 1 ≡ 3 = third_says_three id named 1 older.0 one in omega (arith, same))
  | inr two ↦ (let same : 2 ≡ 3 = third_says_three id named 2 older.0 two in omega (arith, same))
]

value_is : (v w : List ℕ) → Some v ≡ Some w → v ≡ w
value_is v w e = cc

-- where the mark of version 3 is found, the first isn't one of an older version
pub not_both : (id named : ℕ) (rows : List Plain) → find key_cmp mark_key rows ≡ Some (mark id named) → AreOlder rows → ⊥
not_both id named [] found older = older
not_both id named (row ∷ rows) found older =
    let here : same_key mark_key row.0 ≡ true = ap (same_key mark_key) older.0 ∙ itself mark_key in
    not_older id named (subst SaysOlder (value_is row.1 (mark id named) (rw here at found)) older.1)

-- what a whole mark says of its version
pub says_older : (value : List ℕ) (version : ℕ) (said : ℕ × ℕ) → Some (version, said) ≡ whole marked value → ((version ≡ 1) ⊎ (version ≡ 2)) ↔ SaysOlder value
says_older value version said is = (
  λ either. (
    said,
    elim either [
      | inl one ↦ inl (sym is ∙ ap (λ n. Some (n, said)) one)
      | inr two ↦ inr (sym is ∙ ap (λ n. Some (n, said)) two)
    ],
  ),
  λ older. elim older.1 [
    | inl one ↦ inl (ap (λ (x : ℕ × (ℕ × ℕ)). x.0) (one_said (version, said) (1, older.0) (is ∙ one)))
    | inr two ↦ inr (ap (λ (x : ℕ × (ℕ × ℕ)). x.0) (one_said (version, said) (2, older.0) (is ∙ two)))
  ],
)

-- ---- keys stay
below_raised : (first : Bool) (k : Key) (rows : List Plain) → below_all key_cmp k (raised_each first rows) ≡ below_all key_cmp k rows
below_raised first k [] = refl
below_raised first k (row ∷ rows) = rw (below_raised first k rows) refl

each_sorted : (first : Bool) (rows : List Plain) → is_sorted key_cmp (raised_each first rows) ≡ is_sorted key_cmp rows
each_sorted first [] = refl
each_sorted first (row ∷ rows) = rw (below_raised first row.0 rows, each_sorted first rows) refl

seen_sorted : (seen : Option (List ℕ)) (rows : List Plain) → T (is_sorted key_cmp rows) → T (is_sorted key_cmp (with_seen seen rows))
seen_sorted None rows up = up
seen_sorted (Some value) rows up = is_sorted-put key_cmp keys_total seen_key value rows up

pub raised_up : (rows : List Plain) → T (is_sorted key_cmp rows) → T (is_sorted key_cmp (raised_all rows))
raised_up rows up = seen_sorted (seen_value rows) (raised_each (are_first rows) rows) (subst T (sym (each_sorted (are_first rows) rows)) up)

-- ---- what the changes leave
module _ (first : Bool) where
  raised_last : (q : Key) (rows : List Plain) (row : Plain) → raised_by first q (rows ++ row ∷ []) ≡ or_else (raised_row first q row) (raised_by first q rows)
  raised_last q [] row = or_else_none (raised_row first q row)
  raised_last q (r ∷ rows) row = ap (λ l. or_else l (raised_row first q r)) (raised_last q rows row) ∙ or_else_else (raised_row first q row) (raised_by first q rows) (raised_row first q r)

  pub skips : (rows : List Plain) (changes : List Change) (row : Plain) → differs first row.0.0 ≡ false → AreRaising first rows changes → AreRaising first (rows ++ row ∷ []) changes
  skips rows changes row same are q = are q ∙ sym (raised_last q rows row ∙ rw same refl)

  pub pushes : (rows : List Plain) (changes : List Change) (row : Plain) (new : Row) → differs first row.0.0 ≡ true → entry_of new ≡ raised first row → AreRaising first rows changes → AreRaising first (rows ++ row ∷ []) (changes ++ Put new ∷ [])
  pushes rows changes row new other is are q =
      second_is_last changes (Put new ∷ []) q
      ∙ ap (λ (e : Plain). or_else (cond (same_key q e.0) (Some (Some e.1)) None) (left_by changes q)) is
      ∙ ap (or_else (cond (same_key q row.0) (Some (Some (raised_value first row.0.0 row.1))) None)) (are q)
      ∙ sym (raised_last q rows row ∙ rw other refl)

  -- ---- they lead from the rows to what they are in version 3
  stays : (kind : ℕ) (v : List ℕ) → differs first kind ≡ false → raised_value first kind v ≡ v
  stays kind v same = by (kind == 1) (first && (kind == 4)) same
    where
      by : (one four : Bool) → (one || four) ≡ false → (if one then (number w16).bytes 3 ++ drop 2 v else if four then v ++ (number w32).bytes 0 else v) ≡ v
      by true four same = absurd (cc)
      by false true same = absurd (cc)
      by false false same = refl

  none_either : (b : Bool) → ◌≡◌ {A = Option (Option (List ℕ))} (if b then None else None) None
  none_either true = refl
  none_either false = refl

  none_raised : (q : Key) (rows : List Plain) → AllByRecursion (IsAbove q) rows → raised_by first q rows ≡ None
  none_raised q [] above = refl
  none_raised q (row ∷ rows) above = rw (none_raised q rows above.1, other_key q row.0 (less_apart q row.0 above.0)) (none_either (differs first row.0.0))

  here_left : (q : Key) (row : Plain) → same_key q row.0 ≡ true → Some (raised_value first row.0.0 row.1) ≡ left_or (raised_row first q row) (Some row.1)
  here_left q row same = elim (cases_Bool (differs first row.0.0)) [
    | inl t ↦ rw (t, same) refl
    | inr f ↦ rw f (ap Some (stays row.0.0 row.1 f))
  ]

  there_left : (q : Key) (row : Plain) → same_key q row.0 ≡ false → None ≡ raised_row first q row
  there_left q row other = elim (cases_Bool (differs first row.0.0)) [
    | inl t ↦ rw (t, other) refl
    | inr f ↦ rw f refl
  ]

  raised_lead : (rows : List Plain) → T (is_sorted key_cmp rows) → (q : Key) → find key_cmp q (raised_each first rows) ≡ left_or (raised_by first q rows) (find key_cmp q rows)
  raised_lead [] up q = refl
  raised_lead (row ∷ rows) up q = elim (cases_Bool (same_key q row.0)) [
    | inl t ↦
        let none : raised_by first q rows ≡ None = none_raised q rows (subst (λ (k : Key). AllByRecursion (IsAbove k) rows) (sym (same_is q row.0 t)) (sorted_head row rows up)) in
        let found : find key_cmp q (raised_each first (row ∷ rows)) ≡ Some (raised_value first row.0.0 row.1) = rw t refl in
        let had : find key_cmp q (row ∷ rows) ≡ Some row.1 = rw t refl in
        found ∙ here_left q row t ∙ sym (ap (λ l. left_or (or_else l (raised_row first q row)) (find key_cmp q (row ∷ rows))) none ∙ ap (left_or (raised_row first q row)) had)
    | inr f ↦
        let away : find key_cmp q (raised_each first (row ∷ rows)) ≡ find key_cmp q (raised_each first rows) = rw f refl in
        let had : find key_cmp q rows ≡ find key_cmp q (row ∷ rows) = rw f refl in
        away ∙ raised_lead rows (sorted_tail row rows up) q ∙ ap (left_or (raised_by first q rows)) had ∙ ap (λ l. left_or l (find key_cmp q (row ∷ rows))) (or_else_none (raised_by first q rows))
        ∙ ap (λ l. left_or (or_else (raised_by first q rows) l) (find key_cmp q (row ∷ rows))) (there_left q row f)
  ]

  alone : (q : Key) (rows : List Plain) → differs first q.0 ≡ false → raised_by first q rows ≡ None
  alone q [] same = refl
  alone q (row ∷ rows) same = rw (alone q rows same) (elim (cases_Bool (differs first row.0.0)) [
    | inl t ↦ rw (t, other_key q row.0 (λ e. absurd (let both : true ≡ false = sym t ∙ ap (λ (k : Key). differs first k.0) (sym e) ∙ same in cc))) refl
    | inr f ↦ rw f refl
  ])

one_plain : (a b : Plain) → Some a ≡ Some b → a ≡ b
one_plain a b e = cc

-- where the row of the dots that were seen is put, there are they
pub put_seen : (seen : Option (List ℕ)) (row : Row) (rows : List Plain) → option_map entry_of (Some row) ≡ option_map (λ v. (seen_key, v)) seen → put key_cmp (key_of row) row.value.items rows ≡ with_seen seen rows
put_seen None row rows is = absurd (cc)
put_seen (Some value) row rows is = ap (λ (e : Plain). put key_cmp e.0 e.1 rows) (one_plain (entry_of row) (seen_key, value) is)

-- a put of the row, where there is one
abbrev pub with_put : Option Row → List Change → List Change
with_put None changes = changes
with_put (Some row) changes = changes ++ Put row ∷ []

-- ---- and the dots that were seen
seen_leads : (seen : Option (List ℕ)) (rows old : List Plain) (changes : List Change) (put : Option Row) → option_map entry_of put ≡ option_map (λ v. (seen_key, v)) seen
    → ((q : Key) → find key_cmp q rows ≡ left_or (left_by changes q) (find key_cmp q old))
    → (q : Key) → find key_cmp q (with_seen seen rows) ≡ left_or (left_by (with_put put changes) q) (find key_cmp q old)
seen_leads None rows old changes None is lead q = lead q
seen_leads None rows old changes (Some row) is lead q = absurd (cc)
seen_leads (Some value) rows old changes None is lead q = absurd (cc)
seen_leads (Some value) rows old changes (Some row) is lead q =
    let row_is : entry_of row ≡ (seen_key, value) = one_plain (entry_of row) (seen_key, value) is in
    find-put key_cmp keys_total q seen_key value rows
    ∙ elim (cases_Bool (same_key q seen_key)) [
      | inl t ↦ rw t refl
      | inr f ↦ rw f (lead q)
    ]
    ∙ sym (ap (λ l. left_or l (find key_cmp q old)) (second_is_last changes (Put row ∷ []) q ∙ ap (λ (e : Plain). or_else (cond (same_key q e.0) (Some (Some e.1)) None) (left_by changes q)) row_is))

pub raise_so : (rows : List Plain) (changes : List Change) (put : Option Row) → AreRaising (are_first rows) rows changes → option_map entry_of put ≡ option_map (λ v. (seen_key, v)) (seen_value rows) → Raise rows (with_put put changes)
raise_so rows changes put are is = record {
  lead = λ up q. seen_leads (seen_value rows) (raised_each (are_first rows) rows) rows changes put is
      (λ k. raised_lead (are_first rows) rows up k ∙ ap (λ l. left_or l (find key_cmp k rows)) (sym (are k))) q;
  others = λ q same apart. others_stay put (seen_value rows) is q apart ∙ are q ∙ alone (are_first rows) q rows same;
}
  where
    others_stay : (row : Option Row) (seen : Option (List ℕ)) → option_map entry_of row ≡ option_map (λ v. (seen_key, v)) seen → (q : Key) → q ≢ seen_key → left_by (with_put row changes) q ≡ left_by changes q
    others_stay None seen is q apart = refl
    others_stay (Some row) None is q apart = absurd (cc)
    others_stay (Some row) (Some value) is q apart =
        let row_is : entry_of row ≡ (seen_key, value) = one_plain (entry_of row) (seen_key, value) is in
        second_is_last changes (Put row ∷ []) q ∙ ap (λ (e : Plain). or_else (cond (same_key q e.0) (Some (Some e.1)) None) (left_by changes q)) row_is ∙ rw (other_key q seen_key apart) refl
