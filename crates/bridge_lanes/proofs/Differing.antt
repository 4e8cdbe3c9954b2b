-- Changes of lanes name no row that is as it was told.
use Rattle.std.proofs.Common.{◌≡◌, ◌≢◌, inl, inr, ℕ, suc, ◌+◌, ◌<◌, ◌≤◌, ◌^◌, Bool, true, false, cond, ◌&&◌, List, [], ◌∷◌, ◌++◌, map, length, take, drop, Option, Some, None, refl, sym, ap, ◌∙◌, true≢false, arith}
use Rattle.std.specs.Prelude.{◌==◌, if◌then◌else◌}
use Rattle.std.specs.FinMap.{find}
use Rattle.std.specs.Int.{w64}
use Rattle.std.specs.List.{AllByRecursion}
use Rattle.std.proofs.lemmas.Bool.{cases_Bool, cases_eq}
use Rattle.mqtt_fields.specs.Numbers.{number}
use Rattle.row_store.specs.Leading.{AllDiffer, left_by, left_or, or_else}
use Rattle.row_store.specs.declared.row.Change.{Change}
use Rattle.row_store.specs.Rows.{Key, key_cmp, Plain}
use Rattle.bridge_lanes.specs.Rows.{last_put, message_rows, numbers_key, numbers_of, numbers_rows, numbers_value, owner, waiting_of, each, rows_of, row_at}
use Rattle.bridge_lanes.specs.ChangeSteps.{changes_of, message_changes, numbers_changes, IsSoundLane}
use Rattle.bridge_lanes.specs.Changes.{KeptLane, Left, is_lane_kind, left_of, now_of, put, told_of}
use Rattle.bridge_lanes.proofs.Keys.{one_place}
use Rattle.bridge_lanes.proofs.Leading.{GivesOwn, by_owner, changes_are, each_all, each_apart, each_map, kinds, lanes_lead, message_changes_of, messages_of, no_less, numbers_are, numbers_changes_of, owns, rows_rise, told_rows}
use Rattle.bridge_lanes.proofs.Order.{IsAbove, Rises, all_back, all_both, all_turned, cut_changes, either, either_none, find_both, find_none, gone_by, itself, left_both, left_by_in, left_in, left_none, left_one, less_apart, or_else_none, other_key, same_is, same_key}

-- at the key, what the changes leave isn't what was there
abbrev pub DiffersAt : Key → List Plain → List Left → Type 0
DiffersAt q olds cs = (l : Option (List ℕ)) → left_in cs q ≡ Some l → find key_cmp q olds ≢ l

-- so of one change
abbrev IsOther : List Plain → Left → Type 0
IsOther olds c = find key_cmp c.0 olds ≢ c.1

differs_by : (q : Key) (olds : List Plain) (cs : List Left) → AllByRecursion (IsOther olds) cs → DiffersAt q olds cs
differs_by q olds [] all l e = absurd (let z : None ≡ Some l = e in cc)
differs_by q olds (c ∷ cs) all l e = by (left_in cs q) refl (differs_by q olds cs all.1 l) e
  where
    by : (last : Option (Option (List ℕ))) → left_in cs q ≡ last → (left_in cs q ≡ Some l → find key_cmp q olds ≢ l) → or_else last (left_one c q) ≡ Some l → find key_cmp q olds ≢ l
    by (Some value) is rest f = rest (is ∙ f)
    by None is rest f = elim (cases_Bool (same_key q c.0)) [
      | inl t ↦
          let s : Some c.1 ≡ Some l = sym (ap (λ b. cond b (Some c.1) None) t) ∙ f in
          let value : c.1 ≡ l = cc in
          λ same. all.0 (ap (λ (k : Key). find key_cmp k olds) (sym (same_is q c.0 t)) ∙ same ∙ sym value)
      | inr n ↦ absurd (let s : None ≡ Some l = sym (ap (λ b. cond b (Some c.1) None) n) ∙ f in cc)
    ]

-- ---- rows of which the first go, the next stay and the last are put

-- a row is found among those where it stands
found_all : (xs ks : List Plain) → AllByRecursion (λ x. find key_cmp x.0 (xs ++ ks) ≢ None) xs
found_all [] ks = tt
found_all (x ∷ xs) ks = (
  rw (itself x.0) (λ none. (let z : Some x.1 ≡ None = none in cc)),
  all_turned (λ y. find key_cmp y.0 (xs ++ ks) ≢ None) (λ y. find key_cmp y.0 (x ∷ (xs ++ ks)) ≢ None) xs
      (λ y there. elim (cases_Bool (same_key y.0 x.0)) [ inl t ↦ rw t (λ none. (let z : Some x.1 ≡ None = none in cc)) | inr f ↦ rw f there ])
      (found_all xs ks),
)

-- and none that stands after them all
absent_one : (o : Plain) (os s : List Plain) → AllByRecursion (IsAbove o.0) s → AllByRecursion (λ x. find key_cmp x.0 os ≡ None) s → AllByRecursion (λ x. find key_cmp x.0 (o ∷ os) ≡ None) s
absent_one o os [] above none = tt
absent_one o os (x ∷ s) above none = (rw (other_key x.0 o.0 (λ e. less_apart o.0 x.0 above.0 (sym e))) none.0, absent_one o os s above.1 none.1)

absent_all : (os s : List Plain) → Rises (os ++ s) → AllByRecursion (λ x. find key_cmp x.0 os ≡ None) s
absent_all [] [] up = tt
absent_all [] (x ∷ s) up = (refl, absent_all [] s up.1)
absent_all (o ∷ os) s up = absent_one o os s (all_back (IsAbove o.0) os s up.0) (absent_all os s up.1)

gone_others : (zs xs : List Plain) → AllByRecursion (λ x. find key_cmp x.0 zs ≢ None) xs → AllByRecursion (IsOther zs) (map gone_by xs)
gone_others zs [] all = tt
gone_others zs (x ∷ xs) all = (all.0, gone_others zs xs all.1)

put_others : (zs xs : List Plain) → AllByRecursion (λ x. find key_cmp x.0 zs ≡ None) xs → AllByRecursion (IsOther zs) (map put xs)
put_others zs [] all = tt
put_others zs (x ∷ xs) all = ((λ same. (let z : None ≡ Some x.1 = sym all.0 ∙ same in cc)), put_others zs xs all.1)

grouped : (r k p : List Plain) → Rises (r ++ (k ++ p)) → Rises ((r ++ k) ++ p)
grouped [] k p up = up
grouped (x ∷ r) k p up = (all_grouped r (IsAbove x.0) up.0, grouped r k p up.1)
  where
    all_grouped : (xs : List Plain) (P : Plain → Type 0) → AllByRecursion P (xs ++ (k ++ p)) → AllByRecursion P ((xs ++ k) ++ p)
    all_grouped [] P all = all
    all_grouped (y ∷ xs) P all = (all.0, all_grouped xs P all.1)

cut_differs : (q : Key) (r k p : List Plain) → Rises (r ++ (k ++ p)) → DiffersAt q (r ++ k) (cut_changes r p)
cut_differs q r k p up =
    differs_by q (r ++ k) (cut_changes r p)
    (all_both (IsOther (r ++ k)) (map gone_by r) (map put p) (gone_others (r ++ k) r (found_all r k)) (put_others (r ++ k) p (absent_all (r ++ k) p (grouped r k p up))))

-- ---- one lane
messages_differ : (p : ℕ) (k : KeptLane) → IsSoundLane k → (q : Key) → DiffersAt q (waiting_of p k.told) (message_changes p k)
messages_differ p k sound q l e same =
    cut_differs q _ (message_rows p (suc k.lane.gone) sound.0.kept) _ (rows_rise p k sound.0 sound.1) l
    (ap (λ (cs : List Left). left_in cs q) (sym (changes_are p k sound.0 sound.1)) ∙ e)
    (ap (find key_cmp q) (sym (told_rows p k sound.0 sound.1)) ∙ same)

-- two numbers are told apart by their bytes
one_value_each : (x y z w : ℕ) → x < 2 ^ 62 → y < 2 ^ 62 → z < 2 ^ 62 → w < 2 ^ 62 → numbers_value x y ≡ numbers_value z w → (x ≡ z) × (y ≡ w)
one_value_each x y z w a b c d e = (
  one_place x z (omega (arith, a)) (omega (arith, c)) (let f : (number w64).bytes x ≡ (number w64).bytes z = ap (take 8) e in f),
  one_place y w (omega (arith, b)) (omega (arith, d)) (let f : (number w64).bytes y ≡ (number w64).bytes w = ap (drop 8) e in f),
)

both_same : (x y z w : ℕ) → x ≡ z → y ≡ w → ((x == z) && (y == w)) ≡ true
both_same x y z w e f = rw (e, f) (grind arith)

number_other : (p x y z w : ℕ) → x < 2 ^ 62 → y < 2 ^ 62 → z < 2 ^ 62 → w < 2 ^ 62 → ((x == z) && (y == w)) ≡ false → find key_cmp (numbers_key p) (numbers_rows p x y) ≢ Some (numbers_value z w)
number_other p x y z w a b c d other same = by ((x == 0) && (y == 0)) refl
  where
    by : (none : Bool) → ((x == 0) && (y == 0)) ≡ none → ⊥
    by true zeros = (let s : None ≡ Some (numbers_value z w) = sym (ap (λ t. find key_cmp (numbers_key p) (if t then [] else (numbers_key p, numbers_value x y) ∷ [])) zeros) ∙ same in cc)
    by false some =
        (let there : find key_cmp (numbers_key p) (numbers_rows p x y) ≡ Some (numbers_value x y) = rw (some, itself (numbers_key p)) refl in
        let s : Some (numbers_value x y) ≡ Some (numbers_value z w) = sym there ∙ same in
        let value : numbers_value x y ≡ numbers_value z w = cc in
        let both = one_value_each x y z w a b c d value in
        true≢false (sym (both_same x y z w both.0 both.1) ∙ other))

numbers_differ : (p : ℕ) (k : KeptLane) → IsSoundLane k → (q : Key) → DiffersAt q (numbers_of p k.told) (numbers_changes p k)
numbers_differ p k sound q = differs_by q (numbers_of p k.told) (numbers_changes p k) (by ((last_put k.told == last_put k.lane) && (k.told.took == k.lane.took)) refl)
  where
    last : Left
    last = (numbers_key p, Some (numbers_value (last_put k.lane) k.lane.took))

    by : (t : Bool) → ((last_put k.told == last_put k.lane) && (k.told.took == k.lane.took)) ≡ t → AllByRecursion (IsOther (numbers_of p k.told)) (if t then [] else (numbers_key p, Some (numbers_value (last_put k.lane) k.lane.took)) ∷ [])
    by true same = tt
    by false other = (
      let less = no_less p k sound.0 sound.1 in
          number_other p (last_put k.told) k.told.took (last_put k.lane) k.lane.took (omega (arith, less, sound.1)) (omega (arith, sound.0.took, sound.2)) sound.1 sound.2 other,
      tt,
    )

-- ---- all lanes
module _ {X : Type 0} (olds : ℕ → X → List Plain) (cs : ℕ → X → List Left) (own_olds : GivesOwn olds) (own_cs : GivesOwn cs) (Q : X → Type 0) (one : (p : ℕ) (x : X) → Q x → (q : Key) → DiffersAt q (olds p x) (cs p x)) where
  each_differs : (p : ℕ) (xs : List X) → p + length xs ≤ 2 ^ 16 → AllByRecursion Q xs → (q : Key) → DiffersAt q (each olds p xs) (each cs p xs)
  each_differs p [] few all q l e same = (let z : None ≡ Some l = e in cc)
  each_differs p (x ∷ xs) few all q l e same = by_owner q.1.0 (owner p)
      (λ is.
      let last : suc p + length xs ≤ 2 ^ 16 = omega (arith, few) in
      let Apart : Key → Type 0 = λ k. k.1.0 ≢ owner p in
      let no_old = find_none q Apart (each olds (suc p) xs) (each_apart olds own_olds p (suc p) xs (omega arith) last) (λ apart. apart is) in
      let no_change = left_none q Apart (each cs (suc p) xs) (each_apart cs own_cs p (suc p) xs (omega arith) last) (λ apart. apart is) in
      one p x all.0 q l (sym (left_both q (cs p x) (each cs (suc p) xs) ∙ ap (λ o. or_else o (left_in (cs p x) q)) no_change) ∙ e)
      (sym (find_both q (olds p x) (each olds (suc p) xs) ∙ ap (either (find key_cmp q (olds p x))) no_old ∙ either_none (find key_cmp q (olds p x))) ∙ same))
      (λ apart.
      let Own : Key → Type 0 = λ k. k.1.0 ≡ owner p in
      let no_old = find_none q Own (olds p x) (own_olds p x) apart in
      let no_change = left_none q Own (cs p x) (own_cs p x) apart in
      each_differs (suc p) xs (omega (arith, few)) all.1 q l (sym (left_both q (cs p x) (each cs (suc p) xs) ∙ ap (or_else (left_in (each cs (suc p) xs) q)) no_change ∙ or_else_none (left_in (each cs (suc p) xs) q)) ∙ e)
      (sym (find_both q (olds p x) (each olds (suc p) xs) ∙ ap (λ o. either o (find key_cmp q (each olds (suc p) xs))) no_old) ∙ same))

module _ (ks : List KeptLane) (few : length ks ≤ 2 ^ 16) (all : AllByRecursion IsSoundLane ks) where
  abbrev messages : List Plain
  messages = each (λ p k. waiting_of p k.told) 0 ks

  abbrev numbers : List Plain
  numbers = each (λ p k. numbers_of p k.told) 0 ks

  abbrev changed_messages : List Left
  changed_messages = each message_changes 0 ks

  abbrev changed_numbers : List Left
  changed_numbers = each numbers_changes 0 ks

  enough : 0 + length ks ≤ 2 ^ 16
  enough = omega (arith, few)

  all_messages : (q : Key) → DiffersAt q messages changed_messages
  all_messages = each_differs (λ p k. waiting_of p k.told) message_changes (λ p k. owns 7 p _ (messages_of p (suc k.told.gone) k.told.waiting)) (λ p k. owns 7 p _ (message_changes_of p k)) IsSoundLane messages_differ 0 ks enough all

  all_numbers : (q : Key) → DiffersAt q numbers changed_numbers
  all_numbers = each_differs (λ p k. numbers_of p k.told) numbers_changes (λ p k. owns 8 p _ (numbers_are p (last_put k.told) k.told.took)) (λ p k. owns 8 p _ (numbers_changes_of p k)) IsSoundLane numbers_differ 0 ks enough all

  whole : (q : Key) → DiffersAt q (messages ++ numbers) (changed_messages ++ changed_numbers)
  whole q l e same = elim (cases_eq q.0 8) [
    | inl eight ↦
        let Seven : Key → Type 0 = λ k. k.0 ≡ 7 in
        let not : q.0 ≡ 7 → ⊥ = λ e. omega (arith, e, eight) in
        let old = find_none q Seven messages (each_all (λ e. e.0.0 ≡ 7) (λ p k. waiting_of p k.told) (λ p k. kinds 7 p _ (messages_of p (suc k.told.gone) k.told.waiting)) 0 ks) not in
        let change = left_none q Seven changed_messages (each_all (λ e. e.0.0 ≡ 7) message_changes (λ p k. kinds 7 p _ (message_changes_of p k)) 0 ks) not in
        all_numbers q l (sym (left_both q changed_messages changed_numbers ∙ ap (or_else (left_in changed_numbers q)) change ∙ or_else_none (left_in changed_numbers q)) ∙ e)
        (sym (find_both q messages numbers ∙ ap (λ o. either o (find key_cmp q numbers)) old) ∙ same)
    | inr other ↦
        let Eight : Key → Type 0 = λ k. k.0 ≡ 8 in
        let old = find_none q Eight numbers (each_all (λ e. e.0.0 ≡ 8) (λ p k. numbers_of p k.told) (λ p k. kinds 8 p _ (numbers_are p (last_put k.told) k.told.took)) 0 ks) other in
        let change = left_none q Eight changed_numbers (each_all (λ e. e.0.0 ≡ 8) numbers_changes (λ p k. kinds 8 p _ (numbers_changes_of p k)) 0 ks) other in
        all_messages q l (sym (left_both q changed_messages changed_numbers ∙ ap (λ o. or_else o (left_in changed_messages q)) change) ∙ e)
        (sym (find_both q messages numbers ∙ ap (either (find key_cmp q messages)) old ∙ either_none (find key_cmp q messages)) ∙ same)
  ]

  told_are : rows_of (told_of ks) ≡ messages ++ numbers
  told_are = λ i. each_map (λ k. k.told) waiting_of 0 ks i ++ each_map (λ k. k.told) numbers_of 0 ks i

  -- what is left at a key that is named is another row
  left_other : (out : List Change) → map left_of out ≡ changes_of ks → (q : Key) (l : Option (List ℕ)) → left_by out q ≡ Some l → row_at (told_of ks) q ≢ l
  left_other out made q l e same = whole q l (sym (left_by_in out q ∙ ap (λ cs. left_in cs q) made) ∙ e) (ap (find key_cmp q) (sym told_are) ∙ same)

pub changes_differ : (ks : List KeptLane) (out : List Change) → length ks ≤ 2 ^ 16 → AllByRecursion IsSoundLane ks → map left_of out ≡ changes_of ks → AllDiffer (row_at (told_of ks)) (row_at (now_of ks)) out
changes_differ ks out few all made q named same = by (left_by out q) refl
  where
    by : (left : Option (Option (List ℕ))) → left_by out q ≡ left → ⊥
    by None e = named e
    by (Some l) e = elim (cases_Bool (is_lane_kind q.0)) [
      | inl own ↦ left_other ks few all out made q l e (sym same ∙ (lanes_lead ks few all out made).own q own ∙ ap (λ o. left_or o (row_at (told_of ks) q)) e)
      | inr not ↦ named ((lanes_lead ks few all out made).others q not)
    ]
