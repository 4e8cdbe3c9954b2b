-- Values that end as the value before does, spelled once and read again.
use Rattle.std.proofs.Common.{◌≡◌, ◌⊎◌, inl, inr, get_or, nat_lt, min, ◌≤◌, ◌<◌, ◌+◌, ◌-◌, ◌^◌, ◌==◌, ◌||◌, ℕ, zero, suc, Bool, true, false, not, List, [], ◌∷◌, ◌++◌, length, take, drop, Option, Some, None, Result, Ok, Err, OnOk, refl, sym, ap, subst, ◌∙◌, arith, eq-eqb, length-append, append_assoc}
use Rattle.std.specs.Prelude.{reverse, if◌then◌else◌}
use Rattle.std.specs.List.{AllByRecursion}
use Rattle.std.proofs.lemmas.Bool.{cases_Bool, eqb-true, ltb-false, ltb-true}
use Rattle.std.proofs.lemmas.List.{get_or-reverse, length-drop, length-reverse, reverse-append, reverse-reverse, take-append-drop}
use Rattle.mqtt_fields.specs.Numbers.{long}
use Rattle.mqtt_fields.specs.declared.fault.FieldFault.{FieldFault}
use Rattle.mqtt_fields.specs.declared.fault.FieldFault.TheVariants.{Short, Malformed, Repeated, NotHere, NoMemory}
use Rattle.mqtt_fields.specs.Reading.{Fails}
use Rattle.row_store.specs.Rows.{Key}
use Rattle.row_journal.specs.Fields.{or_malformed}
use Rattle.row_store.specs.Noted.{Pair}
use Rattle.row_journal.specs.Spelling.{Item, Tells, Value, ValueFits, common, common_end, ended, is_long, item, items_of, last_put, pair_onto, pairs_in, pairs_onto, put_by, value_in, value_of}
use Rattle.row_journal.specs.Spelling.Value.{Removed, Whole, Ended}

-- ---- first bytes that are alike

common_front : (xs ys : List ℕ) → take (common xs ys) xs ≡ take (common xs ys) ys
common_front [] [] = refl
common_front [] (y ∷ ys) = refl
common_front (x ∷ xs) [] = refl
common_front (x ∷ xs) (y ∷ ys) = by (x == y) refl (common_front xs ys)
  where
    by : (b : Bool) → (x == y) ≡ b → take (common xs ys) xs ≡ take (common xs ys) ys → take (if b then suc (common xs ys) else 0) (x ∷ xs) ≡ take (if b then suc (common xs ys) else 0) (y ∷ ys)
    by true is more = λ i. eqb-true x y is i ∷ more i
    by false is more = refl

pub common_within : (xs ys : List ℕ) → (common xs ys ≤ length xs) × (common xs ys ≤ length ys)
common_within [] ys = (omega arith, omega arith)
common_within (x ∷ xs) [] = (omega arith, omega arith)
common_within (x ∷ xs) (y ∷ ys) = by (x == y) (common_within xs ys)
  where
    by : (b : Bool) → (common xs ys ≤ length xs) × (common xs ys ≤ length ys) → ((if b then suc (common xs ys) else 0) ≤ length (x ∷ xs)) × ((if b then suc (common xs ys) else 0) ≤ length (y ∷ ys))
    by true h = (omega (arith, h.0), omega (arith, h.1))
    by false h = (omega arith, omega arith)

pub end_within : (xs ys : List ℕ) → (common_end xs ys ≤ length xs) × (common_end xs ys ≤ length ys)
end_within xs ys = let h = common_within (reverse xs) (reverse ys) in (omega (arith, h.0, length-reverse xs), omega (arith, h.1, length-reverse ys))

-- ---- last bytes

take_front : (xs ys : List ℕ) (n : ℕ) → length xs ≡ n → take n (xs ++ ys) ≡ xs
take_front xs ys n is = ap (λ k. take k (xs ++ ys)) (sym is) ∙ all xs
  where
    all : (xs : List ℕ) → take (length xs) (xs ++ ys) ≡ xs
    all [] = refl
    all (x ∷ xs) = ap (λ zs. x ∷ zs) (all xs)

last_of : (n : ℕ) (xs : List ℕ) → n ≤ length xs → drop (length xs - n) xs ≡ reverse (take n (reverse xs))
last_of n xs low =
    let k = length xs - n in
    let turned : reverse xs ≡ reverse (drop k xs) ++ reverse (take k xs) = ap reverse (sym (take-append-drop k xs)) ∙ reverse-append (take k xs) (drop k xs) in
    let long : length (reverse (drop k xs)) ≡ n = omega (arith, length-reverse (drop k xs), length-drop k xs, low) in
    sym (ap (λ zs. reverse (take n zs)) turned ∙ ap reverse (take_front (reverse (drop k xs)) (reverse (take k xs)) n long) ∙ reverse-reverse (drop k xs))

end_same : (xs ys : List ℕ) → drop (length xs - common_end xs ys) xs ≡ drop (length ys - common_end xs ys) ys
end_same xs ys =
    let n = common_end xs ys in
    let within = end_within xs ys in
    last_of n xs within.0 ∙ ap reverse (common_front (reverse xs) (reverse ys)) ∙ sym (last_of n ys within.1)

-- ---- a value

some_or : {A : Type 0} → A → Option A → A
some_or d None = d
some_or d (Some a) = a

some_is : {A : Type 0} (a b : A) → Some a ≡ Some b → a ≡ b
unfolding some_or
some_is a b e = ap (some_or a) e

value_back : (before : List ℕ) (x : Value) (o : Option (List ℕ)) → value_in before x ≡ Some o → value_of before o ≡ x
value_back before Removed o e = subst (λ v. value_of before v ≡ Removed) (some_is None o e) refl
value_back before (Whole v) o e = by (is_long (common_end before v)) refl e
  where
    by : (b : Bool) → is_long (common_end before v) ≡ b → (if b then None else Some (Some v)) ≡ Some o → value_of before o ≡ Whole v
    by true is e = absurd cc
    by false is e = subst (λ w. value_of before w ≡ Whole v) (some_is (Some v) o e) (ap (λ b. put_by b (common_end before v) v) is)
value_back before (Ended own n) o e = by (is_long n) refl (common_end before w == n) refl e
  where
    w : List ℕ
    w = ended before own n

    made : is_long n ≡ true → common_end before w ≡ n → value_of before (Some w) ≡ Ended own n
    made is same =
        let low : n ≤ length before = omega (arith, same, (end_within before w).0) in
        let left : length own ≡ length w - n = omega (arith, length-append own (drop (length before - n) before), length-drop (length before - n) before, low) in
        ap (λ k. put_by (is_long k) k w) same ∙ ap (λ b. put_by b n w) is ∙ ap (λ l. Ended l n) (take_front own (drop (length before - n) before) (length w - n) left)

    by : (b : Bool) → is_long n ≡ b → (c : Bool) → (common_end before w == n) ≡ c → (if not b || not c then None else Some (Some w)) ≡ Some o → value_of before o ≡ Ended own n
    by false is c same e = absurd cc
    by true is false same e = absurd cc
    by true is true same e = subst (λ v. value_of before v ≡ Ended own n) (some_is (Some w) o e) (made is (eqb-true (common_end before w) n same))

value_forth : (before : List ℕ) (o : Option (List ℕ)) → value_in before (value_of before o) ≡ Some o
value_forth before None = refl
value_forth before (Some v) = by (is_long (common_end before v)) refl
  where
    n : ℕ
    n = common_end before v

    own : List ℕ
    own = take (length v - n) v

    whole : ended before own n ≡ v
    whole = ap (λ zs. own ++ zs) (end_same before v) ∙ take-append-drop (length v - n) v

    by : (b : Bool) → is_long (common_end before v) ≡ b → value_in before (put_by b (common_end before v) v) ≡ Some (Some v)
    by false is = ap (λ b. if b then None else Some (Some v)) is
    by true is = (λ i. if not (is i) || not (common_end before (whole i) == n) then None else Some (Some (whole i))) ∙ ap (λ b. if not b then None else Some (Some v)) (eq-eqb n n refl)

-- ---- values one after another

items_onto : (before : List ℕ) (x : Item) (items : List Item) (ps : List Pair) (v : Option (List ℕ)) → value_in before x.1 ≡ Some v
    → ((more : List Pair) → pairs_in (last_put before v) items ≡ Some more → items_of (last_put before v) more ≡ items)
    → (m : Option (List Pair)) → pairs_in (last_put before v) items ≡ m → pair_onto x.0 v m ≡ Some ps → items_of before ps ≡ x ∷ items
items_onto before x items ps v is later None rest e = absurd cc
items_onto before x items ps v is later (Some more) rest e =
    subst (λ qs. items_of before qs ≡ x ∷ items) (some_is ((x.0, v) ∷ more) ps e) (λ j. (x.0, value_back before x.1 v is j) ∷ later more rest j)

items_by : (before : List ℕ) (x : Item) (items : List Item) (ps : List Pair) → ((last : List ℕ) (more : List Pair) → pairs_in last items ≡ Some more → items_of last more ≡ items)
    → (o : Option (Option (List ℕ))) → value_in before x.1 ≡ o → pairs_onto (λ v. pairs_in (last_put before v) items) x.0 o ≡ Some ps → items_of before ps ≡ x ∷ items
items_by before x items ps later None is e = absurd cc
items_by before x items ps later (Some v) is e = items_onto before x items ps v is (later (last_put before v)) (pairs_in (last_put before v) items) refl e

pub items_back : (before : List ℕ) (items : List Item) (ps : List Pair) → pairs_in before items ≡ Some ps → items_of before ps ≡ items
items_back before [] ps e = subst (λ qs. items_of before qs ≡ []) (some_is [] ps e) refl
items_back before (x ∷ items) ps e = items_by before x items ps (λ last. items_back last items) (value_in before x.1) refl e

pub items_forth : (before : List ℕ) (ps : List Pair) → pairs_in before (items_of before ps) ≡ Some ps
items_forth before [] = refl
items_forth before (p ∷ ps) = (λ i. pairs_onto (λ v. pairs_in (last_put before v) (items_of (last_put before p.1) ps)) p.0 (value_forth before p.1 i)) ∙ ap (λ m. pair_onto p.0 p.1 m) (items_forth (last_put before p.1) ps)

-- ---- what can be spelled

value_fits : (before v : List ℕ) → long.Fits v → ValueFits (value_of before (Some v))
value_fits before v fits = by (is_long (common_end before v))
  where
    by : (b : Bool) → ValueFits (put_by b (common_end before v) v)
    by false = fits
    by true = (omega (arith, fits, shorter (length v - common_end before v) v), omega (arith, fits, (end_within before v).1))
      where
        shorter : (k : ℕ) (xs : List ℕ) → length (take k xs) ≤ length xs
        shorter zero xs = omega arith
        shorter (suc k) [] = omega arith
        shorter (suc k) (x ∷ xs) = omega (arith, shorter k xs)

pub items_fit : (before : List ℕ) (ps : List Pair) → AllByRecursion Tells ps → AllByRecursion item.Fits (items_of before ps)
items_fit before [] all = tt
items_fit before ((key, None) ∷ ps) all = ((all.0.0, (all.0.1, (all.0.2, tt))), items_fit before ps all.1)
items_fit before ((key, Some v) ∷ ps) all = ((all.0.0, (all.0.1, (all.0.2, value_fits before v all.0.3))), items_fit v ps all.1)

pub items_length : (before : List ℕ) (ps : List Pair) → length (items_of before ps) ≡ length ps
items_length before [] = refl
items_length before (p ∷ ps) = ap suc (items_length (last_put before p.1) ps)

-- ---- one byte after another

drop_next : (n : ℕ) (xs : List ℕ) → n < length xs → drop n xs ≡ get_or xs n 0 ∷ drop (n + 1) xs
drop_next n [] low = absurd (omega (arith, low))
drop_next zero (x ∷ xs) low = refl
drop_next (suc n) (x ∷ xs) low = drop_next n xs (omega (arith, low)) ∙ ap (λ k. get_or xs n 0 ∷ drop k (x ∷ xs)) (one n)
  where
    one : (n : ℕ) → suc (n + 1) ≡ suc n + 1
    one n = omega arith

apart : (a b : ℕ) → (a ≡ b → ⊥) → (a == b) ≡ false
apart a b other = elim (cases_Bool (a == b)) [ inl same ↦ absurd (other (eqb-true a b same)) | inr not ↦ not ]

none_left : (n : ℕ) (xs : List ℕ) → length xs ≤ n → drop n xs ≡ []
none_left zero [] low = refl
none_left (suc n) [] low = refl
none_left zero (x ∷ xs) low = absurd (omega (arith, low))
none_left (suc n) (x ∷ xs) low = none_left n xs (omega (arith, low))

common_none : (xs : List ℕ) → common xs [] ≡ 0
common_none [] = refl
common_none (x ∷ xs) = refl

-- of the bytes before the last n
pub left_in : ℕ → List ℕ → List ℕ → ℕ
left_in n xs ys = common (drop n (reverse xs)) (drop n (reverse ys))

module _ (n : ℕ) (xs ys : List ℕ) where
  at_last : n < length xs → n < length ys → left_in n xs ys
      ≡ common (get_or xs (length xs - 1 - n) 0 ∷ drop (n + 1) (reverse xs)) (get_or ys (length ys - 1 - n) 0 ∷ drop (n + 1) (reverse ys))
  unfolding left_in
  at_last a b =
      let here : (zs : List ℕ) → n < length zs → drop n (reverse zs) ≡ get_or zs (length zs - 1 - n) 0 ∷ drop (n + 1) (reverse zs) =
      λ zs low. drop_next n (reverse zs) (omega (arith, low, length-reverse zs)) ∙ ap (λ z. z ∷ drop (n + 1) (reverse zs)) (get_or-reverse zs n 0 low) in
      λ i. common (here xs a i) (here ys b i)

  pub end_more : n < length xs → n < length ys → get_or xs (length xs - 1 - n) 0 ≡ get_or ys (length ys - 1 - n) 0 → common_end xs ys ≡ n + left_in n xs ys → common_end xs ys ≡ (n + 1) + left_in (n + 1) xs ys
  unfolding left_in
  end_more a b same so =
      let one : left_in n xs ys ≡ suc (left_in (n + 1) xs ys) =
      at_last a b ∙ ap (λ c. if c then suc (left_in (n + 1) xs ys) else 0) (eq-eqb (get_or xs (length xs - 1 - n) 0) (get_or ys (length ys - 1 - n) 0) same) in
      omega (arith, so, one)

  pub end_found : n < length xs → n < length ys → (get_or xs (length xs - 1 - n) 0 ≡ get_or ys (length ys - 1 - n) 0 → ⊥) → common_end xs ys ≡ n + left_in n xs ys → n ≡ common_end xs ys
  unfolding left_in
  end_found a b other so =
      let none : left_in n xs ys ≡ 0 =
      at_last a b ∙ ap (λ c. if c then suc (left_in (n + 1) xs ys) else 0) (apart (get_or xs (length xs - 1 - n) 0) (get_or ys (length ys - 1 - n) 0) other) in
      omega (arith, so, none)

  pub end_whole : n ≡ min (length xs) (length ys) → common_end xs ys ≡ n + left_in n xs ys → n ≡ common_end xs ys
  unfolding left_in
  end_whole is so =
      let none : left_in n xs ys ≡ 0 = elim (either n (length xs) (length ys) is) [
        | inl first ↦ ap (λ zs. common zs (drop n (reverse ys))) (none_left n (reverse xs) (omega (arith, first, length-reverse xs)))
        | inr second ↦ ap (common (drop n (reverse xs))) (none_left n (reverse ys) (omega (arith, second, length-reverse ys))) ∙ common_none (drop n (reverse xs))
      ] in
      omega (arith, so, none)
    where
      either : (n a b : ℕ) → n ≡ min a b → (a ≤ n) ⊎ (b ≤ n)
      either n a b is = by (nat_lt b a) refl
        where
          by : (c : Bool) → nat_lt b a ≡ c → (a ≤ n) ⊎ (b ≤ n)
          by true less = inr (omega (arith, is, ltb-true b a less))
          by false more = inl (omega (arith, is, ltb-false b a more))

pub end_new : (xs ys : List ℕ) → common_end xs ys ≡ 0 + left_in 0 xs ys
unfolding left_in
end_new xs ys = omega arith

-- ---- changes read one after another

-- these changes, and then those
abbrev pub onto_read : List Pair → Option (List Pair) → Option (List Pair)
onto_read done None = None
onto_read done (Some more) = Some (done ++ more)

pub onto_none : (o : Option (List Pair)) → onto_read [] o ≡ o
onto_none None = refl
onto_none (Some more) = refl

one_more : (done : List Pair) (key : Key) (v : Option (List ℕ)) (o : Option (List Pair)) → onto_read done (pair_onto key v o) ≡ onto_read (done ++ (key, v) ∷ []) o
one_more done key v None = refl
one_more done key v (Some more) = ap Some (sym (append_assoc done ((key, v) ∷ []) more))

known : (o : Option (Option (List ℕ))) (v : Option (List ℕ)) → or_malformed o ≡ Ok v → o ≡ Some v
known None v e = absurd cc
known (Some w) v e = cc

-- the next change is read
pub read_more : (done : List Pair) (before : List ℕ) (x : Item) (items : List Item) (v : Option (List ℕ)) (total : Option (List Pair)) → or_malformed (value_in before x.1) ≡ Ok v
    → onto_read done (pairs_in before (x ∷ items)) ≡ total → onto_read (done ++ (x.0, v) ∷ []) (pairs_in (last_put before v) items) ≡ total
read_more done before x items v total is so =
    sym (one_more done x.0 v (pairs_in (last_put before v) items))
    ∙ sym (ap (λ o. onto_read done (pairs_onto (λ w. pairs_in (last_put before w) items) x.0 o)) (known (value_in before x.1) v is)) ∙ so

-- it can't be read
pub read_stops : (done : List Pair) (before : List ℕ) (x : Item) (items : List Item) (fault : FieldFault) (total : Option (List Pair)) → Fails fault (or_malformed (value_in before x.1))
    → onto_read done (pairs_in before (x ∷ items)) ≡ total → Fails fault (or_malformed total)
read_stops done before x items fault total fails so = subst (λ o. Fails fault (or_malformed o)) so (by (value_in before x.1) fault fails)
  where
    by : (o : Option (Option (List ℕ))) (f : FieldFault) → Fails f (or_malformed o) → Fails f (or_malformed (onto_read done (pairs_onto (λ w. pairs_in (last_put before w) items) x.0 o)))
    by None NoMemory bad = tt
    by None Short bad = absurd cc
    by None Malformed bad = refl
    by None Repeated bad = absurd cc
    by None NotHere bad = absurd cc
    by (Some v) NoMemory bad = tt
    by (Some v) Short bad = absurd cc
    by (Some v) Malformed bad = absurd cc
    by (Some v) Repeated bad = absurd cc
    by (Some v) NotHere bad = absurd cc

-- ---- a turn that is spelled

pub turn_spelled : {X E : Type 0} (r : Result X E) (old mid new front back : List ℕ) → mid ≡ old ++ front → OnOk r (new ≡ mid ++ back) → OnOk r (new ≡ old ++ (front ++ back))
turn_spelled (Ok x) old mid new front back is so = so ∙ ap (λ m. m ++ back) is ∙ append_assoc old front back
turn_spelled (Err e) old mid new front back is so = tt
