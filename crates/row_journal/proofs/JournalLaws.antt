-- What a store with a journal shows.
use Rattle.std.proofs.Common.{◌≡◌, ◌≢◌, ◌⊎◌, inl, inr, ◌<◌, ◌+◌, ◌^◌, ◌==◌, ℕ, zero, suc, length, get_or, Bool, true, false, not, cond, List, [], ◌∷◌, ◌++◌, Option, Some, None, Result, Ok, Err, map, refl, sym, ap, ◌∙◌, arith, length-append}
use Rattle.std.specs.Int.{w64}
use Rattle.std.specs.Prelude.{flat_map}
use Rattle.std.specs.List.{AllByRecursion}
use Rattle.std.specs.Cmp.{tied_itself}
use Rattle.std.specs.Ordering.{eq_by_cmp, is_eq}
use Rattle.std.proofs.lemmas.List.{append-nil}
use Rattle.std.proofs.lemmas.Grind.{flat_map-append}
use Rattle.row_journal.specs.Spelling.{turn}
use Rattle.row_journal.proofs.TurnLaws.{turn_is}
use Rattle.std.specs.FinMap.{get, insert, remove, get-retain_keys, get-insert, get-remove, same_map}
use Rattle.mqtt_fields.specs.declared.fault.FieldFault.{FieldFault}
use Rattle.mqtt_fields.specs.Numbers.{number}
use Rattle.mqtt_fields.proofs.NumberLaws.{number_is, wide64}
use Rattle.row_store.proofs.Keys.{keys_total, exact_keys, equal_is}
use Rattle.row_store.specs.declared.row.Change.{Change}
use Rattle.row_store.specs.declared.row.Change.TheVariants.{Put, Remove}
use Rattle.row_store.specs.Rows.{Key, Content, key_cmp, after, after_all}
use Rattle.row_store.specs.Noted.{Pair, pair_of}
use Rattle.row_journal.specs.Journal.{after_pair, after_pairs, is_other, others, entry_key, removals, AreOthers, HasTurns}

-- changes make of a content what their pairs make of it
after_is : (c : Content) (change : Change) → after c change ≡ after_pair c (pair_of change)
after_is c (Put row) = refl
after_is c (Remove kind owner place) = refl

pub after_all_is : (c : Content) (changes : List Change) → after_all c changes ≡ after_pairs c (map pair_of changes)
after_all_is c [] = refl
after_all_is c (change ∷ more) = ap (λ d. after_all d more) (after_is c change) ∙ after_all_is (after_pair c (pair_of change)) more

-- one list after another
pub after_both : (c : Content) (xs ys : List Pair) → after_pairs c (xs ++ ys) ≡ after_pairs (after_pairs c xs) ys
after_both c [] ys = refl
after_both c (x ∷ xs) ys = after_both (after_pair c x) xs ys

-- ---- rows of the journal's kind, and others

not_other : (key : Key) → key.0 ≡ 240 → is_other key ≡ false
not_other key is = ap (λ n. not (n == 240)) is

pub get_other : (c : Content) (q : Key) → get (others c) q ≡ cond (is_other q) (get c q) None
get_other c q = get-retain_keys c is_other q (λ x e. ap is_other (sym (exact_keys q x e)))

hidden : (key q : Key) (v : Option (List ℕ)) (b : Bool) → key.0 ≡ 240 → eq_by_cmp key_cmp q key ≡ b → (o : Option (List ℕ)) → cond (is_other q) (cond b v o) None ≡ cond (is_other q) o None
hidden key q v false is e o = refl
hidden key q v true is e o = let hides : is_other q ≡ false = ap is_other (exact_keys q key (equal_is (key_cmp q key) e)) ∙ not_other key is in rw hides refl

-- a row of the journal that is put or removed changes no other
pub others_insert : (c : Content) (key : Key) (value : List ℕ) → key.0 ≡ 240 → others (insert c key value) ≡ others c
others_insert c key value is = same_map keys_total exact_keys (others (insert c key value)) (others c)
    (λ q. get_other (insert c key value) q ∙ ap (λ o. cond (is_other q) o None) (get-insert keys_total c key value q) ∙ hidden key q (Some value) (eq_by_cmp key_cmp q key) is refl (get c q) ∙ sym (get_other c q))

pub others_remove : (c : Content) (key : Key) → key.0 ≡ 240 → others (remove c key) ≡ others c
others_remove c key is = same_map keys_total exact_keys (others (remove c key)) (others c)
    (λ q. get_other (remove c key) q ∙ ap (λ o. cond (is_other q) o None) (get-remove keys_total c key q) ∙ hidden key q None (eq_by_cmp key_cmp q key) is refl (get c q) ∙ sym (get_other c q))

-- ---- the keys of the journal's rows

abbrev number_in : Result (ℕ × List ℕ) FieldFault → ℕ
number_in (Ok x) = x.0
number_in (Err f) = 0

pub entry_apart : (m n : ℕ) → m < 256 ^ 8 → n < 256 ^ 8 → entry_key m ≡ entry_key n → m ≡ n
entry_apart m n a b e =
    let first = (number_is w64 wide64).again m [] a in
    let second = (number_is w64 wide64).again n [] b in
    ap number_in (sym first ∙ ap (λ bs. (number w64).at (bs ++ [])) (ap (λ (k : Key). k.1.1) e) ∙ second)

-- ---- one turn more

one_past : (n count : ℕ) → n < count + 1 → (n < count) ⊎ (n ≡ count)
one_past zero zero h = inr refl
one_past zero (suc count) h = inl (omega arith)
one_past (suc n) zero h = absurd (omega (arith, h))
one_past (suc n) (suc count) h = elim (one_past n count (omega (arith, h))) [ inl b ↦ inl (omega (arith, b)) | inr e ↦ inr (ap suc e) ]

front : {A : Type 0} (xs : List A) (x d : A) (n : ℕ) → n < length xs → get_or (xs ++ x ∷ []) n d ≡ get_or xs n d
front [] x d n h = absurd (omega (arith, h))
front (y ∷ ys) x d zero h = refl
front (y ∷ ys) x d (suc n) h = front ys x d n (omega (arith, h))

last : {A : Type 0} (xs : List A) (x d : A) → get_or (xs ++ x ∷ []) (length xs) d ≡ x
last [] x d = refl
last (y ∷ ys) x d = last ys x d

unequal : (b : Bool) → (b ≡ true → ⊥) → (x y : Option (List ℕ)) → cond b x y ≡ y
unequal true untied x y = absurd (untied refl)
unequal false untied x y = refl

elsewhere : (c : Content) (key q : Key) (v : List ℕ) → q ≢ key → get (insert c key v) q ≡ get c q
elsewhere c key q v other = get-insert keys_total c key v q ∙ unequal (eq_by_cmp key_cmp q key) (λ e. other (exact_keys q key (equal_is (key_cmp q key) e))) (Some v) (get c q)

there : (c : Content) (key : Key) (v : List ℕ) → get (insert c key v) key ≡ Some v
there c key v = get-insert keys_total c key v key ∙ ap (λ o. cond (is_eq o) (Some v) (get c key)) (tied_itself keys_total key)

pub all_more : {A : Type 0} (P : A → Type 0) (xs : List A) (x : A) → AllByRecursion P xs → P x → AllByRecursion P (xs ++ x ∷ [])
all_more P [] x all one = (one, tt)
all_more P (y ∷ ys) x all one = (all.0, all_more P ys x all.1 one)

pub length_more : {A : Type 0} (xs : List A) (x : A) → length (xs ++ x ∷ []) ≡ length xs + 1
length_more xs x = length-append xs (x ∷ [])

-- a turn that is put under the next number is one turn more
pub turns_more : (c : Content) (turns : List (List Pair)) (xs : List Pair) → length turns < 256 ^ 8 → turn.Fits xs → HasTurns c turns
    → HasTurns (insert c (entry_key (length turns)) (turn.bytes xs)) (turns ++ xs ∷ [])
turns_more c turns xs few fits h = record {
  here = λ n below. elim (one_past n (length turns) (omega (arith, below, length_more turns xs))) [
    | inl b ↦ elsewhere c (entry_key (length turns)) (entry_key n) (turn.bytes xs) (λ e. absurd (omega (arith, b, entry_apart n (length turns) (omega (arith, b, few)) few e)))
        ∙ h.here n b ∙ ap (λ t. Some (turn.bytes t)) (sym (front turns xs [] n b))
    | inr e ↦ ap (λ k. get (insert c (entry_key (length turns)) (turn.bytes xs)) (entry_key k)) e ∙ there c (entry_key (length turns)) (turn.bytes xs)
        ∙ ap (λ t. Some (turn.bytes t)) (sym (ap (λ k. get_or (turns ++ xs ∷ []) k []) e ∙ last turns xs []))
  ];
  none = λ key is apart. elsewhere c (entry_key (length turns)) key (turn.bytes xs) (apart (length turns) (omega (arith, length_more turns xs)))
      ∙ h.none key is (λ n b. apart n (omega (arith, b, length_more turns xs)));
  fit = all_more turn.Fits turns xs h.fit fits;
}

-- the changes of one turn more
pub flat_more : (turns : List (List Pair)) (xs : List Pair) → flat_map (λ t. t) (turns ++ xs ∷ []) ≡ flat_map (λ t. t) turns ++ xs
flat_more turns xs = flat_map-append (λ t. t) turns (xs ∷ []) ∙ ap (λ ys. flat_map (λ t. t) turns ++ ys) (append-nil xs)

-- ---- a store has one journal

turns_in : Result (List Pair × List ℕ) FieldFault → List Pair
turns_in (Ok x) = x.0
turns_in (Err f) = []

spelled_once : (xs ys : List Pair) → turn.Fits xs → turn.Fits ys → turn.bytes xs ≡ turn.bytes ys → xs ≡ ys
unfolding turns_in
spelled_once xs ys a b e = ap turns_in (sym (turn_is.again xs [] a) ∙ ap (λ bs. turn.at (bs ++ [])) e ∙ turn_is.again ys [] b)

fit_at : (turns : List (List Pair)) (n : ℕ) → n < length turns → AllByRecursion turn.Fits turns → turn.Fits (get_or turns n [])
fit_at [] n h all = absurd (omega (arith, h))
fit_at (t ∷ ts) zero h all = all.0
fit_at (t ∷ ts) (suc n) h all = fit_at ts n (omega (arith, h)) all.1

same_lists : {A : Type 0} (d : A) (xs ys : List A) → length xs ≡ length ys → ((n : ℕ) → n < length xs → get_or xs n d ≡ get_or ys n d) → xs ≡ ys
same_lists d [] [] e each = refl
same_lists d [] (y ∷ ys) e each = absurd (omega (arith, e))
same_lists d (x ∷ xs) [] e each = absurd (omega (arith, e))
same_lists d (x ∷ xs) (y ∷ ys) e each = λ i. each 0 (omega arith) i ∷ same_lists d xs ys (omega (arith, e)) (λ n h. each (suc n) (omega (arith, h))) i

some_in : Option (List ℕ) → List ℕ
some_in None = []
some_in (Some x) = x

none_is : (o : Option (List ℕ)) (x : List ℕ) → o ≡ None → o ≡ Some x → ⊥
none_is None x a b = absurd cc
none_is (Some y) x a b = absurd cc

not_shorter : (c : Content) (ts us : List (List Pair)) → length us < 256 ^ 8 → HasTurns c ts → HasTurns c us → length ts < length us → ⊥
not_shorter c ts us few a b less = none_is (get c (entry_key (length ts))) _
    (a.none (entry_key (length ts)) refl (λ n h e. absurd (omega (arith, h, entry_apart (length ts) n (omega (arith, less, few)) (omega (arith, h, less, few)) e))))
    (b.here (length ts) less)

alike : (m n : ℕ) → (m < n → ⊥) → (n < m → ⊥) → m ≡ n
alike zero zero a b = refl
alike zero (suc n) a b = absurd (a (omega arith))
alike (suc m) zero a b = absurd (b (omega arith))
alike (suc m) (suc n) a b = ap suc (alike m n (λ h. a (omega (arith, h))) (λ h. b (omega (arith, h))))

pub turns_once : (c : Content) (ts us : List (List Pair)) → length ts < 256 ^ 8 → length us < 256 ^ 8 → HasTurns c ts → HasTurns c us → ts ≡ us
unfolding some_in
turns_once c ts us few less a b =
    let long : length ts < length us → ⊥ = not_shorter c ts us less a b in
    let short : length us < length ts → ⊥ = not_shorter c us ts few b a in
    let same = alike (length ts) (length us) long short in
    same_lists [] ts us same (λ n h. spelled_once (get_or ts n []) (get_or us n []) (fit_at ts n h a.fit) (fit_at us n (omega (arith, h, same)) b.fit)
    (ap some_in (sym (a.here n h) ∙ b.here n (omega (arith, h, same)))))

-- ---- a fold

swap : (b o : Bool) → (b ≡ true → o ≡ true) → (v x : Option (List ℕ)) → cond o (cond b v x) None ≡ cond b v (cond o x None)
swap false o h v x = refl
swap true o h v x = rw (h refl) refl

tied_other : (q key : Key) → is_other key ≡ true → eq_by_cmp key_cmp q key ≡ true → is_other q ≡ true
tied_other q key is e = ap is_other (exact_keys q key (equal_is (key_cmp q key) e)) ∙ is

others_pair : (c : Content) (p : Pair) → is_other p.0 ≡ true → others (after_pair c p) ≡ after_pair (others c) p
others_pair c (key, Some v) is = same_map keys_total exact_keys (others (insert c key v)) (insert (others c) key v)
    (λ q. get_other (insert c key v) q ∙ ap (λ o. cond (is_other q) o None) (get-insert keys_total c key v q)
    ∙ swap (eq_by_cmp key_cmp q key) (is_other q) (tied_other q key is) (Some v) (get c q)
    ∙ sym (get-insert keys_total (others c) key v q ∙ ap (cond (eq_by_cmp key_cmp q key) (Some v)) (get_other c q)))
others_pair c (key, None) is = same_map keys_total exact_keys (others (remove c key)) (remove (others c) key)
    (λ q. get_other (remove c key) q ∙ ap (λ o. cond (is_other q) o None) (get-remove keys_total c key q)
    ∙ swap (eq_by_cmp key_cmp q key) (is_other q) (tied_other q key is) None (get c q)
    ∙ sym (get-remove keys_total (others c) key q ∙ ap (cond (eq_by_cmp key_cmp q key) None) (get_other c q)))

pub others_pairs : (c : Content) (ps : List Pair) → AreOthers ps → others (after_pairs c ps) ≡ after_pairs (others c) ps
others_pairs c [] all = refl
others_pairs c (p ∷ ps) all = others_pairs (after_pair c p) ps all.1 ∙ ap (λ d. after_pairs d ps) (others_pair c p all.0)

untied : (q key : Key) → q.0 ≡ 240 → is_other key ≡ true → eq_by_cmp key_cmp q key ≡ true → ⊥
untied q key is other e = absurd (let t : false ≡ true = sym (not_other q is) ∙ tied_other q key other e in cc)

stays : (c : Content) (p : Pair) (q : Key) → q.0 ≡ 240 → is_other p.0 ≡ true → get (after_pair c p) q ≡ get c q
stays c (key, Some v) q is other = get-insert keys_total c key v q ∙ unequal (eq_by_cmp key_cmp q key) (untied q key is other) (Some v) (get c q)
stays c (key, None) q is other = get-remove keys_total c key q ∙ unequal (eq_by_cmp key_cmp q key) (untied q key is other) None (get c q)

stay : (c : Content) (ps : List Pair) (q : Key) → q.0 ≡ 240 → AreOthers ps → get (after_pairs c ps) q ≡ get c q
stay c [] q is all = refl
stay c (p ∷ ps) q is all = stay (after_pair c p) ps q is all.1 ∙ stays c p q is all.0

one_later : (n : ℕ) → n + 1 ≡ suc n
one_later n = omega arith

pub removals_more : (n : ℕ) → removals (n + 1) ≡ removals n ++ (entry_key n, None) ∷ []
removals_more n = ap removals (one_later n)

others_removals : (c : Content) (n : ℕ) → others (after_pairs c (removals n)) ≡ others c
others_removals c zero = refl
others_removals c (suc n) = ap others (after_both c (removals n) ((entry_key n, None) ∷ []))
    ∙ others_remove (after_pairs c (removals n)) (entry_key n) refl ∙ others_removals c n

pub at_itself : (q : Key) → eq_by_cmp key_cmp q q ≡ true
at_itself q = ap is_eq (tied_itself keys_total q)

at_it : (q key : Key) → q ≡ key → eq_by_cmp key_cmp q key ≡ true
at_it q key is = ap (λ k. eq_by_cmp key_cmp q k) (sym is) ∙ ap is_eq (tied_itself keys_total q)

gone_or : (q key : Key) (b : Bool) → eq_by_cmp key_cmp q key ≡ b → (o : Option (List ℕ)) → (q ≢ key → o ≡ None) → cond b None o ≡ None
gone_or q key true e o none = refl
gone_or q key false e o none = none (λ is. absurd (let t : true ≡ false = sym (at_it q key is) ∙ e in cc))

-- where a row stands only at the keys of these, none is left
gone : (c : Content) (n : ℕ) (q : Key) → (((m : ℕ) → m < n → q ≢ entry_key m) → get c q ≡ None) → get (after_pairs c (removals n)) q ≡ None
gone c zero q all = all (λ m h. absurd (omega (arith, h)))
gone c (suc n) q all = ap (λ d. get d q) (after_both c (removals n) ((entry_key n, None) ∷ []))
    ∙ get-remove keys_total (after_pairs c (removals n)) (entry_key n) q
    ∙ gone_or q (entry_key n) (eq_by_cmp key_cmp q (entry_key n)) refl (get (after_pairs c (removals n)) q)
    (λ apart. gone c n q (λ before. all (λ m h is. elim (one_past m n (omega (arith, h))) [ inl b ↦ before m b is | inr s ↦ apart (is ∙ ap entry_key s) ])))

-- changes of other kinds, and the removals of all rows of the journal, leave no journal, and of the other rows what these changes make
pub fold_leaves : (c : Content) (turns : List (List Pair)) (ps : List Pair) → HasTurns c turns → AreOthers ps
    → HasTurns (after_pairs c (ps ++ removals (length turns))) [] × (others (after_pairs c (ps ++ removals (length turns))) ≡ after_pairs (others c) ps)
fold_leaves c turns ps has plain =
    let n = length turns in
    let d = after_pairs c ps in (
      record {
        here = λ m h. absurd (omega (arith, h));
        none = λ key is all. ap (λ x. get x key) (after_both c ps (removals n)) ∙ gone d n key (λ apart. stay c ps key is plain ∙ has.none key is apart);
        fit = tt;
      },
      ap others (after_both c ps (removals n)) ∙ others_removals d n ∙ others_pairs c ps plain,
    )

-- changes of other kinds leave the journal as it is
pub plain_leaves : (c : Content) (turns : List (List Pair)) (ps : List Pair) → HasTurns c turns → AreOthers ps → HasTurns (after_pairs c ps) turns
plain_leaves c turns ps has plain = record {
  here = λ n h. stay c ps (entry_key n) refl plain ∙ has.here n h;
  none = λ key is all. stay c ps key is plain ∙ has.none key is all;
  fit = has.fit;
}
