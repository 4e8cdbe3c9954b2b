-- The removals of a session that is over leave none of its rows.
use Rattle.std.proofs.Common.{◌≡◌, ◌≢◌, ℕ, ◌<◌, ◌≤◌, ◌^◌, ◌++◌, ◌⊎◌, Bool, true, false, cond, List, [], ◌∷◌, Option, Some, None, refl, sym, ap, subst, ◌∙◌, inl, inr, arith}
use Rattle.std.specs.Prelude.{◌==◌, nat_lt, IfSome, option_map}
use Rattle.std.proofs.lemmas.Bool.{cases_Bool, cases_eq, eqb-true, eq-eqb, lt-ltb, ltb-true, false≢true, or_cases, or_left, or_right}
use Rattle.std.specs.FinMap.{from_entries, remove, get, get-remove, get-from_entries, find, same_map}
use Rattle.std.specs.List.{AllByRecursion}
use Rattle.std.specs.Map.{keys_of}
use Rattle.std.specs.Cmp.{tied_itself}
use Rattle.std.specs.Int.{w64}
use Rattle.std.specs.List.Sorted.{IsStrictlySortedBy}
use Rattle.std.specs.declared.cmp.Ordering.TheVariants.{Less}
use Rattle.std.proofs.Common.{append-nil}
use Rattle.std.proofs.lemmas.Cmp.{ranked}
use Rattle.std.proofs.lemmas.Map.Keys.{sorted_head, sorted_tail}
use Rattle.mqtt_fields.specs.Numbers.{number}
use Rattle.mqtt_fields.proofs.NumberLaws.{number_is, wide64}
use Rattle.session_rows.specs.Reading.{whole}
use Rattle.session_rows.proofs.DurableLaws.{whole_again}
use Rattle.qos_handshakes.specs.declared.copies.Stage.{Stage}
use Rattle.qos_handshakes.specs.declared.copies.Stage.TheVariants.{Waiting, Published, Released}
use Rattle.std.specs.Ordering.{nat_cmp, eq_by_cmp, is_eq}
use Rattle.qos_handshakes.specs.declared.copies.Entry.{Entry}
use Rattle.qos_handshakes.specs.Entries.{Entries, at_place, AllPlacesBelow}
use Rattle.qos_handshakes.specs.Touched.{Watched, is_in, durable, progress_of, stage_progress, AreListed}
use Rattle.qos_handshakes.proofs.Indexed.{is_at-here, is_at-apart}
use Rattle.row_store.specs.Rows.{Key, Content, key_cmp}
use Rattle.row_store.proofs.Keys.{keys_total, exact_keys, equal_is}
use Rattle.session_rows.specs.Changes.{PlainChange, Told, copy_changes}
use Rattle.session_rows.specs.Durable.{Durable}
use Rattle.session_rows.specs.Fields.{main, copy, copy_of}
use Rattle.session_rows.specs.Rows.{main_key, copy_key, copy_rows, rows_of}
use Rattle.law_sessions.specs.Leading.{AreDifferent, AreExact, FollowsOn, IsSince, NameApart, after_plains, told_rows, told_copies, told_next}
use Rattle.mqtt_sessions.specs.Removed.{gone_at, gone_of, own_removal, removals_of}
use Rattle.mqtt_sessions.specs.State.{watched}
use Rattle.law_sessions.specs.Told.{RemovalsLeaveNone}
use Rattle.law_handshakes.proofs.AgreeLaws.{past, IsSound}
use Rattle.law_sessions.proofs.SinceLaws.{goes-on}

same : Key → Key → Bool
same q k = eq_by_cmp key_cmp q k

alike : (q k : Key) → same q k ≡ true → q ≡ k
unfolding same
alike q k h = exact_keys q k (equal_is (key_cmp q k) h)

itself : (k : Key) → same k k ≡ true
unfolding same
itself k = ap is_eq (tied_itself keys_total k)

-- ---- removals
abbrev AreGone : List PlainChange → Type 0
AreGone ps = AllByRecursion (λ p. p.1 ≡ None) ps

abbrev IsNamed : Key → List PlainChange → Type 0
IsNamed q [] = ⊥
IsNamed q (p ∷ ps) = (p.0 ≡ q) ⊎ IsNamed q ps

removed : (b : Bool) (o : Option (List ℕ)) → o ≡ None → cond b None o ≡ None
removed true o h = refl
removed false o h = h

removes : (ps : List PlainChange) (c : Content) (q : Key) → AreGone ps → (get c q ≡ None) ⊎ IsNamed q ps → get (after_plains c ps) q ≡ None
unfolding same
removes [] c q g (inl h) = h
removes [] c q g (inr h) = absurd h
removes ((k, None) ∷ ps) c q g (inl h) = removes ps (remove c k) q g.1 (inl (get-remove keys_total c k q ∙ removed (same q k) (get c q) h))
removes ((k, None) ∷ ps) c q g (inr (inl here)) =
    removes ps (remove c k) q g.1 (inl (get-remove keys_total c k q ∙ ap (λ b. cond b None (get c q)) (subst (λ (x : Key). same q x ≡ true) (sym here) (itself q))))
removes ((k, None) ∷ ps) c q g (inr (inr more)) = removes ps (remove c k) q g.1 (inr more)
removes ((k, Some v) ∷ ps) c q g h = absurd (let bad = g.0 in cc)

gone-both : (xs ys : List PlainChange) → AreGone xs → AreGone ys → AreGone (xs ++ ys)
gone-both [] ys g h = h
gone-both (x ∷ xs) ys g h = (g.0, gone-both xs ys g.1 h)

named-left : (q : Key) (xs ys : List PlainChange) → IsNamed q xs → IsNamed q (xs ++ ys)
named-left q [] ys h = absurd h
named-left q (x ∷ xs) ys (inl h) = inl h
named-left q (x ∷ xs) ys (inr h) = inr (named-left q xs ys h)

named-right : (q : Key) (xs ys : List PlainChange) → IsNamed q ys → IsNamed q (xs ++ ys)
named-right q [] ys h = h
named-right q (x ∷ xs) ys h = inr (named-right q xs ys h)

-- ---- of places
copies-gone : (client : List ℕ) (next : ℕ) (ps : List ℕ) → AreGone (copy_changes client next [] ps)
copies-gone client next [] = tt
copies-gone client next (p ∷ ps) = elim (cases_Bool (nat_lt p next)) [
  | inl t ↦ rw t (refl, copies-gone client next ps)
  | inr f ↦ rw f (copies-gone client next ps)
]

copy-named : (client : List ℕ) (next p : ℕ) (ps : List ℕ) → p < next → is_in p ps ≡ true → IsNamed (copy_key client p) (copy_changes client next [] ps)
copy-named client next p [] lt h = absurd (false≢true h)
copy-named client next p (r ∷ ps) lt h = elim (cases_eq r p) [
  | inl here ↦ (let used : nat_lt r next ≡ true = rw here (lt-ltb p next lt) in rw used (inl (ap (copy_key client) here)))
  | inr apart ↦ named-right (copy_key client p) _ (copy_changes client next [] ps) (copy-named client next p ps lt (later apart))
]
  where
    later : r ≢ p → is_in p ps ≡ true
    later apart = elim (or_cases (r == p) (is_in p ps) h) [
      | inl here ↦ absurd (apart (eqb-true r p here))
      | inr more ↦ more
    ]

own-gone : (o : Option (List ℕ)) (client : List ℕ) → AreGone (own_removal o client)
own-gone None client = tt
own-gone (Some v) client = (refl, tt)

-- ---- which places are named
in-left : (p : ℕ) (xs ys : List ℕ) → is_in p xs ≡ true → is_in p (xs ++ ys) ≡ true
in-left p [] ys h = absurd (false≢true h)
in-left p (x ∷ xs) ys h = elim (or_cases (x == p) (is_in p xs) h) [
  | inl here ↦ or_left (x == p) (is_in p (xs ++ ys)) here
  | inr more ↦ or_right (x == p) (is_in p (xs ++ ys)) (in-left p xs ys more)
]

in-right : (p : ℕ) (xs ys : List ℕ) → is_in p ys ≡ true → is_in p (xs ++ ys) ≡ true
in-right p [] ys h = h
in-right p (x ∷ xs) ys h = or_right (x == p) (is_in p (xs ++ ys)) (in-right p xs ys h)

gone-in : (p : ℕ) (es : Entries) (ps : List ℕ) → at_place p es ≡ None → is_in p ps ≡ true → is_in p (gone_of es ps) ≡ true
gone-in p es [] none h = absurd (false≢true h)
gone-in p es (r ∷ ps) none h = elim (or_cases (r == p) (is_in p ps) h) [
  | inl here ↦
      let is : r ≡ p = eqb-true r p here in
      let there : gone_at r (at_place r es) ≡ r ∷ [] = rw (is, none) refl in
      rw there (or_left (r == p) (is_in p (gone_of es ps)) here)
  | inr more ↦ in-right p (gone_at r (at_place r es)) (gone_of es ps) (gone-in p es ps none more)
]

in-keys : (p : ℕ) (es : Entries) (x : Entry) → at_place p es ≡ Some x → is_in p (keys_of es) ≡ true
in-keys p [] x h = absurd (cc h)
in-keys p (e ∷ es) x h = elim (cases_eq e.0 p) [
  | inl here ↦ or_left (e.0 == p) (is_in p (keys_of es)) (eq-eqb e.0 p here)
  | inr apart ↦ or_right (e.0 == p) (is_in p (keys_of es)) (in-keys p es x (rw (is_at-apart p e.0 apart) at h))
]

at-keys : (p : ℕ) (es : Entries) → is_in p (keys_of es) ≡ true → (x : Entry) × (at_place p es ≡ Some x)
at-keys p [] h = absurd (false≢true h)
at-keys p (e ∷ es) h = elim (cases_eq e.0 p) [
  | inl here ↦ (e.1, rw (is_at-here p e.0 here) refl)
  | inr apart ↦ elim (or_cases (e.0 == p) (is_in p (keys_of es)) h) [
    | inl here ↦ absurd (apart (eqb-true e.0 p here))
    | inr more ↦ (let r = at-keys p es more in (r.0, rw (is_at-apart p e.0 apart) r.1))
  ]
]

below : (p next : ℕ) (es : Entries) → AllPlacesBelow es next → is_in p (keys_of es) ≡ true → p < next
below p next [] b h = absurd (false≢true h)
below p next (e ∷ es) b h = elim (or_cases (e.0 == p) (is_in p (keys_of es)) h) [
  | inl here ↦ (let is : e.0 ≡ p = eqb-true e.0 p here in omega (arith, is, b.0))
  | inr more ↦ below p next es b.1 more
]

there-still : (o n : Option Entry) (x : Entry) → durable o ≡ durable n → o ≡ Some x → (y : Entry) × (n ≡ Some y)
there-still None n x e is = absurd (cc is)
there-still (Some z) None x e is = absurd (cc e)
there-still (Some z) (Some y) x e is = (y, refl)

there-or-not : (o : Option Entry) → ((x : Entry) × (o ≡ Some x)) ⊎ (o ≡ None)
there-or-not None = inr refl
there-or-not (Some x) = inl (x, refl)

-- ---- the rows that were told
row-key : (client : List ℕ) (q : Key) (es : Entries) → (find key_cmp q (copy_rows client es) ≡ None) ⊎ ((p : ℕ) × (is_in p (keys_of es) ≡ true) × (copy_key client p ≡ q))
unfolding same
row-key client q [] = inl refl
row-key client q (e ∷ es) = elim (cases_Bool (same q (copy_key client e.0))) [
  | inl t ↦ inr (e.0, or_left (e.0 == e.0) (is_in e.0 (keys_of es)) (eq-eqb e.0 e.0 refl), sym (alike q (copy_key client e.0) t))
  | inr f ↦ elim (row-key client q es) [
    | inl none ↦ inl (rw f none)
    | inr at ↦ inr (at.0, or_right (e.0 == at.0) (is_in at.0 (keys_of es)) at.1, at.2)
  ]
]

module _ (told : Told) (client : List ℕ) (now : Watched) (places : List ℕ) (listed : AreListed now.touched places) where
  abbrev all : List ℕ
  all = keys_of now.box.copies ++ gone_of now.box.copies places

  -- the place of each copy that was told is named
  told-in : (last : Option Durable) (p : ℕ) → IsSince last told client now → is_in p (keys_of (told_copies last)) ≡ true → is_in p all ≡ true
  told-in last p since h = elim (there-or-not (at_place p now.box.copies)) [
    | inl some ↦ in-left p (keys_of now.box.copies) (gone_of now.box.copies places) (in-keys p now.box.copies some.0 some.1)
    | inr none ↦ elim (since.follows.each p) [
      | inl s ↦ absurd (let x = at-keys p (told_copies last) h in let y = there-still (at_place p (told_copies last)) (at_place p now.box.copies) x.0 s.1 x.1 in let bad : None ≡ Some y.0 = sym none ∙ y.1 in cc)
      | inr m ↦ in-right p (keys_of now.box.copies) (gone_of now.box.copies places) (gone-in p now.box.copies places none (listed.same p ∙ m.0))
    ]
  ]

  -- a key that has a row is named
  has-or-named : (last : Option Durable) (q : Key) → IsSince last told client now → (get {R = key_cmp} (from_entries (told_rows last)) q ≡ None) ⊎ IsNamed q (removals_of told client now.box.copies places)
  unfolding same
  has-or-named None q since = inl (get-from_entries keys_total [] q)
  has-or-named (Some d) q since = elim (cases_Bool (same q (main_key d.client))) [
    | inl t ↦
        let value : told.value ≡ Some (main.bytes d.main) = since.value in
        let is : main_key client ≡ q = sym (alike q (main_key d.client) t ∙ ap main_key since.owner) in
        inr (named-right q (copy_changes client told.next_place [] all) (own_removal told.value client) (rw value (inl is)))
    | inr f ↦ elim (row-key d.client q d.copies) [
      | inl none ↦ inl (get-from_entries keys_total (rows_of d) q ∙ rw f none)
      | inr at ↦
          let lt : at.0 < d.main.next_place = below at.0 d.main.next_place d.copies since.then_below at.1 in
          let next : told.next_place ≡ d.main.next_place = since.next in
          let named = copy-named client told.next_place at.0 all (rw next lt) (told-in (Some d) at.0 since at.1) in
          let is : copy_key client at.0 ≡ q = ap (λ (c : List ℕ). copy_key c at.0) (sym since.owner) ∙ at.2 in
          inr (named-left q (copy_changes client told.next_place [] all) (own_removal told.value client) (subst (λ (k : Key). IsNamed k (copy_changes client told.next_place [] all)) is named))
    ]
  ]

  leaves-none : (last : Option Durable) → IsSince last told client now → after_plains (from_entries (told_rows last)) (removals_of told client now.box.copies places) ≡ from_entries []
  leaves-none last since = same_map keys_total exact_keys _ _ (λ q.
      removes (removals_of told client now.box.copies places) (from_entries (told_rows last)) q
      (gone-both (copy_changes client told.next_place [] all) (own_removal told.value client) (copies-gone client told.next_place all) (own-gone told.value client)) (has-or-named last q since)
      ∙ sym (get-from_entries keys_total [] q))

-- ---- each row once, and no other
place-back : (client : List ℕ) (p r : ℕ) → p < 2 ^ 64 → r < 2 ^ 64 → copy_key client p ≡ copy_key client r → p ≡ r
place-back client p r hp hr e =
    let bytes : (number w64).bytes p ≡ (number w64).bytes r = ap (λ (k : Key). k.1.1) e in
    let both : Some p ≡ Some r = sym (whole_again (number w64) (number_is w64 wide64) p hp) ∙ ap (whole (number w64)) bytes ∙ whole_again (number w64) (number_is w64 wide64) r hr in
    cc

abbrev AreDistinct : List ℕ → Type 0
AreDistinct [] = Unit {0}
AreDistinct (p ∷ ps) = (is_in p ps ≡ false) × AreDistinct ps

not-both : (b : Bool) → (b ≡ true → ⊥) → b ≡ false
not-both true h = absurd (h refl)
not-both false h = refl

in-append : (p : ℕ) (xs ys : List ℕ) → is_in p (xs ++ ys) ≡ true → (is_in p xs ≡ true) ⊎ (is_in p ys ≡ true)
in-append p [] ys h = inr h
in-append p (x ∷ xs) ys h = elim (or_cases (x == p) (is_in p (xs ++ ys)) h) [
  | inl here ↦ inl (or_left (x == p) (is_in p xs) here)
  | inr more ↦ elim (in-append p xs ys more) [ inl l ↦ inl (or_right (x == p) (is_in p xs) l) | inr r ↦ inr r ]
]

distinct-both : (xs ys : List ℕ) → AreDistinct xs → AreDistinct ys → ((p : ℕ) → is_in p xs ≡ true → is_in p ys ≡ true → ⊥) → AreDistinct (xs ++ ys)
distinct-both [] ys d e apart = e
distinct-both (x ∷ xs) ys d e apart = (
  not-both (is_in x (xs ++ ys)) (λ h. elim (in-append x xs ys h) [
    | inl l ↦ false≢true (sym d.0 ∙ l)
    | inr r ↦ apart x (or_left (x == x) (is_in x xs) (eq-eqb x x refl)) r
  ]),
  distinct-both xs ys d.1 e (λ p h k. apart p (or_right (x == p) (is_in p xs) h) k),
)

keys-above : (p low first next bound : ℕ) (es : Entries) → IsSound low first next bound es → is_in p (keys_of es) ≡ true → low < p
keys-above p low first next bound [] h i = absurd (false≢true i)
keys-above p low first next bound (e ∷ es) h i = elim (or_cases (e.0 == p) (is_in p (keys_of es)) i) [
  | inl here ↦ (let is : e.0 ≡ p = eqb-true e.0 p here in omega (arith, is, h.0))
  | inr more ↦ (let lt = keys-above p e.0 (past e.1.stage first) next bound es h.3 more in omega (arith, lt, h.0))
]

keys-distinct : (low first next bound : ℕ) (es : Entries) → IsSound low first next bound es → AreDistinct (keys_of es)
keys-distinct low first next bound [] h = tt
keys-distinct low first next bound (e ∷ es) h = (
  not-both (is_in e.0 (keys_of es)) (λ i. let lt = keys-above e.0 e.0 (past e.1.stage first) next bound es h.3 i in omega (arith, lt)),
  keys-distinct e.0 (past e.1.stage first) next bound es h.3,
)

-- a place that is gone was touched, and nothing stands there
gone-one : (p r : ℕ) (o : Option Entry) → is_in p (gone_at r o) ≡ true → (r ≡ p) × (o ≡ None)
gone-one p r None h = elim (or_cases (r == p) false h) [ inl here ↦ (eqb-true r p here, refl) | inr bad ↦ absurd (false≢true bad) ]
gone-one p r (Some x) h = absurd (false≢true h)

gone-from : (p : ℕ) (es : Entries) (ps : List ℕ) → is_in p (gone_of es ps) ≡ true → (is_in p ps ≡ true) × (at_place p es ≡ None)
gone-from p es [] h = absurd (false≢true h)
gone-from p es (r ∷ ps) h = elim (in-append p (gone_at r (at_place r es)) (gone_of es ps) h) [
  | inl here ↦
      let g = gone-one p r (at_place r es) here in
      (or_left (r == p) (is_in p ps) (eq-eqb r p g.0), subst (λ (x : ℕ). at_place x es ≡ None) g.0 g.1)
  | inr more ↦ (let g = gone-from p es ps more in (or_right (r == p) (is_in p ps) g.0, g.1))
]

later : (r p : ℕ) (ps : List ℕ) → AllByRecursion (λ y. nat_cmp r y ≡ Less) ps → is_in p ps ≡ true → r < p
later r p [] above h = absurd (false≢true h)
later r p (x ∷ ps) above h = elim (or_cases (x == p) (is_in p ps) h) [
  | inl here ↦ subst (λ (y : ℕ). r < y) (eqb-true x p here) (ranked r x Less (sym above.0))
  | inr more ↦ later r p ps above.1 more
]

one-distinct : (r : ℕ) (o : Option Entry) → AreDistinct (gone_at r o)
one-distinct r None = (refl, tt)
one-distinct r (Some x) = tt

gone-distinct : (es : Entries) (ps : List ℕ) → IsStrictlySortedBy nat_cmp ps → AreDistinct (gone_of es ps)
gone-distinct es [] sorted = tt
gone-distinct es (r ∷ ps) sorted = distinct-both (gone_at r (at_place r es)) (gone_of es ps) (one-distinct r (at_place r es)) (gone-distinct es ps (sorted_tail nat_cmp r ps sorted))
    (λ p h k. let is : r ≡ p = (gone-one p r (at_place r es) h).0 in let lt : r < p = later r p ps (sorted_head nat_cmp r ps sorted) (gone-from p es ps k).0 in omega (arith, is, lt))

abbrev IsApart : Key → List PlainChange → Type 0
IsApart q ps = AllByRecursion (λ p. q ≢ p.0) ps

module _ (client : List ℕ) (next : ℕ) (small : next ≤ 2 ^ 64) where
  apart-copies : (q : ℕ) (ps : List ℕ) → q < next → is_in q ps ≡ false → IsApart (copy_key client q) (copy_changes client next [] ps)
  apart-copies q [] lt h = tt
  apart-copies q (r ∷ ps) lt h =
      let rest = apart-copies q ps lt (not-both (is_in q ps) (λ i. false≢true (sym h ∙ or_right (r == q) (is_in q ps) i))) in
      elim (cases_Bool (nat_lt r next)) [
        | inl t ↦
            let below : r < next = ltb-true r next t in
            let apart : copy_key client q ≢ copy_key client r = λ e. false≢true (sym h ∙ or_left (r == q) (is_in q ps) (eq-eqb r q (sym (place-back client q r (omega (arith, lt, small)) (omega (arith, below, small)) e)))) in
            rw t (apart, rest)
        | inr f ↦ rw f rest
      ]

  other-kind : (p : ℕ) → copy_key client p ≢ main_key client
  other-kind p e = (let kinds : ◌≡◌ {A = ℕ} 3 2 = ap (λ (k : Key). k.0) e in omega (arith, kinds))

  apart-own : (ps : List ℕ) → AllByRecursion (λ (p : PlainChange). p.0 ≢ main_key client) (copy_changes client next [] ps)
  apart-own [] = tt
  apart-own (r ∷ ps) = elim (cases_Bool (nat_lt r next)) [
    | inl t ↦ rw t (other-kind r, apart-own ps)
    | inr f ↦ rw f (apart-own ps)
  ]

  names-copies : (ps : List ℕ) → AreDistinct ps → NameApart (copy_changes client next [] ps)
  names-copies [] d = tt
  names-copies (r ∷ ps) d = elim (cases_Bool (nat_lt r next)) [
    | inl t ↦ rw t (apart-copies r ps (ltb-true r next t) d.0, names-copies ps d.1)
    | inr f ↦ rw f (names-copies ps d.1)
  ]

  apart-last : (k q : Key) (xs : List PlainChange) → IsApart k xs → k ≢ q → IsApart k (xs ++ (q, None) ∷ [])
  apart-last k q [] h n = (n, tt)
  apart-last k q (x ∷ xs) h n = (h.0, apart-last k q xs h.1 n)

  names-last : (q : Key) (xs : List PlainChange) → AllByRecursion (λ (p : PlainChange). p.0 ≢ q) xs → NameApart xs → NameApart (xs ++ (q, None) ∷ [])
  names-last q [] h n = (tt, tt)
  names-last q (x ∷ xs) h n = (apart-last x.0 q xs n.0 h.0, names-last q xs h.1 n.1)

  names-all : (o : Option (List ℕ)) (ps : List ℕ) → AreDistinct ps → NameApart (copy_changes client next [] ps ++ own_removal o client)
  names-all None ps d = rw (append-nil (copy_changes client next [] ps)) (names-copies ps d)
  names-all (Some v) ps d = names-last (main_key client) (copy_changes client next [] ps) (apart-own ps) (names-copies ps d)

-- ---- each was told
at-most : (b : Bool) (o : Option Entry) → progress_of b o ≤ 4
at-most true None = omega arith
at-most false None = omega arith
at-most b (Some x) = stage-most x.stage
  where
    stage-most : (s : Stage) → stage_progress s ≤ 4
    stage-most Waiting = omega arith
    stage-most (Published id) = omega arith
    stage-most (Released id order) = omega arith

was-there : (b : Bool) (o : Option Entry) → b ≡ true → progress_of b o < 4 → (x : Entry) × (o ≡ Some x)
was-there true None h lt = absurd (omega (arith, lt))
was-there false None h lt = absurd (false≢true h)
was-there b (Some x) h lt = (x, refl)

row-found : (client : List ℕ) (p : ℕ) (es : Entries) (x : Entry) → at_place p es ≡ Some x → find key_cmp (copy_key client p) (copy_rows client es) ≢ None
unfolding same
row-found client p [] x h e = absurd (cc h)
row-found client p (f ∷ es) x h e = elim (cases_Bool (same (copy_key client p) (copy_key client f.0))) [
  | inl t ↦ (let bad : Some (copy.bytes (copy_of f.1)) ≡ None = rw t at e in cc)
  | inr n ↦
      let apart : f.0 ≢ p = λ is. false≢true (sym n ∙ subst (λ (r : ℕ). same (copy_key client p) (copy_key client r) ≡ true) (sym is) (itself (copy_key client p))) in
      row-found client p es x (rw (is_at-apart p f.0 apart) at h) (rw n at e)
]

module _ (told : Told) (client : List ℕ) (now : Watched) (places : List ℕ) (listed : AreListed now.touched places) (last : Option Durable) (since : IsSince last told client now) where
  abbrev content : Content
  content = from_entries (told_rows last)

  was-told : (p : ℕ) → p < told.next_place → is_in p (all told client now places listed) ≡ true → (x : Entry) × (at_place p (told_copies last) ≡ Some x)
  was-told p lt h = elim (since.follows.each p) [
    | inl s ↦ elim (in-append p (keys_of now.box.copies) (gone_of now.box.copies places) h) [
      | inl here ↦ (let y = at-keys p now.box.copies here in there-still (at_place p now.box.copies) (at_place p (told_copies last)) y.0 (sym s.1) y.1)
      | inr gone ↦ absurd (false≢true (sym s.0 ∙ sym (listed.same p) ∙ (gone-from p now.box.copies places gone).0))
    ]
    | inr m ↦
        let used : nat_lt p (told_next last) ≡ true = lt-ltb p (told_next last) (subst (λ (n : ℕ). p < n) since.next lt) in
        let most = at-most (nat_lt p now.box.next_place) (at_place p now.box.copies) in
        was-there (nat_lt p (told_next last)) (at_place p (told_copies last)) used (omega (arith, m.1, most))
  ]

  copy-there : (l : Option Durable) → IfSome l (λ d. d.client ≡ client) → (p : ℕ) (x : Entry) → at_place p (told_copies l) ≡ Some x → get {R = key_cmp} (from_entries (told_rows l)) (copy_key client p) ≢ None
  copy-there None owner p x h e = absurd (cc h)
  copy-there (Some d) owner p x h e =
      let f : find key_cmp (copy_key client p) (rows_of d) ≡ None = sym (get-from_entries keys_total (rows_of d) (copy_key client p)) ∙ e in
      row-found d.client p d.copies x h (subst (λ (c : List ℕ). find key_cmp (copy_key c p) (copy_rows d.client d.copies) ≡ None) (sym owner) f)

  own-there : (l : Option Durable) → IfSome l (λ d. d.client ≡ client) → (v : List ℕ) → option_map (λ d. main.bytes d.main) l ≡ Some v → get {R = key_cmp} (from_entries (told_rows l)) (main_key client) ≢ None
  unfolding same
  own-there None owner v is e = absurd (cc is)
  own-there (Some d) owner v is e =
      let f : find key_cmp (main_key client) (rows_of d) ≡ None = sym (get-from_entries keys_total (rows_of d) (main_key client)) ∙ e in
      let mine : same (main_key client) (main_key d.client) ≡ true = rw owner (itself (main_key client)) in
      let bad : Some (main.bytes d.main) ≡ None = rw mine at f in cc

  differ-copies : (ps : List ℕ) → ((p : ℕ) → is_in p ps ≡ true → is_in p (all told client now places listed) ≡ true) → AreDifferent content (copy_changes client told.next_place [] ps)
  differ-copies [] within = tt
  differ-copies (r ∷ ps) within =
      let rest = differ-copies ps (λ p i. within p (or_right (r == p) (is_in p ps) i)) in
      elim (cases_Bool (nat_lt r told.next_place)) [
        | inl t ↦
            let x = was-told r (ltb-true r told.next_place t) (within r (or_left (r == r) (is_in r ps) (eq-eqb r r refl))) in
            rw t (copy-there last since.owner r x.0 x.1, rest)
        | inr f ↦ rw f rest
      ]

  differ-own : (o : Option (List ℕ)) → told.value ≡ o → AreDifferent content (own_removal o client)
  differ-own None is = tt
  differ-own (Some v) is = (own-there last since.owner v (sym since.value ∙ is), tt)

  differ-both : (xs ys : List PlainChange) → AreDifferent content xs → AreDifferent content ys → AreDifferent content (xs ++ ys)
  differ-both [] ys h k = k
  differ-both (x ∷ xs) ys h k = (h.0, differ-both xs ys h.1 k)

  exact : AreDistinct (all told client now places listed) → AreExact last (removals_of told client now.box.copies places)
  exact distinct = record {
    once = names-all client told.next_place (rw since.next since.then_small) told.value (all told client now places listed) distinct;
    differ = differ-both (copy_changes client told.next_place [] (all told client now places listed)) (own_removal told.value client) (differ-copies (all told client now places listed) (λ p i. i)) (differ-own told.value refl);
  }

pub removals-leave : FollowsOn → RemovalsLeaveNone
removals-leave then start moves end changes b h r =
    let s = end.session.tracked.state in
    let g = goes-on then start moves end b h in
    let t = g.sound.stands in
    let w = watched end.session.tracked in
    let keys = keys-distinct 0 t.first s.outbox.next_place s.outbox.next_order s.outbox.copies t.sound in
    let distinct = distinct-both (keys_of s.outbox.copies) (gone_of s.outbox.copies r.places) keys (gone-distinct s.outbox.copies r.places r.listed.rise)
    (λ p i k. let x = at-keys p s.outbox.copies i in let bad : None ≡ Some x.0 = sym (gone-from p s.outbox.copies r.places k).1 ∙ x.1 in cc) in
    record {
      none = ap (after_plains (from_entries (told_rows end.last))) r.named ∙ leaves-none end.session.told s.kept.client w r.places r.listed end.last g.since;
      exact = subst (AreExact end.last) (sym r.named) (exact end.session.told s.kept.client w r.places r.listed end.last g.since distinct);
    }
