-- The changes lead from the rows that were told to those of the session.
use Rattle.std.proofs.Common.{◌≡◌, ◌≢◌, ℕ, ◌<◌, ◌≤◌, ◌^◌, ◌++◌, ◌||◌, ◌⊎◌, Bool, true, false, cond, List, [], ◌∷◌, Option, Some, None, refl, sym, ap, subst, get_or, ◌∙◌, inl, inr, arith}
use Rattle.std.specs.Prelude.{◌==◌, nat_lt, nat_eq, option_map, IfSome}
use Rattle.std.proofs.lemmas.Bool.{cases_Bool, cases_eq, cases_lt, eqb-true, eq-eqb, lt-ltb, le-ltb, ltb-true, false≢true, or_cases, or_left, or_right}
use Rattle.std.proofs.lemmas.Cmp.{ranked}
use Rattle.std.specs.BTreeMap.{is_at}
use Rattle.std.specs.Cmp.Lexicographic.{pointwise, same_text, other_text}
use Rattle.std.specs.FinMap.{empty, from_entries, insert, remove, get, get-insert, get-remove, get-from_entries, get-empty, find, same_map}
use Rattle.std.specs.Int.{w64}
use Rattle.std.specs.List.{AllByRecursion}
use Rattle.std.specs.List.Sorted.{IsStrictlySortedBy}
use Rattle.std.specs.declared.cmp.Ordering.TheVariants.{Less}
use Rattle.std.proofs.lemmas.Map.Keys.{sorted_head, sorted_tail}
use Rattle.mqtt_message.specs.declared.delivery.Delivery.{Delivery}
use Rattle.qos_handshakes.specs.declared.copies.Stage.{Stage}
use Rattle.qos_handshakes.specs.declared.copies.Stage.TheVariants.{Waiting, Published, Released}
use Rattle.std.specs.Cmp.{tied_itself}
use Rattle.std.specs.Map.{keys_of}
use Rattle.std.specs.Ordering.{nat_cmp, eq_by_cmp, is_eq}
use Rattle.mqtt_fields.specs.Numbers.{number}
use Rattle.mqtt_fields.proofs.NumberLaws.{number_is, wide64}
use Rattle.qos_handshakes.specs.declared.copies.Entry.{Entry}
use Rattle.qos_handshakes.specs.Entries.{Entries, at_place, AllPlacesBelow}
use Rattle.qos_handshakes.specs.Outbox.{away}
use Rattle.qos_handshakes.specs.Touched.{Watched, is_in, durable, progress, progress_of, stage_progress, AreListed}
use Rattle.qos_handshakes.proofs.Indexed.{is_at-here, is_at-apart}
use Rattle.row_store.specs.declared.row.Change.TheVariants.{Put, Remove}
use Rattle.row_store.specs.Rows.{Key, Content, key_cmp, key_of}
use Rattle.row_store.proofs.Keys.{keys_total, exact_keys, equal_is}
use Rattle.session_rows.specs.Changes.{PlainChange, Told, Stays, Moves, Follows, is_told, own_change_by, own_change, copy_change, copy_changes, changes_of}
use Rattle.session_rows.specs.Durable.{Durable}
use Rattle.session_rows.specs.Fields.{Main, main, copy, copy_of}
use Rattle.law_sessions.specs.Leading.{after_plain, after_plains, told_rows, told_copies, told_next, told_box, IsSince, ChangesLead, ChangesAreMade, NameApart, AreDifferent, AreExact, ChangesAreExact}
use Rattle.session_rows.specs.Rows.{main_key, copy_key, copy_row, copy_rows, rows_of}
use Rattle.session_rows.proofs.DurableLaws.{whole_again}
use Rattle.session_rows.specs.Reading.{whole}

-- ---- what is at a key
abbrev pub same_key : Key → Key → Bool
same_key q k = eq_by_cmp key_cmp q k

alike : (q k : Key) → same_key q k ≡ true → q ≡ k
alike q k h = exact_keys q k (equal_is (key_cmp q k) h)

-- what a key has after changes, if it had this before
answer : Key → List PlainChange → Option (List ℕ) → Option (List ℕ)
answer q [] o = o
answer q (p ∷ ps) o = answer q ps (cond (same_key q p.0) p.1 o)

answer-append : (q : Key) (xs ys : List PlainChange) (o : Option (List ℕ)) → answer q (xs ++ ys) o ≡ answer q ys (answer q xs o)
unfolding answer
answer-append q [] ys o = refl
answer-append q (x ∷ xs) ys o = answer-append q xs ys (cond (same_key q x.0) x.1 o)

get-after : (c : Content) (p : PlainChange) (q : Key) → get (after_plain c p) q ≡ cond (same_key q p.0) p.1 (get c q)
get-after c (k, None) q = get-remove keys_total c k q
get-after c (k, Some v) q = get-insert keys_total c k v q

get-all : (c : Content) (ps : List PlainChange) (q : Key) → get (after_plains c ps) q ≡ answer q ps (get c q)
unfolding answer
get-all c [] q = refl
get-all c (p ∷ ps) q = get-all (after_plain c p) ps q ∙ ap (answer q ps) (get-after c p q)

-- ---- the keys of copies
module _ (client : List ℕ) where
  ck : ℕ → Key
  ck p = copy_key client p

  place-back : (p r : ℕ) → p < 2 ^ 64 → r < 2 ^ 64 → ck p ≡ ck r → p ≡ r
  unfolding ck
  place-back p r hp hr e =
      let bytes : (number w64).bytes p ≡ (number w64).bytes r = ap (λ (k : Key). k.1.1) e in
      let both : Some p ≡ Some r = sym (whole_again (number w64) (number_is w64 wide64) p hp) ∙ ap (whole (number w64)) bytes ∙ whole_again (number w64) (number_is w64 wide64) r hr in
      cc

  self-key : (k : Key) → same_key k k ≡ true
  self-key k = ap is_eq (tied_itself keys_total k)

  apart-key : (p r : ℕ) → p < 2 ^ 64 → r < 2 ^ 64 → p ≢ r → same_key (ck p) (ck r) ≡ false
  unfolding ck
  apart-key p r hp hr apart = elim (cases_Bool (same_key (ck p) (ck r))) [
    | inl t ↦ absurd (apart (place-back p r hp hr (alike (ck p) (ck r) t)))
    | inr f ↦ f
  ]

  -- the row of a place
  bytes_at : Option Entry → Option (List ℕ)
  bytes_at o = option_map (λ x. copy.bytes (copy_of x)) o

  bytes-durable : (o n : Option Entry) → durable o ≡ durable n → bytes_at o ≡ bytes_at n
  unfolding bytes_at
  bytes-durable o n e = sym (same o) ∙ ap (λ x. option_map (λ y. copy.bytes (copy_of y)) x) e ∙ same n
    where
      same : (x : Option Entry) → option_map (λ y. copy.bytes (copy_of y)) (durable x) ≡ option_map (λ y. copy.bytes (copy_of y)) x
      same None = refl
      same (Some x) = refl

  rows-found : (p next : ℕ) (es : Entries) → p < 2 ^ 64 → next ≤ 2 ^ 64 → AllPlacesBelow es next → find key_cmp (ck p) (copy_rows client es) ≡ bytes_at (at_place p es)
  unfolding ck bytes_at
  rows-found p next [] hp hn below = refl
  rows-found p next (e ∷ es) hp hn below = elim (cases_eq e.0 p) [
    | inl here ↦ rw (is_at-here p e.0 here, here, self-key (ck p)) refl
    | inr apart ↦ rw (is_at-apart p e.0 apart, apart-key p e.0 hp (omega (arith, below.0)) (λ h. apart (sym h))) (rows-found p next es hp hn below.1)
  ]

  -- ---- what the changes make of a key
  eff : ℕ → ℕ → Option Entry → Option (List ℕ) → Option (List ℕ)
  eff next p None b = cond (nat_lt p next) None b
  eff next p (Some x) b = Some (copy.bytes (copy_of x))

  eff-twice : (next p : ℕ) (o : Option Entry) (b : Option (List ℕ)) → eff next p o (eff next p o b) ≡ eff next p o b
  unfolding eff
  eff-twice next p None b = elim (cases_Bool (nat_lt p next)) [ inl t ↦ rw t refl | inr f ↦ rw f refl ]
  eff-twice next p (Some x) b = refl

  eff-own : (next p : ℕ) (o : Option Entry) (b : Option (List ℕ)) → answer (ck p) (copy_change client next p o) b ≡ eff next p o b
  unfolding eff answer ck
  eff-own next p None b = elim (cases_Bool (nat_lt p next)) [ inl t ↦ rw (t, self-key (ck p)) refl | inr f ↦ rw f refl ]
  eff-own next p (Some x) b = rw (self-key (ck p)) refl

  eff-other : (q : Key) (next r : ℕ) (o : Option Entry) (b : Option (List ℕ)) → same_key q (ck r) ≡ false → answer q (copy_change client next r o) b ≡ b
  unfolding answer ck
  eff-other q next r None b h = elim (cases_Bool (nat_lt r next)) [ inl t ↦ rw (t, h) refl | inr f ↦ rw f refl ]
  eff-other q next r (Some x) b h = rw h refl

  abbrev AreSmall : List ℕ → Type 0
  AreSmall ps = AllByRecursion (λ p. p < 2 ^ 64) ps

  eff-all : (next p : ℕ) (es : Entries) (ps : List ℕ) (b : Option (List ℕ)) → p < 2 ^ 64 → AreSmall ps → answer (ck p) (copy_changes client next es ps) b ≡ cond (is_in p ps) (eff next p (at_place p es) b) b
  unfolding answer
  eff-all next p es [] b hp small = refl
  eff-all next p es (r ∷ ps) b hp small =
      answer-append (ck p) (copy_change client next r (at_place r es)) (copy_changes client next es ps) b
      ∙ elim (cases_Bool (r == p)) [
        | inl t ↦
            let same : r ≡ p = eqb-true r p t in
            let one : answer (ck p) (copy_change client next r (at_place r es)) b ≡ eff next p (at_place p es) b = rw same (eff-own next p (at_place p es) b) in
            rw (one, t) (eff-all next p es ps (eff next p (at_place p es) b) hp small.1 ∙ again (is_in p ps))
        | inr f ↦
            let apart : p ≢ r = λ e. false≢true (sym f ∙ eq-eqb r p (sym e)) in
            rw (eff-other (ck p) next r (at_place r es) b (apart-key p r hp small.0 apart), f) (eff-all next p es ps b hp small.1)
      ]
    where
      again : (i : Bool) → cond i (eff next p (at_place p es) (eff next p (at_place p es) b)) (eff next p (at_place p es) b) ≡ eff next p (at_place p es) b
      again true = eff-twice next p (at_place p es) b
      again false = refl

  none-all : (q : Key) (next : ℕ) (es : Entries) (ps : List ℕ) (b : Option (List ℕ)) → ((p : ℕ) → is_in p ps ≡ true → same_key q (ck p) ≡ false) → answer q (copy_changes client next es ps) b ≡ b
  unfolding answer
  none-all q next es [] b none = refl
  none-all q next es (r ∷ ps) b none =
      answer-append q (copy_change client next r (at_place r es)) (copy_changes client next es ps) b
      ∙ rw (eff-other q next r (at_place r es) b (none r (or_left (r == r) (is_in r ps) (eq-eqb r r refl)))) (none-all q next es ps b (λ p h. none p (or_right (r == p) (is_in p ps) h)))

  -- ---- which place a key has, of some
  search : (q : Key) (ps : List ℕ) → ((p : ℕ) × (is_in p ps ≡ true) × (same_key q (ck p) ≡ true)) ⊎ ((p : ℕ) → is_in p ps ≡ true → same_key q (ck p) ≡ false)
  search q [] = inr (λ p h. absurd (false≢true h))
  search q (r ∷ ps) = elim (cases_Bool (same_key q (ck r))) [
    | inl t ↦ inl (r, or_left (r == r) (is_in r ps) (eq-eqb r r refl), t)
    | inr f ↦ elim (search q ps) [
      | inl found ↦ inl (found.0, or_right (r == found.0) (is_in found.0 ps) found.1, found.2)
      | inr none ↦ inr (λ p h. elim (or_cases (r == p) (is_in p ps) h) [
        | inl here ↦ subst (λ (x : ℕ). same_key q (ck x) ≡ false) (eqb-true r p here) f
        | inr later ↦ none p later
      ])
    ]
  ]

  rows-none : (q : Key) (es : Entries) → ((p : ℕ) → is_in p (keys_of es) ≡ true → same_key q (ck p) ≡ false) → find key_cmp q (copy_rows client es) ≡ None
  unfolding ck
  rows-none q [] none = refl
  rows-none q (e ∷ es) none =
      rw (none e.0 (or_left (e.0 == e.0) (is_in e.0 (keys_of es)) (eq-eqb e.0 e.0 refl))) (rows-none q es (λ p h. none p (or_right (e.0 == p) (is_in p (keys_of es)) h)))

  in-keys : (p next : ℕ) (es : Entries) → AllPlacesBelow es next → is_in p (keys_of es) ≡ true → p < next
  in-keys p next [] below h = absurd (false≢true h)
  in-keys p next (e ∷ es) below h = elim (or_cases (e.0 == p) (is_in p (keys_of es)) h) [
    | inl here ↦ (let same : e.0 ≡ p = eqb-true e.0 p here in omega (arith, same, below.0))
    | inr later ↦ in-keys p next es below.1 later
  ]

  past : (p next : ℕ) (es : Entries) → AllPlacesBelow es next → next ≤ p → at_place p es ≡ None
  past p next [] below le = refl
  past p next (e ∷ es) below le = (let apart : e.0 ≢ p = omega (arith, below.0) in rw (is_at-apart p e.0 apart) (past p next es below.1 le))

  all-in : (ps : List ℕ) → ((p : ℕ) → is_in p ps ≡ true → p < 2 ^ 64) → AreSmall ps
  all-in [] h = tt
  all-in (r ∷ ps) h = (h r (or_left (r == r) (is_in r ps) (eq-eqb r r refl)), all-in ps (λ p i. h p (or_right (r == p) (is_in p ps) i)))

  -- ---- the copies
  module _ (old new : Watched) (follows : Follows old new) (none_touched : old.touched ≡ []) (then_below : AllPlacesBelow old.box.copies old.box.next_place) (then_small : old.box.next_place ≤ 2 ^ 64)
      (now_below : AllPlacesBelow new.box.copies new.box.next_place) (now_small : new.box.next_place ≤ 2 ^ 64) (places : List ℕ) (same : (p : ℕ) → is_in p places ≡ is_in p new.touched) where
    untouched : (p : ℕ) → is_in p old.touched ≡ false
    untouched p = rw none_touched refl

    touched-small : (p : ℕ) → is_in p places ≡ true → p < new.box.next_place
    touched-small p h = elim (follows.each p) [
      | inl s ↦ absurd (false≢true (sym (untouched p) ∙ sym s.0 ∙ sym (same p) ∙ h))
      | inr m ↦ elim (cases_lt p new.box.next_place) [
        | inl lt ↦ lt
        | inr le ↦
            let none = past p new.box.next_place new.box.copies now_below le in
            let unused = le-ltb p new.box.next_place le in
            let none_yet : progress p new.box.next_place new.box.copies ≡ 0 = rw (none, unused) refl in
            absurd (omega (arith, m.1, none_yet))
      ]
    ]

    small : AreSmall places
    small = all-in places (λ p h. omega (arith, touched-small p h, now_small))

    at-key : (p : ℕ) → p < 2 ^ 64 → answer (ck p) (copy_changes client old.box.next_place new.box.copies places) (bytes_at (at_place p old.box.copies)) ≡ bytes_at (at_place p new.box.copies)
    unfolding bytes_at eff
    at-key p hp = eff-all old.box.next_place p new.box.copies places (bytes_at (at_place p old.box.copies)) hp small ∙ by (is_in p places) refl (at_place p new.box.copies) refl
      where
        by : (b : Bool) → is_in p places ≡ b → (o : Option Entry) → at_place p new.box.copies ≡ o → cond b (eff old.box.next_place p o (bytes_at (at_place p old.box.copies))) (bytes_at (at_place p old.box.copies)) ≡ bytes_at o
        by true i (Some x) at = refl
        by true i None at = elim (cases_lt p old.box.next_place) [
          | inl lt ↦ rw (lt-ltb p old.box.next_place lt) refl
          | inr le ↦ rw (le-ltb p old.box.next_place le, past p old.box.next_place old.box.copies then_below le) refl
        ]
        by false i o at = elim (follows.each p) [
          | inl s ↦ bytes-durable (at_place p old.box.copies) o (s.1 ∙ ap durable at)
          | inr m ↦ absurd (false≢true (sym i ∙ same p ∙ m.0))
        ]

    at-found : (q : Key) (p : ℕ) → p < 2 ^ 64 → same_key q (ck p) ≡ true → answer q (copy_changes client old.box.next_place new.box.copies places) (find key_cmp q (copy_rows client old.box.copies)) ≡ find key_cmp q (copy_rows client new.box.copies)
    at-found q p hp h =
        let is = alike q (ck p) h in
        rw (is, rows-found p old.box.next_place old.box.copies hp then_small then_below, rows-found p new.box.next_place new.box.copies hp now_small now_below) (at-key p hp)

    copies-lead : (q : Key) → answer q (copy_changes client old.box.next_place new.box.copies places) (find key_cmp q (copy_rows client old.box.copies)) ≡ find key_cmp q (copy_rows client new.box.copies)
    copies-lead q = elim (search q places) [
      | inl found ↦ at-found q found.0 (omega (arith, touched-small found.0 found.1, now_small)) found.2
      | inr none ↦ elim (search q (keys_of old.box.copies)) [
        | inl found ↦ at-found q found.0 (omega (arith, in-keys found.0 old.box.next_place old.box.copies then_below found.1, then_small)) found.2
        | inr none_then ↦ elim (search q (keys_of new.box.copies)) [
          | inl found ↦ at-found q found.0 (omega (arith, in-keys found.0 new.box.next_place new.box.copies now_below found.1, now_small)) found.2
          | inr none_now ↦ none-all q old.box.next_place new.box.copies places (find key_cmp q (copy_rows client old.box.copies)) none ∙ rows-none q old.box.copies none_then ∙ sym (rows-none q new.box.copies none_now)
        ]
      ]
    ]

rows-away : (client : List ℕ) (es : Entries) → copy_rows client (away es) ≡ copy_rows client es
rows-away client [] = refl
rows-away client (e ∷ es) = ap (λ r. copy_row client e ∷ r) (rows-away client es)

-- ---- its own row
own-put : (q : Key) (client value : List ℕ) (b : Bool) (o : Option (List ℕ)) → same_key q (main_key client) ≡ true → (b ≡ true → o ≡ Some value) → answer q (own_change_by b client value) o ≡ Some value
unfolding answer
own-put q client value true o h told = told refl
own-put q client value false o h told = rw h refl

own-other : (q : Key) (client value : List ℕ) (b : Bool) (o : Option (List ℕ)) → same_key q (main_key client) ≡ false → answer q (own_change_by b client value) o ≡ o
unfolding answer
own-other q client value true o h = refl
own-other q client value false o h = rw h refl

told-same : (told : Option (List ℕ)) (value : List ℕ) → is_told told value ≡ true → told ≡ Some value
told-same None value h = absurd (false≢true h)
told-same (Some v) value h = ap (λ x. Some x) (same_text v value (sym h))

told-own : (q : Key) (last : Option Durable) (client : List ℕ) → IfSome last (λ d. d.client ≡ client) → same_key q (main_key client) ≡ true → find key_cmp q (told_rows last) ≡ option_map (λ d. main.bytes d.main) last
told-own q None client owner h = refl
told-own q (Some d) client owner h = (let mine : same_key q (main_key d.client) ≡ true = rw owner h in rw mine refl)

told-other : (q : Key) (last : Option Durable) (client : List ℕ) → IfSome last (λ d. d.client ≡ client) → same_key q (main_key client) ≡ false → find key_cmp q (told_rows last) ≡ find key_cmp q (copy_rows client (told_copies last))
told-other q None client owner h = refl
told-other q (Some d) client owner h = (let other : same_key q (main_key d.client) ≡ false = rw owner h in rw other (ap (λ c. find key_cmp q (copy_rows c d.copies)) owner))

module _ (last : Option Durable) (told : Told) (client : List ℕ) (m : Main) (now : Watched) (places : List ℕ) (since : IsSince last told client now) (listed : AreListed now.touched places) where
  mine : (q : Key) → same_key q (main_key client) ≡ true
      → answer q (copy_changes client told.next_place now.box.copies places) (answer q (own_change told.value client (main.bytes m)) (find key_cmp q (told_rows last))) ≡ Some (main.bytes m)
  unfolding ck
  mine q h =
      let put = own-put q client (main.bytes m) (is_told told.value (main.bytes m)) (find key_cmp q (told_rows last)) h (λ t. told-own q last client since.owner h ∙ sym since.value ∙ told-same told.value (main.bytes m) t) in
      none-all client q told.next_place now.box.copies places _ (λ p i. rw (alike q (main_key client) h) refl) ∙ put

  other : (q : Key) → same_key q (main_key client) ≡ false
      → answer q (copy_changes client told.next_place now.box.copies places) (answer q (own_change told.value client (main.bytes m)) (find key_cmp q (told_rows last))) ≡ find key_cmp q (copy_rows client (away now.box.copies))
  other q h =
      let kept = own-other q client (main.bytes m) (is_told told.value (main.bytes m)) (find key_cmp q (told_rows last)) h ∙ told-other q last client since.owner h in
      rw (kept, since.next, rows-away client now.box.copies)
      (copies-lead client (told_box last) now since.follows refl since.then_below since.then_small since.now_below since.now_small places listed.same q)

  leads : after_plains (from_entries (told_rows last)) (changes_of told client m now.box.copies places) ≡ from_entries (rows_of (record { client = client; main = m; copies = away now.box.copies }))
  leads = same_map keys_total exact_keys _ _ (λ q.
      get-all (from_entries (told_rows last)) (changes_of told client m now.box.copies places) q
      ∙ ap (answer q (changes_of told client m now.box.copies places)) (get-from_entries keys_total (told_rows last) q)
      ∙ answer-append q (own_change told.value client (main.bytes m)) (copy_changes client told.next_place now.box.copies places) (find key_cmp q (told_rows last))
      ∙ elim (cases_Bool (same_key q (main_key client))) [
        | inl t ↦ mine q t ∙ sym (get-from_entries keys_total (rows_of (record { client = client; main = m; copies = away now.box.copies })) q ∙ rw t refl)
        | inr f ↦ other q f ∙ sym (get-from_entries keys_total (rows_of (record { client = client; main = m; copies = away now.box.copies })) q ∙ rw f refl)
      ])

pub changes_lead : ChangesLead
changes_lead last told client m now places since listed = leads last told client m now places since listed

pub changes_made : ChangesAreMade
changes_made c [] = refl
changes_made c (Put row ∷ more) = changes_made (insert c (key_of row) row.value.items) more
changes_made c (Remove kind owner place ∷ more) = changes_made (remove c (kind, (owner.items, place.items))) more

-- ---- each key is named once
abbrev IsApart : Key → List PlainChange → Type 0
IsApart q ps = AllByRecursion (λ p. q ≢ p.0) ps

module _ (client : List ℕ) (next : ℕ) (es : Entries) where
  apart-one : (q : Key) (r : ℕ) (o : Option Entry) (rest : List PlainChange) → q ≢ copy_key client r → IsApart q rest → IsApart q (copy_change client next r o ++ rest)
  apart-one q r None rest h more = elim (cases_Bool (nat_lt r next)) [ inl t ↦ rw t (h, more) | inr f ↦ rw f more ]
  apart-one q r (Some x) rest h more = (h, more)

  apart-copies : (q : Key) (ps : List ℕ) → ((r : ℕ) → is_in r ps ≡ true → q ≢ copy_key client r) → IsApart q (copy_changes client next es ps)
  apart-copies q [] h = tt
  apart-copies q (r ∷ ps) h =
      apart-one q r (at_place r es) (copy_changes client next es ps) (h r (or_left (r == r) (is_in r ps) (eq-eqb r r refl))) (apart-copies q ps (λ p i. h p (or_right (r == p) (is_in p ps) i)))

  names-one : (r : ℕ) (o : Option Entry) (rest : List PlainChange) → IsApart (copy_key client r) rest → NameApart rest → NameApart (copy_change client next r o ++ rest)
  names-one r None rest h more = elim (cases_Bool (nat_lt r next)) [ inl t ↦ rw t (h, more) | inr f ↦ rw f more ]
  names-one r (Some x) rest h more = (h, more)

  later : (r p : ℕ) (ps : List ℕ) → AllByRecursion (λ y. nat_cmp r y ≡ Less) ps → is_in p ps ≡ true → r < p
  later r p [] below h = absurd (false≢true h)
  later r p (x ∷ ps) below h = elim (or_cases (x == p) (is_in p ps) h) [
    | inl here ↦ subst (λ (y : ℕ). r < y) (eqb-true x p here) (ranked r x Less (sym below.0))
    | inr more ↦ later r p ps below.1 more
  ]

  key-apart : (p r : ℕ) → p < 2 ^ 64 → r < 2 ^ 64 → p < r → copy_key client p ≢ copy_key client r
  unfolding ck
  key-apart p r hp hr lt e = (let same : p ≡ r = place-back client p r hp hr e in omega (arith, same, lt))

  names-copies : (ps : List ℕ) → IsStrictlySortedBy nat_cmp ps → ((p : ℕ) → is_in p ps ≡ true → p < 2 ^ 64) → NameApart (copy_changes client next es ps)
  names-copies [] sorted range = tt
  names-copies (r ∷ ps) sorted range =
      names-one r (at_place r es) (copy_changes client next es ps)
      (apart-copies (copy_key client r) ps (λ p i. key-apart r p (range r (or_left (r == r) (is_in r ps) (eq-eqb r r refl))) (range p (or_right (r == p) (is_in p ps) i)) (later r p ps (sorted_head nat_cmp r ps sorted) i)))
      (names-copies ps (sorted_tail nat_cmp r ps sorted) (λ p i. range p (or_right (r == p) (is_in p ps) i)))

-- ---- each names a row that differs
stage-same : (s t : Stage) (d e : Delivery) → copy.bytes (s, d) ≡ copy.bytes (t, e) → stage_progress s ≡ stage_progress t
unfolding copy
stage-same Waiting Waiting d e h = refl
stage-same Waiting (Published i) d e h = (let at = ap (λ (bs : List ℕ). get_or bs 2 0) h in absurd (omega (arith, at)))
stage-same Waiting (Released i o) d e h = (let at = ap (λ (bs : List ℕ). get_or bs 2 0) h in absurd (omega (arith, at)))
stage-same (Published i) Waiting d e h = (let at = ap (λ (bs : List ℕ). get_or bs 2 0) h in absurd (omega (arith, at)))
stage-same (Published i) (Published j) d e h = refl
stage-same (Published i) (Released j o) d e h = (let at = ap (λ (bs : List ℕ). get_or bs 2 0) h in absurd (omega (arith, at)))
stage-same (Released i o) Waiting d e h = (let at = ap (λ (bs : List ℕ). get_or bs 2 0) h in absurd (omega (arith, at)))
stage-same (Released i o) (Published j) d e h = (let at = ap (λ (bs : List ℕ). get_or bs 2 0) h in absurd (omega (arith, at)))
stage-same (Released i o) (Released j k) d e h = refl

abbrev row_bytes : Option Entry → Option (List ℕ)
row_bytes o = option_map (λ x. copy.bytes (copy_of x)) o

row-differs : (b u : Bool) (o : Option Entry) (x : Entry) → progress_of b o < progress_of u (Some x) → row_bytes o ≢ Some (copy.bytes (copy_of x))
row-differs b u None x less e = cc
row-differs b u (Some y) x less e = (let same : copy.bytes (copy_of y) ≡ copy.bytes (copy_of x) = cc in omega (arith, less, stage-same y.stage x.stage y.delivery x.delivery same))

row-gone : (u : Bool) (o : Option Entry) → progress_of true o < progress_of u None → row_bytes o ≢ None
row-gone true None less e = omega (arith, less)
row-gone false None less e = omega (arith, less)
row-gone u (Some y) less e = cc

module _ (last : Option Durable) (told : Told) (client : List ℕ) (m : Main) (now : Watched) (places : List ℕ) (since : IsSince last told client now) (listed : AreListed now.touched places) where
  moved : (p : ℕ) → is_in p places ≡ true → progress p (told_next last) (told_copies last) < progress p now.box.next_place now.box.copies
  moved p h = elim (since.follows.each p) [
    | inl s ↦ absurd (false≢true (sym s.0 ∙ sym (listed.same p) ∙ h))
    | inr further ↦ further.1
  ]

  in-range : (p : ℕ) → is_in p places ≡ true → p < 2 ^ 64
  in-range p h = omega (arith, touched-small client (told_box last) now since.follows refl since.then_below since.then_small since.now_below since.now_small places listed.same p h, since.now_small)

  content : Content
  content = from_entries (told_rows last)

  was : (p : ℕ) → is_in p places ≡ true → get content (copy_key client p) ≡ row_bytes (at_place p (told_copies last))
  unfolding content ck bytes_at
  was p h =
      get-from_entries keys_total (told_rows last) (copy_key client p) ∙ told-other (copy_key client p) last client since.owner refl
      ∙ rows-found client p (told_next last) (told_copies last) (in-range p h) since.then_small since.then_below

  differs-one : (p : ℕ) → is_in p places ≡ true → (o : Option Entry) → at_place p now.box.copies ≡ o → (rest : List PlainChange) → AreDifferent content rest → AreDifferent content (copy_change client told.next_place p o ++ rest)
  differs-one p h (Some x) at rest more =
      let Now : Option Entry → Type 0 = λ y. progress_of (nat_lt p (told_next last)) (at_place p (told_copies last)) < progress_of (nat_lt p now.box.next_place) y in
      let less : progress_of (nat_lt p (told_next last)) (at_place p (told_copies last)) < progress_of (nat_lt p now.box.next_place) (Some x) = subst Now at (moved p h) in
      ((λ e. row-differs (nat_lt p (told_next last)) (nat_lt p now.box.next_place) (at_place p (told_copies last)) x less (sym (was p h) ∙ e)), more)
  differs-one p h None at rest more = elim (cases_Bool (nat_lt p told.next_place)) [
    | inl t ↦
        let used : nat_lt p (told_next last) ≡ true = ap (λ n. nat_lt p n) (sym since.next) ∙ t in
        let Used : Bool → Type 0 = λ b. progress_of b (at_place p (told_copies last)) < progress p now.box.next_place now.box.copies in
        let Left : Option Entry → Type 0 = λ x. progress_of true (at_place p (told_copies last)) < progress_of (nat_lt p now.box.next_place) x in
        let less : progress_of true (at_place p (told_copies last)) < progress_of (nat_lt p now.box.next_place) None = subst Left at (subst Used used (moved p h)) in
        rw t ((λ e. row-gone (nat_lt p now.box.next_place) (at_place p (told_copies last)) less (sym (was p h) ∙ e)), more)
    | inr f ↦ rw f more
  ]

  differs-all : (ps : List ℕ) → ((p : ℕ) → is_in p ps ≡ true → is_in p places ≡ true) → AreDifferent content (copy_changes client told.next_place now.box.copies ps)
  differs-all [] within = tt
  differs-all (r ∷ ps) within =
      differs-one r (within r (or_left (r == r) (is_in r ps) (eq-eqb r r refl))) (at_place r now.box.copies) refl (copy_changes client told.next_place now.box.copies ps) (differs-all ps (λ p i. within p (or_right (r == p) (is_in p ps) i)))

  not-told : (o : Option (List ℕ)) (value : List ℕ) → is_told o value ≡ false → o ≢ Some value
  not-told None value h e = cc
  not-told (Some v) value h e = (let same : v ≡ value = cc in other_text v value (sym h) same)

  differs-own : (rest : List PlainChange) → AreDifferent content rest → AreDifferent content (own_change told.value client (main.bytes m) ++ rest)
  unfolding content
  differs-own rest more = elim (cases_Bool (is_told told.value (main.bytes m))) [
    | inl t ↦ rw t more
    | inr f ↦
        let own = get-from_entries keys_total (told_rows last) (main_key client) ∙ told-own (main_key client) last client since.owner (self-key client (main_key client)) ∙ sym since.value in
        rw f ((λ e. not-told told.value (main.bytes m) f (sym own ∙ e)), more)
  ]

  once-own : (rest : List PlainChange) → IsApart (main_key client) rest → NameApart rest → NameApart (own_change told.value client (main.bytes m) ++ rest)
  once-own rest h more = elim (cases_Bool (is_told told.value (main.bytes m))) [ inl t ↦ rw t more | inr f ↦ rw f (h, more) ]

  main-apart : (p : ℕ) → main_key client ≢ copy_key client p
  main-apart p e = (let kinds : 2 ≡ 3 = ap (λ (k : Key). k.0) e in omega (arith, kinds))

  exact : AreExact last (changes_of told client m now.box.copies places)
  unfolding content
  exact = record {
    once =
        once-own (copy_changes client told.next_place now.box.copies places) (apart-copies client told.next_place now.box.copies (main_key client) places (λ p i. main-apart p))
        (names-copies client told.next_place now.box.copies places listed.rise in-range);
    differ = differs-own (copy_changes client told.next_place now.box.copies places) (differs-all places (λ p i. i));
  }

pub changes_exact : ChangesAreExact
changes_exact last told client m now places since listed = exact last told client m now places since listed
