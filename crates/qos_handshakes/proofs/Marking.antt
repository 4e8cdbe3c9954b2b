-- Places that are touched.
use Rattle.std.proofs.Common.{◌≡◌, ◌≢◌, ℕ, zero, suc, drop, get_or, add-one, ◌+◌, ◌*◌, ◌<◌, ◌≤◌, ◌||◌, ◌⊎◌, Bool, true, false, List, [], ◌∷◌, ◌++◌, Option, Some, None, IsSome, length, refl, sym, ◌∙◌, ap, arith, inl, inr}
use Rattle.std.proofs.lemmas.Bool.{cases_eq, cases_lt, cases_Bool, eq-eqb, eqb-true, lt-ltb, le-ltb, or_right, false≢true}
use Rattle.std.proofs.lemmas.Bool.Decides.{nat_tests}
use Rattle.std.specs.BTreeSet.{insert_key}
use Rattle.std.specs.declared.cmp.Ordering.TheVariants.{Less, Equal, Greater}
use Rattle.std.specs.BTreeMap.{is_at}
use Rattle.std.specs.Map.{remove_entry, keys_of}
use Rattle.std.specs.List.{AllByRecursion}
use Rattle.std.specs.List.Sorted.{IsStrictlySortedBy}
use Rattle.std.proofs.lemmas.Cmp.{ranked}
use Rattle.std.proofs.lemmas.Map.Keys.{sorted_head, sorted_tail}
use Rattle.std.specs.Ordering.{nat_cmp}
use Rattle.std.specs.Prelude.{◌==◌, nat_lt}
use Rattle.qos_handshakes.specs.declared.copies.Entry.{Entry}
use Rattle.qos_handshakes.specs.declared.copies.Stage.{Stage}
use Rattle.qos_handshakes.specs.declared.copies.Stage.TheVariants.{Waiting, Published, Released}
use Rattle.mqtt_fields.specs.declared.options.Qos.{Qos}
use Rattle.mqtt_fields.specs.declared.options.Qos.TheVariants.{AtMostOnce, AtLeastOnce, ExactlyOnce}
use Rattle.mqtt_message.specs.declared.delivery.Delivery.{Delivery}
use Rattle.qos_handshakes.specs.Entries.{Entries, at_place, find_id, write_at, as_here, place_in, IsIndexed, AllPlacesBelow}
use Rattle.qos_handshakes.specs.Outbox.{away, waits, waiting_entry, takes_pubrec}
use Rattle.qos_handshakes.specs.Touched.{is_in, HasAll, AreListed, durable, Touches, Marked, Marks, stage_credits, credits_of, credits, IsPlaceOf, Advances, stage_progress, progress_of}
use Rattle.qos_handshakes.proofs.Indexed.{is_at-here, is_at-apart, at-head, at-tail, at-removed, at-written, at-written_other, points-to, find-none, none-listed, drop-indexed, find-indexed, only-listed, write-at}

in-last : (p : ℕ) (ts : List ℕ) → is_in p (ts ++ p ∷ []) ≡ true
in-last p [] = rw (eq-eqb p p refl) refl
in-last p (t ∷ ts) = elim (cases_Bool (t == p)) [ inl h ↦ rw h refl | inr h ↦ rw h (in-last p ts) ]

in-more : (p q : ℕ) (ts : List ℕ) → is_in p ts ≡ true → is_in p (ts ++ q ∷ []) ≡ true
in-more p q [] h = absurd (false≢true h)
in-more p q (t ∷ ts) h = elim (cases_Bool (t == p)) [ inl g ↦ rw g refl | inr g ↦ rw g (in-more p q ts (rw g at h)) ]

in-or-last : (p q : ℕ) (ts : List ℕ) → is_in p (ts ++ q ∷ []) ≡ true → (is_in p ts ≡ true) ⊎ (p ≡ q)
in-or-last p q [] h = elim (cases_Bool (q == p)) [ inl t ↦ inr (sym (eqb-true q p t)) | inr f ↦ absurd (false≢true (rw f at h)) ]
in-or-last p q (t ∷ ts) h = elim (cases_Bool (t == p)) [ inl g ↦ rw g (inl refl) | inr g ↦ rw g (in-or-last p q ts (rw g at h)) ]

-- what changes at one place only, which is touched
touched-at : (es ns : Entries) (l k : Marked) (place : ℕ) → k.places ≡ l.places ++ place ∷ [] → durable (at_place place es) ≢ durable (at_place place ns) → ((p : ℕ) → p ≢ place → at_place p ns ≡ at_place p es) → Touches es l.places ns k.places
touched-at es ns l k place is differs same = record {
  still = λ p h. rw is (in-more p place l.places h);
  changed = λ p. elim (cases_eq p place) [
    | inl here ↦ inr (rw (is, here) (in-last place l.places))
    | inr apart ↦ inl (sym (ap durable (same p apart)))
  ];
  only = λ p h. elim (in-or-last p place l.places (rw is at h)) [
    | inl t ↦ inl t
    | inr here ↦ inr (λ e. differs (ap (λ (q : ℕ). durable (at_place q es)) (sym here) ∙ e ∙ ap (λ (q : ℕ). durable (at_place q ns)) here))
  ];
}

credits-durable : (o : Option Entry) → credits_of (durable o) ≡ credits_of o
credits-durable None = refl
credits-durable (Some x) = refl

-- what may be touched less often has changed
spent-differs : (o n : Option Entry) → credits_of n < credits_of o → durable o ≢ durable n
spent-differs o n less e = let same : credits_of o ≡ credits_of n = sym (credits-durable o) ∙ ap credits_of e ∙ credits-durable n in omega (arith, less, same)

spent-at : (es ns : Entries) (l k : Marked) (place : ℕ) → k.places ≡ l.places ++ place ∷ [] → credits_of (at_place place ns) < credits_of (at_place place es) → (p : ℕ) → is_in p k.places ≡ true → (is_in p l.places ≡ true) ⊎ (credits_of (at_place p ns) < credits_of (at_place p es))
spent-at es ns l k place is less p h = elim (in-or-last p place l.places (rw is at h)) [
  | inl t ↦ inl t
  | inr here ↦ inr (rw here less)
]

less-at : (es ns : Entries) (place : ℕ) → credits_of (at_place place ns) < credits_of (at_place place es) → ((p : ℕ) → p ≢ place → at_place p ns ≡ at_place p es) → (p : ℕ) → credits_of (at_place p ns) ≤ credits_of (at_place p es)
less-at es ns place less same p = elim (cases_eq p place) [
  | inl here ↦ rw here (omega (arith, less))
  | inr apart ↦ rw (same p apart) (omega arith)
]

pub credits-removed : (place : ℕ) (x : Entry) (es : Entries) → at_place place es ≡ Some x → credits (remove_entry (is_at (nat_cmp place)) es) + stage_credits x.stage ≡ credits es
credits-removed place x [] at = let bad : None ≡ Some x = at in (cc)
credits-removed place x (e ∷ es) at = elim (cases_eq e.0 place) [
  | inl same ↦ let is = ap (λ (y : Entry). stage_credits y.stage) (at-head place x e es at same) in rw (is_at-here place e.0 same) (omega (arith, is))
  | inr apart ↦ rw (is_at-apart place e.0 apart) (omega (arith, credits-removed place x es (at-tail place x e es at apart)))
]

pub credits-written : (f : Entry → Entry) (place : ℕ) (x : Entry) (es : Entries) → at_place place es ≡ Some x → credits (write_at f place es) + stage_credits x.stage ≡ credits es + stage_credits (f x).stage
credits-written f place x [] at = let bad : None ≡ Some x = at in (cc)
credits-written f place x (e ∷ es) at = elim (cases_eq e.0 place) [
  | inl same ↦
      let is = ap (λ (y : Entry). stage_credits y.stage) (at-head place x e es at same) in
      let more = ap (λ (y : Entry). stage_credits (f y).stage) (at-head place x e es at same) in
      rw (is_at-here place e.0 same) (omega (arith, is, more))
  | inr apart ↦ rw (is_at-apart place e.0 apart) (omega (arith, credits-written f place x es (at-tail place x e es at apart)))
]

some-credit : (s : Stage) → 1 ≤ stage_credits s
some-credit Waiting = omega arith
some-credit (Published id) = omega arith
some-credit (Released id order) = omega arith

pub credit-there : (place room : ℕ) (x : Entry) (es : Entries) → credits es ≤ room → at_place place es ≡ Some x → 1 ≤ room
credit-there place room x es h at = omega (arith, h, credits-removed place x es at, some-credit x.stage)

most-credits : (s : Stage) → stage_credits s ≤ 3
most-credits Waiting = omega arith
most-credits (Published id) = omega arith
most-credits (Released id order) = omega arith

pub credits-most : (es : Entries) → credits es ≤ 3 * length es
credits-most [] = omega arith
credits-most (e ∷ es) = omega (arith, most-credits e.1.stage, credits-most es)

pub credits-pushed : (next : ℕ) (c : Delivery) (es : Entries) → credits (es ++ (next, waiting_entry c) ∷ []) ≡ credits es + 3
credits-pushed next c [] = refl
credits-pushed next c (e ∷ es) = omega (arith, credits-pushed next c es)

at-pushed : (next p : ℕ) (x : Entry) (es : Entries) → p ≢ next → at_place p (es ++ (next, x) ∷ []) ≡ at_place p es
at-pushed next p x [] apart = rw (is_at-apart p next (λ z. apart (sym z))) refl
at-pushed next p x (e ∷ es) apart = elim (cases_eq e.0 p) [
  | inl h ↦ rw (is_at-here p e.0 h) refl
  | inr h ↦ rw (is_at-apart p e.0 h) (at-pushed next p x es apart)
]

none-past : (p : ℕ) (es : Entries) → AllPlacesBelow es p → at_place p es ≡ None
none-past p [] h = refl
none-past p (e ∷ es) h = let apart : e.0 ≢ p = omega (arith, h.0) in rw (is_at-apart p e.0 apart) (none-past p es h.1)

at-last : (p : ℕ) (x : Entry) (es : Entries) → AllPlacesBelow es p → at_place p (es ++ (p, x) ∷ []) ≡ Some x
at-last p x [] h = rw (is_at-here p p refl) refl
at-last p x (e ∷ es) h = let apart : e.0 ≢ p = omega (arith, h.0) in rw (is_at-apart p e.0 apart) (at-last p x es h.1)

none-some : (o n : Option Entry) (x : Entry) → o ≡ None → n ≡ Some x → durable o ≢ durable n
none-some o n x a b e = let bad : None ≡ Some (record x { here = false }) = sym (ap durable a) ∙ e ∙ ap durable b in (cc)

pub touched-pushed : (next : ℕ) (c : Delivery) (es ns : Entries) (l k : Marked) → AllPlacesBelow es next → ns ≡ es ++ (next, waiting_entry c) ∷ [] → k.places ≡ l.places ++ next ∷ [] → Touches es l.places ns k.places
touched-pushed next c es ns l k below is marked =
    touched-at es ns l k next marked (rw is (none-some _ _ (waiting_entry c) (none-past next es below) (at-last next (waiting_entry c) es below))) (λ p apart. rw is (at-pushed next p (waiting_entry c) es apart))

pub touches-same : (es ns : Entries) (ts us : List ℕ) → ns ≡ es → us ≡ ts → Touches es ts ns us
touches-same es ns ts us is same = rw (is, same) (record { still = λ p h. h; changed = λ p. inl refl; only = λ p h. inl h })

pub marks-same : (es ns : Entries) (l : Marked) → ns ≡ es → Marks es l ns l
marks-same es ns l is = record { touches = touches-same es ns l.places l.places is refl; less = λ p. rw is (omega arith); moves = λ p. inl (rw is refl); spent = λ p h. inl h; room = λ h. rw is h }

spent-then : (es fs gs : Entries) (l k m : Marked) → Marks es l fs k → Marks fs k gs m → (p : ℕ) → is_in p m.places ≡ true → (is_in p l.places ≡ true) ⊎ (credits_of (at_place p gs) < credits_of (at_place p es))
spent-then es fs gs l k m a b p h = elim (b.spent p h) [
  | inl t ↦ elim (a.spent p t) [
    | inl u ↦ inl u
    | inr u ↦ inr (omega (arith, u, b.less p))
  ]
  | inr t ↦ inr (omega (arith, t, a.less p))
]

-- one after the other
pub marks-then : (es fs gs : Entries) (l k m : Marked) → Marks es l fs k → Marks fs k gs m → Marks es l gs m
marks-then es fs gs l k m a b = record {
  touches = record {
    still = λ p h. b.touches.still p (a.touches.still p h);
    changed = λ p. elim (a.touches.changed p) [
      | inl x ↦ elim (b.touches.changed p) [ inl y ↦ inl (x ∙ y) | inr y ↦ inr y ]
      | inr x ↦ inr (b.touches.still p x)
    ];
    only = λ p h. elim (spent-then es fs gs l k m a b p h) [
      | inl t ↦ inl t
      | inr t ↦ inr (spent-differs (at_place p es) (at_place p gs) t)
    ];
  };
  less = λ p. omega (arith, a.less p, b.less p);
  moves = λ p. elim (a.moves p) [
    | inl x ↦ elim (b.moves p) [
      | inl y ↦ inl (x ∙ y)
      | inr y ↦ inr (omega (arith, y, a.less p))
    ]
    | inr x ↦ inr (omega (arith, x, b.less p))
  ];
  spent = spent-then es fs gs l k m a b;
  room = λ h. b.room (a.room h);
}

none-above : (p k : ℕ) (es : Entries) → AllByRecursion (λ q. nat_cmp k q ≡ Less) (keys_of es) → p ≤ k → at_place p es ≡ None
none-above p k [] below le = refl
none-above p k (e ∷ es) below le =
    let lt : k < e.0 = ranked k e.0 Less (sym below.0) in let apart : e.0 ≢ p = omega arith in rw (is_at-apart p e.0 apart) (none-above p k es below.1 le)

-- nothing is left at the place of an entry that was taken out
gone : (place : ℕ) (es : Entries) → IsStrictlySortedBy nat_cmp (keys_of es) → at_place place (remove_entry (is_at (nat_cmp place)) es) ≡ None
gone place [] sorted = refl
gone place (e ∷ es) sorted = elim (cases_eq e.0 place) [
  | inl here ↦ rw (is_at-here place e.0 here) (none-above place e.0 es (sorted_head nat_cmp e.0 (keys_of es) sorted) (omega (arith, here)))
  | inr apart ↦ rw (is_at-apart place e.0 apart, is_at-apart place e.0 apart) (gone place es (sorted_tail nat_cmp e.0 (keys_of es) sorted))
]

credits-gone : (o n : Option Entry) (x : Entry) → o ≡ Some x → n ≡ None → credits_of n < credits_of o
credits-gone o n x a b = rw (a, b) (omega (arith, some-credit x.stage))

credits-less : (o n : Option Entry) (x y : Entry) → o ≡ Some x → n ≡ Some y → stage_credits y.stage + 1 ≤ stage_credits x.stage → credits_of n < credits_of o
credits-less o n x y a b less = rw (a, b) (omega (arith, less))

-- what stands at a place changes, and may be touched less often
marks-at : (es ns : Entries) (l k : Marked) (place : ℕ) → credits_of (at_place place ns) < credits_of (at_place place es) → ((p : ℕ) → p ≢ place → at_place p ns ≡ at_place p es) → k.places ≡ l.places ++ place ∷ [] → (credits es ≤ l.room → credits ns ≤ k.room) → Marks es l ns k
marks-at es ns l k place less same marked room = record {
  touches = touched-at es ns l k place marked (spent-differs (at_place place es) (at_place place ns) less) same;
  less = less-at es ns place less same;
  moves = λ p. elim (cases_eq p place) [
    | inl here ↦ inr (rw here less)
    | inr apart ↦ inl (sym (ap durable (same p apart)))
  ];
  spent = spent-at es ns l k place marked less;
  room = room;
}

pub marks-removed : (es ns : Entries) (l k : Marked) (place : ℕ) (x : Entry) → IsStrictlySortedBy nat_cmp (keys_of es) → at_place place es ≡ Some x → ns ≡ remove_entry (is_at (nat_cmp place)) es → k.places ≡ l.places ++ place ∷ [] → l.room ≤ k.room + 1 → Marks es l ns k
marks-removed es ns l k place x sorted at is marked room =
    marks-at es ns l k place (credits-gone (at_place place es) (at_place place ns) x at (rw is (gone place es sorted))) (λ p apart. rw is (at-removed p place es apart)) marked
    (λ h. rw is (omega (arith, h, room, credits-removed place x es at, some-credit x.stage)))

pub marks-written : (f : Entry → Entry) (es ns : Entries) (l k : Marked) (place : ℕ) (x : Entry) → at_place place es ≡ Some x → stage_credits (f x).stage + 1 ≤ stage_credits x.stage → ns ≡ write_at f place es → k.places ≡ l.places ++ place ∷ [] → l.room ≤ k.room + 1 → Marks es l ns k
marks-written f es ns l k place x at less is marked room =
    marks-at es ns l k place (credits-less (at_place place es) (at_place place ns) x (f x) at (rw is (at-written f place x es at)) less) (λ p apart. rw is (at-written_other f p place es apart)) marked
    (λ h. rw is (omega (arith, h, room, less, credits-written f place x es at)))

durable-here : (p place : ℕ) (es : Entries) → durable (at_place p es) ≡ durable (at_place p (write_at as_here place es))
durable-here p place [] = refl
durable-here p place (e ∷ es) = elim (cases_eq e.0 place) [
  | inl here ↦ elim (cases_eq e.0 p) [
    | inl mine ↦ rw (is_at-here place e.0 here, is_at-here p e.0 mine) refl
    | inr other ↦ rw (is_at-here place e.0 here, is_at-apart p e.0 other) refl
  ]
  | inr apart ↦ elim (cases_eq e.0 p) [
    | inl mine ↦ rw (is_at-apart place e.0 apart, is_at-here p e.0 mine) refl
    | inr other ↦ rw (is_at-apart place e.0 apart, is_at-apart p e.0 other) (durable-here p place es)
  ]
]

credits-here : (place : ℕ) (es : Entries) → credits (write_at as_here place es) ≡ credits es
credits-here place [] = refl
credits-here place (e ∷ es) = elim (cases_Bool (is_at (nat_cmp place) e.0)) [
  | inl t ↦ rw t refl
  | inr f ↦ rw f (ap (λ (n : ℕ). stage_credits e.1.stage + n) (credits-here place es))
]

credits-same : (o n : Option Entry) → durable o ≡ durable n → credits_of o ≡ credits_of n
credits-same o n e = sym (credits-durable o) ∙ ap credits_of e ∙ credits-durable n

pub marks-here : (es ns : Entries) (l : Marked) (place : ℕ) → ns ≡ write_at as_here place es → Marks es l ns l
marks-here es ns l place is = record {
  touches = record { still = λ p h. h; changed = λ p. inl (rw is (durable-here p place es)); only = λ p h. inl h };
  less = λ p. rw is (omega (arith, credits-same _ _ (durable-here p place es)));
  moves = λ p. inl (rw is (durable-here p place es));
  spent = λ p h. inl h;
  room = λ h. rw (is, credits-here place es) h;
}

pub credits-away : (es : Entries) → credits (away es) ≡ credits es
credits-away [] = refl
credits-away (e ∷ es) = ap (λ (n : ℕ). stage_credits e.1.stage + n) (credits-away es)

durable-away : (p : ℕ) (es : Entries) → durable (at_place p es) ≡ durable (at_place p (away es))
durable-away p [] = refl
durable-away p (e ∷ es) = elim (cases_eq e.0 p) [
  | inl mine ↦ rw (is_at-here p e.0 mine) refl
  | inr other ↦ rw (is_at-apart p e.0 other) (durable-away p es)
]

pub touches-away : (es ns : Entries) (ts : List ℕ) → ns ≡ away es → Touches es ts ns ts
touches-away es ns ts is = record { still = λ p h. h; changed = λ p. inl (rw is (durable-away p es)); only = λ p h. inl h }

-- ---- how far what stands at a place has come
progress-durable : (b : Bool) (o : Option Entry) → progress_of b (durable o) ≡ progress_of b o
progress-durable b None = refl
progress-durable b (Some x) = refl

progress-same : (b : Bool) (o n : Option Entry) → durable o ≡ durable n → progress_of b o ≡ progress_of b n
progress-same b o n e = sym (progress-durable b o) ∙ ap (progress_of b) e ∙ progress-durable b n

stage-progress : (s : Stage) → stage_progress s + stage_credits s ≡ 4
stage-progress Waiting = refl
stage-progress (Published id) = refl
stage-progress (Released id order) = refl

-- what may be touched less often has come further
further : (b : Bool) (o n : Option Entry) → (o ≢ None → b ≡ true) → credits_of n < credits_of o → progress_of b o < progress_of b n
further b None n used less = absurd (omega (arith, less))
further b (Some x) None used less = rw (used (λ e. absurd cc)) (omega (arith, stage-progress x.stage, some-credit x.stage))
further b (Some x) (Some y) used less = omega (arith, less, stage-progress x.stage, stage-progress y.stage)

used-below : (p next : ℕ) (es : Entries) → AllPlacesBelow es next → at_place p es ≢ None → nat_lt p next ≡ true
used-below p next [] below some = absurd (some refl)
used-below p next (e ∷ es) below some = elim (cases_eq e.0 p) [
  | inl here ↦ lt-ltb p next (omega (arith, here, below.0))
  | inr apart ↦ used-below p next es below.1 (rw (is_at-apart p e.0 apart) at some)
]

advances-by : (es ns : Entries) (next : ℕ) → AllPlacesBelow es next → ((p : ℕ) → (durable (at_place p es) ≡ durable (at_place p ns)) ⊎ (credits_of (at_place p ns) < credits_of (at_place p es))) → Advances next es next ns
advances-by es ns next below moves p = elim (moves p) [
  | inl same ↦ inl (same, progress-same (nat_lt p next) (at_place p es) (at_place p ns) same)
  | inr less ↦ inr (further (nat_lt p next) (at_place p es) (at_place p ns) (used-below p next es below) less)
]

-- marked changes
pub watched-marked : (es ns : Entries) (next : ℕ) (l k : Marked) → AllPlacesBelow es next → Marks es l ns k → Touches es l.places ns k.places × Advances next es next ns
watched-marked es ns next l k below m = (m.touches, advances-by es ns next below m.moves)

-- a new connection
pub watched-away : (es ns : Entries) (next : ℕ) (ts : List ℕ) → AllPlacesBelow es next → ns ≡ away es → Touches es ts ns ts × Advances next es next ns
watched-away es ns next ts below is = (touches-away es ns ts is, advances-by es ns next below (λ p. inl (rw is (durable-away p es))))

lt-next : (p q : ℕ) → p ≢ q → nat_lt p (q + 1) ≡ nat_lt p q
lt-next p q apart = elim (cases_lt p q) [
  | inl lt ↦ lt-ltb p (q + 1) (omega arith) ∙ sym (lt-ltb p q lt)
  | inr le ↦ le-ltb p (q + 1) (omega arith) ∙ sym (le-ltb p q le)
]

-- a copy that joins the queue
pub watched-pushed : (next : ℕ) (c : Delivery) (es ns : Entries) (l k : Marked) → AllPlacesBelow es next → ns ≡ es ++ (next, waiting_entry c) ∷ [] → k.places ≡ l.places ++ next ∷ [] → Touches es l.places ns k.places × Advances next es (next + 1) ns
watched-pushed next c es ns l k below is marked = (
  touched-pushed next c es ns l k below is marked,
  λ p. elim (cases_eq p next) [
    | inl here ↦
        let was : at_place p es ≡ None = rw here (none-past next es below) in
        let comes : at_place p ns ≡ Some (waiting_entry c) = rw (is, here) (at-last next (waiting_entry c) es below) in
        let unused : nat_lt p next ≡ false = rw here (le-ltb next next (omega arith)) in
        inr (rw (was, comes, unused) (omega arith))
    | inr apart ↦
        let same : at_place p ns ≡ at_place p es = rw is (at-pushed next p (waiting_entry c) es apart) in
        let used = lt-next p next apart in
        inl (rw same refl, rw (same, used) refl)
  ],
)

-- ---- stages that take less
pub less-sent : (id : ℕ) (s : Stage) → waits s ≡ true → 3 ≤ stage_credits s
less-sent id Waiting w = omega arith
less-sent id (Published i) w = absurd (false≢true w)
less-sent id (Released i order) w = absurd (false≢true w)

pub less-released : (q : Qos) (s : Stage) → takes_pubrec q s ≡ true → 2 ≤ stage_credits s
less-released AtMostOnce s t = absurd (false≢true t)
less-released AtLeastOnce s t = absurd (false≢true t)
less-released ExactlyOnce Waiting t = absurd (false≢true t)
less-released ExactlyOnce (Published id) t = omega arith
less-released ExactlyOnce (Released id order) t = absurd (false≢true t)

-- between equal entries
pub marks-within : (es fs gs hs : Entries) (l k : Marked) → fs ≡ es → Marks fs l gs k → hs ≡ gs → Marks es l hs k
marks-within es fs gs hs l k a m b = marks-then es fs hs l l k (marks-same es fs l a) (marks-then fs gs hs l k k m (marks-same gs hs k b))

-- ---- the place of an identifier
pub place-of : (es : Entries) (places : List ℕ) (id : ℕ) → IsIndexed es places → IsSome (find_id id es) → IsPlaceOf es id (place_in places id)
place-of es places id h some = elim (cases_eq (place_in places id) 0) [
  | inl z ↦ absurd (false≢true (rw (find-none id es (none-listed places id es h.listed z)) at some))
  | inr used ↦
      let its = points-to es places id h used in
      record {
        at = find-indexed es places id h;
        dropped = sym (drop-indexed es places id h used);
        written = λ f. sym (write-at f id (place_in places id) its.0 es (only-listed places id es h.listed) its.1 its.2);
      }
]

-- ---- by rising order
pub in-inserted : (p k : ℕ) (ks : List ℕ) → is_in p (insert_key nat_cmp ks k) ≡ ((k == p) || is_in p ks)
in-inserted p k [] = refl
in-inserted p k (x ∷ ks) = elim (cases_lt k x) [
  | inl lt ↦ let o : nat_cmp k x ≡ Less = grind (arith, nat_tests) in rw o refl
  | inr le ↦ elim (cases_eq k x) [
    | inl same ↦ let o : nat_cmp k x ≡ Equal = grind (arith, nat_tests) in rw (o, same) (elim (cases_Bool (x == p)) [ inl t ↦ rw t refl | inr f ↦ rw f refl ])
    | inr apart ↦ let o : nat_cmp k x ≡ Greater = grind (arith, nat_tests) in
        rw (o, in-inserted p k ks) (elim (cases_Bool (x == p)) [ inl t ↦ rw t (sym (or_right (k == p) true refl)) | inr f ↦ rw f refl ])
  ]
]

-- the set with the rest of the places has all of them
abbrev pub IsMade : List ℕ → List ℕ → List ℕ → Type 0
IsMade ks rest ts = (p : ℕ) → (is_in p ks || is_in p rest) ≡ is_in p ts

pub made-one : (ks ns rest ts : List ℕ) (k : ℕ) → IsMade ks (k ∷ rest) ts → ns ≡ insert_key nat_cmp ks k → IsMade ns rest ts
made-one ks ns rest ts k h is p = rw (is, in-inserted p k ks) (elim (cases_Bool (k == p)) [
  | inl t ↦ let g = rw t at (h p) in rw t (sym (or_right (is_in p ks) true refl) ∙ g)
  | inr f ↦ let g = rw f at (h p) in rw f g
])

pub made-all : (ks ts : List ℕ) → IsMade ks [] ts → HasAll ks ts
made-all ks ts h p = elim (cases_Bool (is_in p ks)) [ inl t ↦ rw t (rw t at (h p)) | inr f ↦ rw f (rw f at (h p)) ]

-- ---- the rest of the places
pub rest-at : (i : ℕ) (ps : List ℕ) → i < length ps → drop i ps ≡ get_or ps i 0 ∷ drop (suc i) ps
rest-at i [] lt = absurd (omega (arith, lt))
rest-at zero (p ∷ ps) lt = refl
rest-at (suc i) (p ∷ ps) lt = rest-at i ps (omega (arith, lt))

pub rest-one : (ks ns ps : List ℕ) (i : ℕ) → i < length ps → IsMade ks (drop i ps) ps → ns ≡ insert_key nat_cmp ks (get_or ps i 0) → IsMade ns (drop (i + 1) ps) ps
rest-one ks ns ps i lt h is = rw add-one (made-one ks ns (drop (suc i) ps) ps (get_or ps i 0) (rw (rest-at i ps lt) at h) is)

pub rest-none : (i : ℕ) (ps : List ℕ) → length ps ≤ i → drop i ps ≡ []
rest-none zero [] le = refl
rest-none (suc i) [] le = refl
rest-none zero (p ∷ ps) le = absurd (omega (arith, le))
rest-none (suc i) (p ∷ ps) le = rest-none i ps (omega (arith, le))

pub rest-made : (ks ps : List ℕ) (i : ℕ) → length ps ≤ i → IsMade ks (drop i ps) ps → HasAll ks ps
rest-made ks ps i le h = made-all ks ps (rw (rest-none i ps le) at h)

pub none-listed_at : (ts : List ℕ) → length ts ≡ 0 → AreListed ts [] × (ts ≡ [])
unfolding IsStrictlySortedBy
none-listed_at [] h = (record { rise = tt; same = λ p. refl }, refl)
none-listed_at (t ∷ ts) h = absurd (omega (arith, h))
