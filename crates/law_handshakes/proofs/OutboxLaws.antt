-- Entries are kept exactly where they may be those of a session.
use Rattle.std.proofs.Common.{◌≡◌, ◌≢◌, ℕ, suc, ◌+◌, ◌<◌, ◌≤◌, ◌^◌, ◌⊎◌, true, false, not, List, [], ◌∷◌, length, Option, Some, None, refl, sym, ◌∙◌, arith, inl, inr}
use Rattle.std.specs.Prelude.{◌&&◌, ◌==◌, nat_le, nat_lt, is_some, IsSomeAnd}
use Rattle.std.specs.List.{AllByRecursion, list_all}
use Rattle.std.specs.List.Sorted.{IsStrictlySortedBy}
use Rattle.std.specs.Map.{keys_of}
use Rattle.std.specs.Ordering.{nat_cmp}
use Rattle.std.specs.Cmp.Derive.{both_true}
use Rattle.std.specs.declared.cmp.Ordering.TheVariants.{Less}
use Rattle.std.proofs.lemmas.Bool.{cases_Bool, cases_eq, cases_lt, and_parts, or_parts, or_from, both_ways, false_from_ne_true, not-true, not_from_false, le-leb, lt-ltb, leb-true, ltb-true, eqb-true, eq-eqb, ne_eqb, false≢true}
use Rattle.std.proofs.lemmas.Bool.Decides.{nat_tests}
use Rattle.std.proofs.lemmas.Cmp.{ranked}
use Rattle.std.proofs.lemmas.Map.Keys.{sorted_head, sorted_tail}
use Rattle.mqtt_fields.specs.declared.options.Qos.{Qos}
use Rattle.mqtt_fields.specs.declared.options.Qos.TheVariants.{AtMostOnce, AtLeastOnce, ExactlyOnce}
use Rattle.qos_handshakes.specs.declared.copies.Entry.{Entry}
use Rattle.qos_handshakes.specs.declared.copies.Stage.{Stage}
use Rattle.qos_handshakes.specs.declared.copies.Stage.TheVariants.{Waiting, Published, Released}
use Rattle.qos_handshakes.specs.Entries.{Entries, stage_has, has_id, find_id, at_place}
use Rattle.qos_handshakes.specs.Incoming.{rise}
use Rattle.qos_handshakes.specs.Outbox.{is_released, waiting, waits}
use Rattle.qos_handshakes.specs.Restored.{agree, precedes, first_place, all_wait, was_released, has_order, is_free, is_asked, stage_fits}
use Rattle.qos_handshakes.proofs.Indexed.{is_at-here, is_at-apart, at-head, at-tail}
use Rattle.qos_handshakes.proofs.RiseLaws.{rise-parts, sorted-rise}
use Rattle.session_rows.specs.Reachable.{IsReleasedAtTwo}
use Rattle.law_handshakes.specs.Outbox.{IsExchange, IsReleasedAs, FitsAt, MakeASession, AreReceiving, KeptWhereTheyMakeASession}

-- ---- what holds at each place
abbrev AllAt : (ℕ → Entry → Type 0) → Entries → Type 0
AllAt P es = AllByRecursion (λ e. P e.0 e.1) es

abbrev AreAbove : ℕ → Entries → Type 0
AreAbove k es = AllByRecursion (λ q. nat_cmp k q ≡ Less) (keys_of es)

abbrev AreSorted : Entries → Type 0
AreSorted es = IsStrictlySortedBy nat_cmp (keys_of es)

at-step : (p : ℕ) (x : Entry) (e : ℕ × Entry) (es : Entries) → at_place p (e ∷ es) ≡ Some x → ((e.0 ≡ p) × (e.1 ≡ x)) ⊎ ((e.0 ≢ p) × (at_place p es ≡ Some x))
at-step p x e es at = elim (cases_eq e.0 p) [
  | inl same ↦ inl (same, at-head p x e es at same)
  | inr apart ↦ inr (apart, at-tail p x e es at apart)
]

above : (k p : ℕ) (x : Entry) (es : Entries) → AreAbove k es → at_place p es ≡ Some x → k < p
above k p x [] h at = let bad : None ≡ Some x = at in (cc)
above k p x (e ∷ es) h at = elim (at-step p x e es at) [
  | inl t ↦ let lt : k < e.0 = ranked k e.0 Less (sym h.0) in let same = t.0 in omega (arith, lt, same)
  | inr t ↦ above k p x es h.1 t.1
]

at-first : (e : ℕ × Entry) (es : Entries) → at_place e.0 (e ∷ es) ≡ Some e.1
at-first e es = rw (is_at-here e.0 e.0 refl) refl

past-head : (p : ℕ) (x : Entry) (e : ℕ × Entry) (es : Entries) → AreSorted (e ∷ es) → at_place p es ≡ Some x → e.0 < p
past-head p x e es s at = above e.0 p x es (sorted_head nat_cmp e.0 (keys_of es) s) at

at-more : (p : ℕ) (x : Entry) (e : ℕ × Entry) (es : Entries) → AreSorted (e ∷ es) → at_place p es ≡ Some x → at_place p (e ∷ es) ≡ Some x
at-more p x e es s at =
    let lt : e.0 < p = past-head p x e es s at in
    let apart : e.0 ≢ p = omega (arith, lt) in
    rw (is_at-apart p e.0 apart) at

of-all : (P : ℕ → Entry → Type 0) (p : ℕ) (x : Entry) (es : Entries) → AllAt P es → at_place p es ≡ Some x → P p x
of-all P p x [] h at = let bad : None ≡ Some x = at in absurd (cc)
of-all P p x (e ∷ es) h at = elim (at-step p x e es at) [
  | inl t ↦ rw (← t.0, ← t.1) h.0
  | inr t ↦ of-all P p x es h.1 t.1
]

all-of : (P : ℕ → Entry → Type 0) (es : Entries) → AreSorted es → ((p : ℕ) (x : Entry) → at_place p es ≡ Some x → P p x) → AllAt P es
all-of P [] s h = tt
all-of P (e ∷ es) s h = (h e.0 e.1 (at-first e es), all-of P es (sorted_tail nat_cmp e.0 (keys_of es) s) (λ p x at. h p x (at-more p x e es s at)))

-- ---- stages
waits-is : (s : Stage) → waits s ≡ true → s ≡ Waiting
waits-is Waiting w = refl
waits-is (Published id) w = absurd (false≢true w)
waits-is (Released id order) w = absurd (false≢true w)

is-waits : (s : Stage) → s ≡ Waiting → waits s ≡ true
is-waits s is = rw is refl

exchange-has : (id : ℕ) (s : Stage) → IsExchange id s → stage_has id s ≡ true
exchange-has id Waiting h = absurd h
exchange-has id (Published i) h = eq-eqb i id h
exchange-has id (Released i order) h = eq-eqb i id h

has-exchange : (id : ℕ) (s : Stage) → stage_has id s ≡ true → IsExchange id s
has-exchange id Waiting h = absurd (false≢true h)
has-exchange id (Published i) h = eqb-true i id h
has-exchange id (Released i order) h = eqb-true i id h

released-was : (order : ℕ) (s : Stage) → IsReleasedAs order s → was_released order s ≡ true
released-was order Waiting h = absurd h
released-was order (Published id) h = absurd h
released-was order (Released id o) h = eq-eqb o order h

was-released : (order : ℕ) (s : Stage) → was_released order s ≡ true → IsReleasedAs order s
was-released order Waiting h = absurd (false≢true h)
was-released order (Published id) h = absurd (false≢true h)
was-released order (Released id o) h = eqb-true o order h

none-of : (o : Option Entry) → not (is_some o) ≡ true → o ≡ None
none-of None h = refl
none-of (Some x) h = absurd (false≢true h)

of-none : (o : Option Entry) → o ≡ None → not (is_some o) ≡ true
of-none o is = rw is refl

free-parts : (id : ℕ) (es : Entries) → is_free id es ≡ true → (id ≢ 0) × (find_id id es ≡ None)
free-parts id es f =
    let p = and_parts (not (id == 0)) (not (is_some (find_id id es))) f in
    (λ z. both_ways (id == 0) (not-true (id == 0) p.0) (eq-eqb id 0 z), none-of (find_id id es) p.1)

-- no later entry has the identifier, or the order
abbrev NoneLater : (Stage → Type 0) → Entries → Type 0
NoneLater R es = AllAt (λ p z. R z.stage → ⊥) es

none-id : (id : ℕ) (es : Entries) → find_id id es ≡ None → NoneLater (IsExchange id) es
none-id id [] n = tt
none-id id (e ∷ es) n = elim (cases_Bool (has_id id e.1)) [
  | inl t ↦ let bad : Some e.1 ≡ None = rw t at n in absurd (cc)
  | inr f ↦ (λ h. both_ways (has_id id e.1) f (exchange-has id e.1.stage h), none-id id es (rw f at n))
]

id-none : (id : ℕ) (es : Entries) → NoneLater (IsExchange id) es → find_id id es ≡ None
id-none id [] h = refl
id-none id (e ∷ es) h = rw (false_from_ne_true (has_id id e.1) (λ t. h.0 (has-exchange id e.1.stage t))) (id-none id es h.1)

none-order : (order : ℕ) (es : Entries) → has_order order es ≡ false → NoneLater (IsReleasedAs order) es
none-order order [] n = tt
none-order order (e ∷ es) n =
    let p = or_parts (was_released order e.1.stage) (has_order order es) n in
    (λ h. both_ways (was_released order e.1.stage) p.0 (released-was order e.1.stage h), none-order order es p.1)

order-none : (order : ℕ) (es : Entries) → NoneLater (IsReleasedAs order) es → has_order order es ≡ false
order-none order [] h = refl
order-none order (e ∷ es) h = or_from (was_released order e.1.stage) (has_order order es) (false_from_ne_true (was_released order e.1.stage) (λ t. h.0 (was-released order e.1.stage t))) (order-none order es h.1)

all-wait : (es : Entries) → AllAt (λ p x. x.stage ≡ Waiting) es → all_wait es ≡ true
all-wait [] h = refl
all-wait (e ∷ es) h = both_true (is-waits e.1.stage h.0) (all-wait es h.1)

-- ---- of entries that agree
record Head (next place : ℕ) (x : Entry) (later : Entries) : Type 0 where
  counted : 1 ≤ place
  before : place < first_place next later
  away : x.here ≡ false
  asked : is_asked x.delivery.qos ≡ true
  stage : stage_fits next later place x.stage ≡ true

head : (next : ℕ) (e : ℕ × Entry) (es : Entries) → agree next (e ∷ es) ≡ true → Head next e.0 e.1 es
head next e es h =
    let a = and_parts (nat_le 1 e.0) _ (and_parts (precedes next es e.0 e.1) (agree next es) h).0 in
    let b = and_parts (nat_lt e.0 (first_place next es)) _ a.1 in
    let c = and_parts (not e.1.here) _ b.1 in
    let d = and_parts (is_asked e.1.delivery.qos) _ c.1 in
    record { counted = leb-true 1 e.0 a.0; before = ltb-true e.0 (first_place next es) b.0; away = not-true e.1.here c.0; asked = d.0; stage = d.1 }

rest : (next : ℕ) (e : ℕ × Entry) (es : Entries) → agree next (e ∷ es) ≡ true → agree next es ≡ true
rest next e es h = (and_parts (precedes next es e.0 e.1) (agree next es) h).1

next-fits : (next : ℕ) (es : Entries) → agree next es ≡ true → (1 ≤ next) × (next ≤ 2 ^ 62)
next-fits next [] h = let p = and_parts (nat_le 1 next) _ h in (leb-true 1 next p.0, leb-true next (2 ^ 62) p.1)
next-fits next (e ∷ es) h = next-fits next es (rest next e es h)

first-most : (next : ℕ) (es : Entries) → agree next es ≡ true → first_place next es ≤ next
first-most next [] h = omega arith
first-most next (e ∷ es) h = let lt = (head next e es h).before in let le = first-most next es (rest next e es h) in omega (arith, lt, le)

less : (k q : ℕ) → k < q → nat_cmp k q ≡ Less
less k q lt = grind (arith, nat_tests)

are-above : (next k : ℕ) (es : Entries) → agree next es ≡ true → k < first_place next es → AreAbove k es
are-above next k [] h lt = tt
are-above next k (e ∷ es) h lt = let more = (head next e es h).before in (less k e.0 lt, are-above next k es (rest next e es h) (omega (arith, lt, more)))

are-sorted : (next : ℕ) (es : Entries) → agree next es ≡ true → AreSorted es
unfolding IsStrictlySortedBy
are-sorted next [] h = tt
are-sorted next (e ∷ es) h = (are-above next e.0 es (rest next e es h) (head next e es h).before, are-sorted next es (rest next e es h))

asked-of : (q : Qos) → is_asked q ≡ true → (q ≡ AtLeastOnce) ⊎ (q ≡ ExactlyOnce)
asked-of AtMostOnce a = absurd (false≢true a)
asked-of AtLeastOnce a = inl refl
asked-of ExactlyOnce a = inr refl

identifier-of : (next place : ℕ) (later : Entries) (s : Stage) → stage_fits next later place s ≡ true → (id : ℕ) → IsExchange id s → (id ≢ 0) × NoneLater (IsExchange id) later
identifier-of next place later Waiting f id h = absurd h
identifier-of next place later (Published i) f id h = let p = free-parts i later f in rw (← h) (p.0, none-id i later p.1)
identifier-of next place later (Released i order) f id h = let p = free-parts i later (and_parts (is_free i later) _ f).0 in rw (← h) (p.0, none-id i later p.1)

order-of : (next place : ℕ) (later : Entries) (s : Stage) → stage_fits next later place s ≡ true → (order : ℕ) → IsReleasedAs order s → ((1 ≤ order) × (order < 2 ^ 62)) × NoneLater (IsReleasedAs order) later
order-of next place later Waiting f order h = absurd h
order-of next place later (Published id) f order h = absurd h
order-of next place later (Released id o) f order h =
    let a = and_parts (is_free id later) _ f in
    let b = and_parts (nat_le 1 o) _ a.1 in
    let c = and_parts (nat_lt o (2 ^ 62)) (not (has_order o later)) b.1 in
    rw (← h) ((leb-true 1 o b.0, ltb-true o (2 ^ 62) c.0), none-order o later (not-true (has_order o later) c.1))

queue-of : (next place : ℕ) (later : Entries) (s : Stage) → stage_fits next later place s ≡ true → waits s ≡ true → (all_wait later ≡ true) × (place + 1 ≡ first_place next later)
queue-of next place later Waiting f w = let p = and_parts (all_wait later) (place + 1 == first_place next later) f in (p.0, eqb-true (place + 1) (first_place next later) p.1)
queue-of next place later (Published id) f w = absurd (false≢true w)
queue-of next place later (Released id order) f w = absurd (false≢true w)

-- an order of release is that of one that is released
is-released : (order : ℕ) (s : Stage) → IsReleasedAs order s → is_released s ≡ true
is-released order Waiting h = absurd h
is-released order (Published id) h = absurd h
is-released order (Released id o) h = refl

fits-at : (next place : ℕ) (x : Entry) (later : Entries) → first_place next later ≤ next → Head next place x later → IsReleasedAtTwo x → FitsAt next place x
fits-at next place x later most h two = record {
  first = h.counted;
  last = let lt = h.before in omega (arith, lt, most);
  asked = asked-of x.delivery.qos h.asked;
  away = h.away;
  identifier = λ id is. (identifier-of next place later x.stage h.stage id is).0;
  order = λ order is. let own = (order-of next place later x.stage h.stage order is).0 in (own.0, own.1, two (is-released order x.stage is));
}

-- what is released was sent at QoS 2
abbrev AreReleasedAtTwo : Entries → Type 0
AreReleasedAtTwo es = AllByRecursion (λ e. IsReleasedAtTwo e.1) es

all-fit : (next : ℕ) (es : Entries) → agree next es ≡ true → AreReleasedAtTwo es → AllAt (FitsAt next) es
all-fit next [] h two = tt
all-fit next (e ∷ es) h two = let r = rest next e es h in (fits-at next e.0 e.1 es (first-most next es r) (head next e es h) two.0, all-fit next es r two.1)

-- where all wait, one stands at each place up to the next
abbrev WaitsAt : ℕ → Entries → Type 0
WaitsAt p es = IsSomeAnd (at_place p es) (λ y. y.stage ≡ Waiting)

all-stand : (next : ℕ) (es : Entries) → agree next es ≡ true → all_wait es ≡ true → (p : ℕ) → first_place next es ≤ p → p < next → WaitsAt p es
all-stand next [] h w p le lt = absurd (omega (arith, le, lt))
all-stand next (e ∷ es) h w p le lt =
    let v = and_parts (waits e.1.stage) (all_wait es) w in
    let q = queue-of next e.0 es e.1.stage (head next e es h).stage v.0 in
    elim (cases_eq e.0 p) [
      | inl same ↦ rw (is_at-here p e.0 same) (waits-is e.1.stage v.0)
      | inr apart ↦ let beside = q.1 in rw (is_at-apart p e.0 apart) (all-stand next es (rest next e es h) v.1 p (omega (arith, le, beside, apart)) lt)
    ]

queue-stands : (next : ℕ) (es : Entries) → agree next es ≡ true → (place : ℕ) (x : Entry) → at_place place es ≡ Some x → x.stage ≡ Waiting → (later : ℕ) → place ≤ later → later < next → WaitsAt later es
queue-stands next [] h place x at is later le lt = let bad : None ≡ Some x = at in absurd (cc)
queue-stands next (e ∷ es) h place x at is later le lt = elim (at-step place x e es at) [
  | inl t ↦
      let w : waits e.1.stage ≡ true = rw t.1 (is-waits x.stage is) in
      let q = queue-of next e.0 es e.1.stage (head next e es h).stage w in
      let same = t.0 in
      all-stand next (e ∷ es) h (both_true w q.0) later (omega (arith, le, same)) lt
  | inr t ↦
      let past : e.0 < place = past-head place x e es (are-sorted next (e ∷ es) h) t.1 in
      let apart : e.0 ≢ later = omega (arith, past, le) in
      rw (is_at-apart later e.0 apart) (queue-stands next es (rest next e es h) place x t.1 is later le lt)
]

-- what no later entry has stands once
once : (R : Stage → Type 0) (next : ℕ) → ((place : ℕ) (later : Entries) (s : Stage) → stage_fits next later place s ≡ true → R s → NoneLater R later) → (es : Entries) → agree next es ≡ true → (p q : ℕ) (x y : Entry) → at_place p es ≡ Some x → at_place q es ≡ Some y → R x.stage → R y.stage → p ≡ q
once R next none [] h p q x y at at' is is' = let bad : None ≡ Some x = at in absurd (cc)
once R next none (e ∷ es) h p q x y at at' is is' = elim (at-step p x e es at) [
  | inl t ↦ elim (at-step q y e es at') [
    | inl u ↦ sym t.0 ∙ u.0
    | inr u ↦ absurd (of-all (λ k z. R z.stage → ⊥) q y es (none e.0 es e.1.stage (head next e es h).stage (rw t.1 is)) u.1 is')
  ]
  | inr t ↦ elim (at-step q y e es at') [
    | inl u ↦ absurd (of-all (λ k z. R z.stage → ⊥) p x es (none e.0 es e.1.stage (head next e es h).stage (rw u.1 is')) t.1 is)
    | inr u ↦ once R next none es (rest next e es h) p q x y t.1 u.1 is is'
  ]
]

makes : (next : ℕ) (es : Entries) → agree next es ≡ true → AreReleasedAtTwo es → length (waiting es) ≤ 65536 → MakeASession next es
makes next es h two few = record {
  least = (next-fits next es h).0;
  most = (next-fits next es h).1;
  rise = are-sorted next es h;
  each = λ place x at. of-all (FitsAt next) place x es (all-fit next es h two) at;
  queue = queue-stands next es h;
  few = few;
  identifiers = λ p q id x y at at' is is'. once (IsExchange id) next (λ place later s f i. (identifier-of next place later s f id i).1) es h p q x y at at' is is';
  orders = λ p q order x y at at' is is'. once (IsReleasedAs order) next (λ place later s f i. (order-of next place later s f order i).1) es h p q x y at at' is is';
}

-- ---- of entries that make a session
fewer-waiting : (k : ℕ) (e : ℕ × Entry) (es : Entries) → length (waiting (e ∷ es)) ≤ k → length (waiting es) ≤ k
fewer-waiting k e es le = elim (cases_Bool (waits e.1.stage)) [
  | inl t ↦ let more : suc (length (waiting es)) ≤ k = rw t at le in omega (arith, more)
  | inr f ↦ rw f at le
]

later-ones : (next : ℕ) (e : ℕ × Entry) (es : Entries) → MakeASession next (e ∷ es) → MakeASession next es
later-ones next e es m = record {
  least = m.least;
  most = m.most;
  rise = sorted_tail nat_cmp e.0 (keys_of es) m.rise;
  each = λ place x at. m.each place x (at-more place x e es m.rise at);
  queue = λ place x at is later le lt.
      let past : e.0 < place = past-head place x e es m.rise at in
      let apart : e.0 ≢ later = omega (arith, past, le) in
      rw (is_at-apart later e.0 apart) at (m.queue place x (at-more place x e es m.rise at) is later le lt);
  few = fewer-waiting 65536 e es m.few;
  identifiers = λ p q id x y at at' is is'. m.identifiers p q id x y (at-more p x e es m.rise at) (at-more q y e es m.rise at') is is';
  orders = λ p q order x y at at' is is'. m.orders p q order x y (at-more p x e es m.rise at) (at-more q y e es m.rise at') is is';
}

before-first : (next k : ℕ) (es : Entries) → k < next → AreAbove k es → k < first_place next es
before-first next k [] lt h = lt
before-first next k (e ∷ es) lt h = ranked k e.0 Less (sym h.0)

head-before : (next : ℕ) (e : ℕ × Entry) (es : Entries) → MakeASession next (e ∷ es) → e.0 < first_place next es
head-before next e es m = before-first next e.0 es (m.each e.0 e.1 (at-first e es)).last (sorted_head nat_cmp e.0 (keys_of es) m.rise)

first-below : (next : ℕ) (es : Entries) → MakeASession next es → first_place next es ≤ next
first-below next [] m = omega arith
first-below next (e ∷ es) m = let lt = (m.each e.0 e.1 (at-first e es)).last in omega (arith, lt)

some-of : (o : Option Entry) (Q : Entry → Type 0) → IsSomeAnd o Q → (y : Entry) × (o ≡ Some y) × Q y
some-of None Q h = absurd h
some-of (Some y) Q h = (y, refl, h)

first-at : (next p : ℕ) (y : Entry) (es : Entries) → AreSorted es → at_place p es ≡ Some y → first_place next es ≤ p
first-at next p y [] s at = let bad : None ≡ Some y = at in absurd (cc)
first-at next p y (e ∷ es) s at = elim (at-step p y e es at) [
  | inl t ↦ let same = t.0 in omega (arith, same)
  | inr t ↦ let past : e.0 < p = past-head p y e es s t.1 in omega (arith, past)
]

module _ (next : ℕ) (e : ℕ × Entry) (es : Entries) (m : MakeASession next (e ∷ es)) where
  -- after one that waits all wait, and the next stands beside it
  later-wait : e.1.stage ≡ Waiting → AllAt (λ p x. x.stage ≡ Waiting) es
  later-wait is = all-of (λ p x. x.stage ≡ Waiting) es (sorted_tail nat_cmp e.0 (keys_of es) m.rise) (λ p x at.
      let past : e.0 < p = past-head p x e es m.rise at in
      let up = at-more p x e es m.rise at in
      let lt : p < next = (m.each p x up).last in
      let le : e.0 ≤ p = omega (arith, past) in
      let waiting = m.queue e.0 e.1 (at-first e es) is p le lt in
      rw up at waiting)

  beside : e.1.stage ≡ Waiting → e.0 + 1 ≡ first_place next es
  beside is =
      let before = head-before next e es m in
      let most = first-below next es (later-ones next e es m) in
      elim (cases_lt (e.0 + 1) (first_place next es)) [
        | inl lt ↦
            let le : e.0 ≤ e.0 + 1 = omega arith in
            let below : e.0 + 1 < next = omega (arith, lt, most) in
            let apart : e.0 ≢ e.0 + 1 = omega arith in
            let there = some-of (at_place (e.0 + 1) es) (λ y. y.stage ≡ Waiting) (rw (is_at-apart (e.0 + 1) e.0 apart) at (m.queue e.0 e.1 (at-first e es) is (e.0 + 1) le below)) in
            let least = first-at next (e.0 + 1) there.0 es (sorted_tail nat_cmp e.0 (keys_of es) m.rise) there.1 in
            absurd (omega (arith, lt, least))
        | inr le ↦ omega (arith, le, before)
      ]

  none-later : (R : Stage → Type 0) → R e.1.stage → ((p q : ℕ) (x y : Entry) → at_place p (e ∷ es) ≡ Some x → at_place q (e ∷ es) ≡ Some y → R x.stage → R y.stage → p ≡ q) → NoneLater R es
  none-later R has one = all-of (λ p z. R z.stage → ⊥) es (sorted_tail nat_cmp e.0 (keys_of es) m.rise) (λ p x at is.
      let past : e.0 < p = past-head p x e es m.rise at in
      let same : e.0 ≡ p = one e.0 p e.1 x (at-first e es) (at-more p x e es m.rise at) has is in
      omega (arith, past, same))

  free : (id : ℕ) → IsExchange id e.1.stage → is_free id es ≡ true
  free id is =
      let nonzero = (m.each e.0 e.1 (at-first e es)).identifier id is in
      both_true (not_from_false (id == 0) (ne_eqb id 0 nonzero)) (of-none (find_id id es) (id-none id es (none-later (IsExchange id) is (λ p q x y at at' h k. m.identifiers p q id x y at at' h k))))

  fresh : (order : ℕ) → IsReleasedAs order e.1.stage → nat_le 1 order && (nat_lt order (2 ^ 62) && not (has_order order es)) ≡ true
  fresh order is =
      let o = (m.each e.0 e.1 (at-first e es)).order order is in
      both_true (le-leb 1 order o.0) (both_true (lt-ltb order (2 ^ 62) o.1) (not_from_false (has_order order es) (order-none order es (none-later (IsReleasedAs order) is (λ p q x y at at' h k. m.orders p q order x y at at' h k)))))

  stage-fits : (s : Stage) → e.1.stage ≡ s → stage_fits next es e.0 s ≡ true
  stage-fits Waiting is = both_true (all-wait es (later-wait is)) (eq-eqb (e.0 + 1) (first_place next es) (beside is))
  stage-fits (Published id) is = free id (rw is refl)
  stage-fits (Released id order) is = both_true (free id (rw is refl)) (fresh order (rw is refl))

  is-asked : (q : Qos) → (q ≡ AtLeastOnce) ⊎ (q ≡ ExactlyOnce) → is_asked q ≡ true
  is-asked q (inl is) = rw is refl
  is-asked q (inr is) = rw is refl

  precedes-all : precedes next es e.0 e.1 ≡ true
  precedes-all =
      let own = m.each e.0 e.1 (at-first e es) in
      both_true (le-leb 1 e.0 own.first) (both_true (lt-ltb e.0 (first_place next es) (head-before next e es m)) (both_true (not_from_false e.1.here own.away) (both_true (is-asked e.1.delivery.qos own.asked) (stage-fits e.1.stage refl))))

agrees : (next : ℕ) (es : Entries) → MakeASession next es → agree next es ≡ true
agrees next [] m = both_true (le-leb 1 next m.least) (le-leb next (2 ^ 62) m.most)
agrees next (e ∷ es) m = both_true (precedes-all next e es m) (agrees next es (later-ones next e es m))

-- each that is released has an order
released-order : (s : Stage) → is_released s ≡ true → (order : ℕ) × IsReleasedAs order s
released-order Waiting r = absurd (false≢true r)
released-order (Published id) r = absurd (false≢true r)
released-order (Released id order) r = (order, refl)

released-two : (next : ℕ) (es : Entries) → MakeASession next es → AreReleasedAtTwo es
released-two next es m = all-of (λ p x. IsReleasedAtTwo x) es m.rise (λ p x at r. let o = released-order x.stage r in ((m.each p x at).order o.0 o.1).2)

-- ---- identifiers that rise
identifiers-above : (i : ℕ) (ids : List ℕ) → list_all (nat_lt i) ids ≡ true → AllByRecursion (λ q. nat_cmp i q ≡ Less) ids
identifiers-above i [] h = tt
identifiers-above i (k ∷ ids) h = let p = and_parts (nat_lt i k) (list_all (nat_lt i) ids) h in (less i k (ltb-true i k p.0), identifiers-above i ids p.1)

rise-sorted : (ids : List ℕ) → rise ids ≡ true → IsStrictlySortedBy nat_cmp ids
unfolding IsStrictlySortedBy
rise-sorted [] r = tt
rise-sorted (i ∷ ids) r = let p = rise-parts i ids r in (identifiers-above i ids p.1, rise-sorted ids p.2)

both-bounds : (ids : List ℕ) → rise ids ≡ true → AllByRecursion (λ id. 1 ≤ id) ids → AllByRecursion (λ id. (1 ≤ id) × (id < 65536)) ids
both-bounds [] r least = tt
both-bounds (i ∷ ids) r least = let p = rise-parts i ids r in ((least.0, p.0), both-bounds ids p.2 least.1)

below-all : (ids : List ℕ) → AllByRecursion (λ id. (1 ≤ id) × (id < 65536)) ids → AllByRecursion (λ id. id < 65536) ids
below-all [] a = tt
below-all (i ∷ ids) a = (a.0.1, below-all ids a.1)

least-all : (ids : List ℕ) → AllByRecursion (λ id. (1 ≤ id) × (id < 65536)) ids → AllByRecursion (λ id. 1 ≤ id) ids
least-all [] a = tt
least-all (i ∷ ids) a = (a.0.0, least-all ids a.1)

receiving : (ids : List ℕ) → rise ids ≡ true → AllByRecursion (λ id. 1 ≤ id) ids → AreReceiving ids
receiving ids r least = record { rise = rise-sorted ids r; each = both-bounds ids r least }

pub kept-where : KeptWhereTheyMakeASession
kept-where = λ d form sound. (
  (λ is. (receiving d.main.incoming is.rise is.reachable.identifiers, makes d.main.next_place d.copies is.agree is.reachable.released is.reachable.waiting)),
  (λ are. record {
    form = form;
    sound = sound;
    rise = sorted-rise d.main.incoming are.0.rise (below-all d.main.incoming are.0.each);
    agree = agrees d.main.next_place d.copies are.1;
    reachable = record { identifiers = least-all d.main.incoming are.0.each; released = released-two d.main.next_place d.copies are.1; waiting = are.1.few };
  }),
)
