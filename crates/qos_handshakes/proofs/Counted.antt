-- The counts that the code keeps beside the copies.
use Rattle.std.proofs.Common.{◌≡◌, ◌≢◌, ℕ, ◌+◌, ◌<◌, ◌≤◌, Bool, true, false, cond, [], ◌∷◌, ◌++◌, Option, Some, None, length, refl, sym, ◌∙◌, ap, arith, inl, inr}
use Rattle.std.specs.Prelude.{IsSomeAnd, IsSome, is_some}
use Rattle.std.proofs.lemmas.Bool.{cases_Bool, false≢true}
use Rattle.std.specs.List.{AllByRecursion}
use Rattle.qos_handshakes.proofs.EntryLaws.{all-dropped, all-appended, in_flight-append, in_flight-write_id, stage_has-waits}
use Rattle.mqtt_fields.specs.declared.options.Qos.TheVariants.{AtMostOnce}
use Rattle.qos_handshakes.specs.declared.copies.Entry.{Entry}
use Rattle.mqtt_message.specs.declared.delivery.Delivery.{Delivery}
use Rattle.qos_handshakes.specs.Entries.{Entries, has_id, find_id, drop_id, write_id, write_at, at_place, as_released, as_published, IsLeastFree, AllPlacesBelow}
use Rattle.qos_handshakes.specs.Outbox.{waits, waiting, in_flight, waiting_entry, is_sendable, first_waiting, after_send, without_left_out, is_owed, AreOwedFrom, AreAnswered, HaveOrders, stage_id, stage_order, IsQueued, IsCounted}
use Rattle.std.specs.BTreeMap.{is_at}
use Rattle.std.specs.Map.{remove_entry}
use Rattle.std.specs.Ordering.{nat_cmp}
use Rattle.qos_handshakes.proofs.Indexed.{some-and, is_at-here, is_at-apart, at-head, at-tail, at-written, waits-has}

pub in_flight-dropped : (id : ℕ) (x : Entry) (es : Entries) → find_id id es ≡ Some x → in_flight (drop_id id es) + cond x.here 1 0 ≡ in_flight es
in_flight-dropped id x [] is = let bad : None ≡ Some x = is in (cc)
in_flight-dropped id x (e ∷ es) is = elim (cases_Bool (has_id id e.1)) [
  | inl h ↦ let f : Some e.1 ≡ Some x = rw h at is in let g : x ≡ e.1 = cc in rw (h, g) (omega arith)
  | inr h ↦ rw h (omega (arith, in_flight-dropped id x es (rw h at is)))
]

pub drop-missing : (id : ℕ) (es : Entries) → find_id id es ≡ None → drop_id id es ≡ es
drop-missing id [] is = refl
drop-missing id (e ∷ es) is = elim (cases_Bool (has_id id e.1)) [
  | inl h ↦ let bad : Some e.1 ≡ None = rw h at is in (cc)
  | inr h ↦ rw h (ap (λ (t : Entries). e ∷ t) (drop-missing id es (rw h at is)))
]

queued-dropped : (id first next : ℕ) (es : Entries) → IsQueued first next es → IsQueued first next (drop_id id es)
queued-dropped id first next [] q = q
queued-dropped id first next (e ∷ es) q = elim (cases_Bool (has_id id e.1)) [
  | inl h ↦ rw h ((rw (stage_has-waits id e.1.stage h) at q).1)
  | inr h ↦ rw h (elim (cases_Bool (waits e.1.stage)) [
    | inl w ↦ let r = rw w at q in rw w (r.0, r.1, queued-dropped id (first + 1) next es r.2)
    | inr w ↦ let r = rw w at q in rw w (r.0, queued-dropped id first next es r.1)
  ])
]

below-dropped : (id next : ℕ) (es : Entries) → AllPlacesBelow es next → AllPlacesBelow (drop_id id es) next
below-dropped id next [] b = tt
below-dropped id next (e ∷ es) b = elim (cases_Bool (has_id id e.1)) [
  | inl h ↦ rw h b.1
  | inr h ↦ rw h (b.0, below-dropped id next es b.1)
]

-- what `end` leaves
pub counted-dropped : (es : Entries) (first flight flight' next from id : ℕ) (x : Entry) → IsCounted es first flight next from → find_id id es ≡ Some x → flight' + cond x.here 1 0 ≡ flight → IsCounted (drop_id id es) first flight' next from
counted-dropped es first flight flight' next from id x h is less = record {
  flight_is = omega (arith, in_flight-dropped id x es is, h.flight_is);
  below = below-dropped id next es h.below;
  queued = queued-dropped id first next es h.queued;
  start = h.start;
  owed = all-dropped (λ e. is_owed e.1 ≡ true → from ≤ e.0) id es h.owed;
  answered = all-dropped (λ e. e.1.delivery.qos ≢ AtMostOnce) id es h.answered;
  orders = all-dropped (λ e. stage_order e.1.stage < 4611686018427387904) id es h.orders;
}

queued-released : (id order first next : ℕ) (es : Entries) → IsQueued first next es → IsQueued first next (write_id (as_released id order) id es)
queued-released id order first next [] q = q
queued-released id order first next (e ∷ es) q = elim (cases_Bool (has_id id e.1)) [
  | inl h ↦ rw h (rw (stage_has-waits id e.1.stage h) at q)
  | inr h ↦ rw h (elim (cases_Bool (waits e.1.stage)) [
    | inl w ↦ let r = rw w at q in rw w (r.0, r.1, queued-released id order (first + 1) next es r.2)
    | inr w ↦ let r = rw w at q in rw w (r.0, queued-released id order first next es r.1)
  ])
]

below-written : (f : Entry → Entry) (id next : ℕ) (es : Entries) → AllPlacesBelow es next → AllPlacesBelow (write_id f id es) next
below-written f id next [] b = tt
below-written f id next (e ∷ es) b = elim (cases_Bool (has_id id e.1)) [
  | inl h ↦ rw h b
  | inr h ↦ rw h (b.0, below-written f id next es b.1)
]

owed-released : (id order from : ℕ) (es : Entries) → AreOwedFrom from es → AreOwedFrom from (write_id (as_released id order) id es)
owed-released id order from [] h = tt
owed-released id order from (e ∷ es) h = elim (cases_Bool (has_id id e.1)) [
  | inl t ↦ rw t (λ o. absurd (false≢true o), h.1)
  | inr f ↦ rw f (h.0, owed-released id order from es h.1)
]

answered-released : (id order : ℕ) (es : Entries) → AreAnswered es → AreAnswered (write_id (as_released id order) id es)
answered-released id order [] h = tt
answered-released id order (e ∷ es) h = elim (cases_Bool (has_id id e.1)) [
  | inl t ↦ rw t (h.0, h.1)
  | inr f ↦ rw f (h.0, answered-released id order es h.1)
]

orders-released : (id order : ℕ) (es : Entries) → order < 4611686018427387904 → HaveOrders es → HaveOrders (write_id (as_released id order) id es)
orders-released id order [] lt h = tt
orders-released id order (e ∷ es) lt h = elim (cases_Bool (has_id id e.1)) [
  | inl t ↦ rw t (lt, h.1)
  | inr f ↦ rw f (h.0, orders-released id order es lt h.1)
]

-- what `received` leaves
pub counted-released : (es : Entries) (first flight next from id order : ℕ) → order < 4611686018427387904 → IsCounted es first flight next from → IsCounted (write_id (as_released id order) id es) first flight next from
counted-released es first flight next from id order lt h = record {
  flight_is = rw (in_flight-write_id (as_released id order) (λ _. refl) id es) h.flight_is;
  below = below-written (as_released id order) id next es h.below;
  queued = queued-released id order first next es h.queued;
  start = h.start;
  owed = owed-released id order from es h.owed;
  answered = answered-released id order es h.answered;
  orders = orders-released id order es lt h.orders;
}

queued-pushed : (c : Delivery) (first next : ℕ) (es : Entries) → IsQueued first next es → IsQueued first (next + 1) (es ++ (next, waiting_entry c) ∷ [])
queued-pushed c first next [] q = (sym q, refl, ap (λ (n : ℕ). n + 1) q)
queued-pushed c first next (e ∷ es) q = elim (cases_Bool (waits e.1.stage)) [
  | inl w ↦ let r = rw w at q in rw w (r.0, r.1, queued-pushed c (first + 1) next es r.2)
  | inr w ↦ let r = rw w at q in rw w (r.0, queued-pushed c first next es r.1)
]

below-pushed : (c : Delivery) (next : ℕ) (es : Entries) → AllPlacesBelow es next → AllPlacesBelow (es ++ (next, waiting_entry c) ∷ []) (next + 1)
below-pushed c next [] b = (omega arith, tt)
below-pushed c next (e ∷ es) b = (omega (arith, b.0), below-pushed c next es b.1)

-- what `offer` leaves
pub counted-pushed : (c : Delivery) (es : Entries) (first flight next from : ℕ) → c.qos ≢ AtMostOnce → IsCounted es first flight next from → IsCounted (es ++ (next, waiting_entry c) ∷ []) first flight (next + 1) from
counted-pushed c es first flight next from asked h = record {
  flight_is = rw (in_flight-append es ((next, waiting_entry c) ∷ [])) (omega (arith, h.flight_is));
  below = below-pushed c next es h.below;
  queued = queued-pushed c first next es h.queued;
  start = omega (arith, h.start);
  owed = all-appended (λ e. is_owed e.1 ≡ true → from ≤ e.0) (next, waiting_entry c) es h.owed (λ o. absurd (false≢true o));
  answered = all-appended (λ e. e.1.delivery.qos ≢ AtMostOnce) (next, waiting_entry c) es h.answered asked;
  orders = all-appended (λ e. stage_order e.1.stage < 4611686018427387904) (next, waiting_entry c) es h.orders (omega arith);
}

-- ---- the head of the queue
pub queue-length : (first next : ℕ) (es : Entries) → IsQueued first next es → first + length (waiting es) ≡ next
queue-length first next [] q = omega (arith, q)
queue-length first next (e ∷ es) q = elim (cases_Bool (waits e.1.stage)) [
  | inl w ↦ let r = rw w at q in rw w (omega (arith, queue-length (first + 1) next es r.2))
  | inr w ↦ let r = rw w at q in rw w (queue-length first next es r.1)
]

-- the first copy that waits, of which P holds with the place
pub queue-head : (first next : ℕ) (es : Entries) → IsQueued first next es → first < next → (x : Entry) × (at_place first es ≡ Some x) × (waits x.stage ≡ true) × (x.here ≡ false)
queue-head first next [] q lt = absurd (omega (arith, q))
queue-head first next (e ∷ es) q lt = elim (cases_Bool (waits e.1.stage)) [
  | inl w ↦ let r = rw w at q in (e.1, rw (is_at-here first e.0 r.0) refl, w, r.1)
  | inr w ↦ let r = rw w at q in
      let apart : e.0 ≢ first = omega (arith, r.0) in
      let h = queue-head first next es r.1 lt in (h.0, rw (is_at-apart first e.0 apart) h.1, h.2, h.3)
]

-- where the first that waits is not left out
pub head-sent : (now limit id first next : ℕ) (x : Entry) (es : Entries) → IsQueued first next es → at_place first es ≡ Some x → waits x.stage ≡ true → is_sendable now limit x.delivery ≡ true
    → (without_left_out now limit es ≡ es) × (first_waiting now limit es ≡ Some x.delivery) × (after_send now limit id es ≡ write_at (as_published id) first es)
head-sent now limit id first next x [] q at w g = let bad : None ≡ Some x = at in (cc)
head-sent now limit id first next x (e ∷ es) q at w g = elim (cases_Bool (waits e.1.stage)) [
  | inl v ↦ let r = rw v at q in
      let same : e.1 ≡ x = at-head first x e es at r.0 in
      let s : is_sendable now limit e.1.delivery ≡ true = ap (λ (y : Entry). is_sendable now limit y.delivery) same ∙ g in
      (rw (v, s) refl, rw (v, s) (ap (λ (y : Entry). Some y.delivery) same), rw (v, s, is_at-here first e.0 r.0) refl)
  | inr v ↦ let r = rw v at q in
      let apart : e.0 ≢ first = omega (arith, r.0) in
      let t = head-sent now limit id first next x es r.1 (at-tail first x e es at apart) w g in
      (rw v (ap (λ (f : Entries). e ∷ f) t.0), rw v t.1, rw (v, is_at-apart first e.0 apart) (ap (λ (f : Entries). e ∷ f) t.2))
]

-- where it is
pub head-left : (now limit first next : ℕ) (x : Entry) (es : Entries) → IsQueued first next es → at_place first es ≡ Some x → waits x.stage ≡ true → is_sendable now limit x.delivery ≡ false
    → (without_left_out now limit es ≡ without_left_out now limit (remove_entry (is_at (nat_cmp first)) es)) × IsQueued (first + 1) next (remove_entry (is_at (nat_cmp first)) es)
head-left now limit first next x [] q at w g = let bad : None ≡ Some x = at in (cc)
head-left now limit first next x (e ∷ es) q at w g = elim (cases_Bool (waits e.1.stage)) [
  | inl v ↦ let r = rw v at q in
      let same : e.1 ≡ x = at-head first x e es at r.0 in
      let s : is_sendable now limit e.1.delivery ≡ false = ap (λ (y : Entry). is_sendable now limit y.delivery) same ∙ g in
      (rw (v, s, is_at-here first e.0 r.0) refl, rw (is_at-here first e.0 r.0) r.2)
  | inr v ↦ let r = rw v at q in
      let apart : e.0 ≢ first = omega (arith, r.0) in
      let t = head-left now limit first next x es r.1 (at-tail first x e es at apart) w g in
      (rw (is_at-apart first e.0 apart) (rw v (ap (λ (f : Entries). e ∷ f) t.0)), rw (is_at-apart first e.0 apart) (rw v (omega (arith, r.0), t.1)))
]

pub none-waits : (now limit id first : ℕ) (es : Entries) → IsQueued first first es → (without_left_out now limit es ≡ es) × (first_waiting now limit es ≡ None) × (after_send now limit id es ≡ es)
none-waits now limit id first [] q = (refl, refl, refl)
none-waits now limit id first (e ∷ es) q = elim (cases_Bool (waits e.1.stage)) [
  | inl v ↦ let r = rw v at q in absurd (omega (arith, queue-length (first + 1) first es r.2))
  | inr v ↦ let r = rw v at q in let t = none-waits now limit id first es r.1 in
      (rw v (ap (λ (f : Entries). e ∷ f) t.0), rw v t.1, rw v (ap (λ (f : Entries). e ∷ f) t.2))
]

-- leaving out first changes neither what is sent nor what is left
pub left-same : (now limit id : ℕ) (es : Entries) → (first_waiting now limit (without_left_out now limit es) ≡ first_waiting now limit es) × (after_send now limit id (without_left_out now limit es) ≡ after_send now limit id es)
left-same now limit id [] = (refl, refl)
left-same now limit id (e ∷ es) = elim (cases_Bool (waits e.1.stage)) [
  | inl v ↦ elim (cases_Bool (is_sendable now limit e.1.delivery)) [
    | inl g ↦ (rw (v, g, v, g) refl, rw (v, g, v, g) refl)
    | inr g ↦ let t = left-same now limit id es in (rw (v, g) t.0, rw (v, g) t.1)
  ]
  | inr v ↦ let t = left-same now limit id es in (rw (v, v) t.0, rw (v, v) (ap (λ (f : Entries). e ∷ f) t.1))
]

pub find-left : (now limit k : ℕ) (es : Entries) → find_id k (without_left_out now limit es) ≡ find_id k es
find-left now limit k [] = refl
find-left now limit k (e ∷ es) = elim (cases_Bool (waits e.1.stage)) [
  | inl v ↦ elim (cases_Bool (is_sendable now limit e.1.delivery)) [
    | inl g ↦ rw (v, g) refl
    | inr g ↦ rw (v, g, waits-has k e.1.stage v) (find-left now limit k es)
  ]
  | inr v ↦ rw v (ap (λ (o : Option Entry). cond (has_id k e.1) (Some e.1) o) (find-left now limit k es))
]

pub least-left : (now limit id : ℕ) (es : Entries) → IsLeastFree es id → IsLeastFree (without_left_out now limit es) id
least-left now limit id es h = record {
  first = h.first;
  last = h.last;
  free = find-left now limit id es ∙ h.free;
  least = λ k a b. rw (find-left now limit k es) (h.least k a b);
}

-- the head of the queue under an identifier
pub queued-sent : (id first next : ℕ) (es : Entries) → IsQueued first next es → first < next → IsQueued (first + 1) next (write_at (as_published id) first es)
queued-sent id first next [] q lt = absurd (omega (arith, q))
queued-sent id first next (e ∷ es) q lt = elim (cases_Bool (waits e.1.stage)) [
  | inl v ↦ let r = rw v at q in rw (is_at-here first e.0 r.0) (omega (arith, r.0), r.2)
  | inr v ↦ let r = rw v at q in
      let apart : e.0 ≢ first = omega (arith, r.0) in
      rw (is_at-apart first e.0 apart) (rw v (omega (arith, r.0), queued-sent id first next es r.1 lt))
]

pub left-shorter : (now limit : ℕ) (es : Entries) → length (waiting (without_left_out now limit es)) ≤ length (waiting es)
left-shorter now limit [] = omega arith
left-shorter now limit (e ∷ es) = elim (cases_Bool (waits e.1.stage)) [
  | inl v ↦ elim (cases_Bool (is_sendable now limit e.1.delivery)) [
    | inl g ↦ rw (v, g, v) (omega arith)
    | inr g ↦ rw (v, g) (omega (arith, left-shorter now limit es))
  ]
  | inr v ↦ rw (v, v) (left-shorter now limit es)
]

-- ---- what `skip` needs
pub same-some : (o : Option Entry) (x y : Entry) → o ≡ Some x → o ≡ Some y → x ≡ y
same-some o x y a b = let s : Some x ≡ Some y = sym a ∙ b in cc

pub skip-waits : (place next : ℕ) (es : Entries) → IsQueued place next es → place < next → IsSomeAnd (at_place place es) (λ x. waits x.stage ≡ true)
skip-waits place next es q lt = let h = queue-head place next es q lt in rw (h.1) (h.2)

pub skip-sent : (now limit place next : ℕ) (y : Entry) (es : Entries) → IsQueued place next es → place < next → at_place place es ≡ Some y → is_sendable now limit y.delivery ≡ true → (without_left_out now limit es ≡ es) × IsSome (first_waiting now limit es)
skip-sent now limit place next y es q lt at g =
    let h = queue-head place next es q lt in
    let same : y ≡ h.0 = same-some (at_place place es) y h.0 at h.1 in
    let t = head-sent now limit 0 place next h.0 es q h.1 h.2 (ap (λ (z : Entry). is_sendable now limit z.delivery) (sym same) ∙ g) in
    (t.0, rw (t.1) refl)

pub skip-left : (now limit place next : ℕ) (y : Entry) (es : Entries) → IsQueued place next es → place < next → at_place place es ≡ Some y → is_sendable now limit y.delivery ≡ false → (without_left_out now limit (remove_entry (is_at (nat_cmp place)) es) ≡ without_left_out now limit es) × IsQueued (place + 1) next (remove_entry (is_at (nat_cmp place)) es)
skip-left now limit place next y es q lt at g =
    let h = queue-head place next es q lt in
    let same : y ≡ h.0 = same-some (at_place place es) y h.0 at h.1 in
    let t = head-left now limit place next h.0 es q h.1 h.2 (ap (λ (z : Entry). is_sendable now limit z.delivery) (sym same) ∙ g) in
    (sym t.0, t.1)

pub skip-end : (now limit id place next : ℕ) (es : Entries) → IsQueued place next es → next ≤ place → (without_left_out now limit es ≡ es) × (first_waiting now limit es ≡ None) × (after_send now limit id es ≡ es)
skip-end now limit id place next es q le =
    let e : next ≡ place = omega (arith, queue-length place next es q) in none-waits now limit id place es (rw e at q)

pub skip-none : (place next : ℕ) (es : Entries) → IsQueued place next es → place < next → at_place place es ≡ None → ⊥
skip-none place next es q lt at = let h = queue-head place next es q lt in let bad : Some h.0 ≡ None = sym h.1 ∙ at in (cc)

-- ---- what `send_first` leaves
pub none-first : (now limit id first next : ℕ) (es cs : Entries) → cs ≡ without_left_out now limit es → IsQueued first next cs → next ≤ first → (first_waiting now limit es ≡ None) × (cs ≡ after_send now limit id es)
none-first now limit id first next es cs is q le =
    let t = skip-end now limit id first next cs q le in
    let s = left-same now limit id es in
    (sym s.0 ∙ ap (first_waiting now limit) (sym is) ∙ t.1, sym t.2 ∙ ap (after_send now limit id) is ∙ s.1)

pub some-first : (now limit id first next : ℕ) (es cs : Entries) → cs ≡ without_left_out now limit es → IsQueued first next cs → first < next → IsSome (first_waiting now limit cs) → without_left_out now limit cs ≡ cs
    → (y : Entry) × (at_place first cs ≡ Some y) × (first_waiting now limit es ≡ Some y.delivery) × (write_at (as_published id) first cs ≡ after_send now limit id es)
some-first now limit id first next es cs is q lt some stays =
    let s = left-same now limit id es in
    let h = queue-head first next cs q lt in
    elim (cases_Bool (is_sendable now limit h.0.delivery)) [
      | inl g ↦
          let t = head-sent now limit id first next h.0 cs q h.1 h.2 g in
          (h.0, h.1, sym s.0 ∙ ap (first_waiting now limit) (sym is) ∙ t.1, sym t.2 ∙ ap (after_send now limit id) is ∙ s.1)
      | inr g ↦ absurd (omega (arith, queue-length first next cs q, queue-length (first + 1) next (remove_entry (is_at (nat_cmp first)) cs) (head-left now limit first next h.0 cs q h.1 h.2 g).1, left-shorter now limit (remove_entry (is_at (nat_cmp first)) cs), ap (λ (t : Entries). length (waiting t)) (sym stays ∙ (head-left now limit first next h.0 cs q h.1 h.2 g).0)))
    ]

pub first-left : (now limit id first next : ℕ) (es cs ns : Entries) → cs ≡ without_left_out now limit es → IsQueued first next cs → first < next → IsSome (first_waiting now limit cs) → without_left_out now limit cs ≡ cs → ns ≡ write_at (as_published id) first cs → ns ≡ after_send now limit id es
first-left now limit id first next es cs ns is q lt some stays written = written ∙ (some-first now limit id first next es cs is q lt some stays).3

pub first-sent : (now limit id first next : ℕ) (es cs ns : Entries) → cs ≡ without_left_out now limit es → IsQueued first next cs → first < next → IsSome (first_waiting now limit cs) → without_left_out now limit cs ≡ cs → ns ≡ write_at (as_published id) first cs
    → IsSomeAnd (at_place first ns) (λ x. (stage_id x.stage ≡ id) × (first_waiting now limit es ≡ Some x.delivery))
first-sent now limit id first next es cs ns is q lt some stays written =
    let n = some-first now limit id first next es cs is q lt some stays in
    some-and (at_place first ns) (as_published id n.0) (λ x. (stage_id x.stage ≡ id) × (first_waiting now limit es ≡ Some x.delivery)) (rw written (at-written (as_published id) first n.0 cs n.1)) (refl, n.2)

-- ---- what sending the first leaves
all-send : (Q : ℕ × Entry → Type 0) (now limit id : ℕ) → ((e : ℕ × Entry) → Q e → Q (e.0, as_published id e.1)) → (es : Entries) → AllByRecursion Q es → AllByRecursion Q (after_send now limit id es)
all-send Q now limit id keeps [] h = tt
all-send Q now limit id keeps (e ∷ es) h = elim (cases_Bool (waits e.1.stage)) [
  | inl v ↦ elim (cases_Bool (is_sendable now limit e.1.delivery)) [ inl g ↦ rw (v, g) (keeps e h.0, h.1) | inr g ↦ rw (v, g) (all-send Q now limit id keeps es h.1) ]
  | inr v ↦ rw v (h.0, all-send Q now limit id keeps es h.1)
]

flight-send : (now limit id first next : ℕ) (es : Entries) → IsQueued first next es → in_flight (after_send now limit id es) ≡ in_flight es + cond (is_some (first_waiting now limit es)) 1 0
flight-send now limit id first next [] q = refl
flight-send now limit id first next (e ∷ es) q = elim (cases_Bool (waits e.1.stage)) [
  | inl v ↦ let r = rw v at q in elim (cases_Bool (is_sendable now limit e.1.delivery)) [
    | inl g ↦ rw (v, g, r.1) (omega arith)
    | inr g ↦ rw (v, g, r.1) (omega (arith, flight-send now limit id (first + 1) next es r.2))
  ]
  | inr v ↦ let r = rw v at q in rw v (omega (arith, flight-send now limit id first next es r.1))
]

counted-send : (now limit id first first' flight flight' next from : ℕ) (es : Entries) → IsCounted es first flight next from → flight' ≡ flight + cond (is_some (first_waiting now limit es)) 1 0 → IsQueued first' next (after_send now limit id es) → IsCounted (after_send now limit id es) first' flight' next from
counted-send now limit id first first' flight flight' next from es h is q = record {
  flight_is = is ∙ ap (λ (n : ℕ). n + cond (is_some (first_waiting now limit es)) 1 0) h.flight_is ∙ sym (flight-send now limit id first next es h.queued);
  below = all-send (λ e. e.0 < next) now limit id (λ e h. h) es h.below;
  queued = q;
  start = h.start;
  owed = all-send (λ e. is_owed e.1 ≡ true → from ≤ e.0) now limit id (λ e h o. absurd (false≢true o)) es h.owed;
  answered = all-send (λ e. e.1.delivery.qos ≢ AtMostOnce) now limit id (λ e h. h) es h.answered;
  orders = all-send (λ e. stage_order e.1.stage < 4611686018427387904) now limit id (λ e h. omega arith) es h.orders;
}

pub counted-sent : (now limit id first place flight next from : ℕ) (d : Delivery) (es ns : Entries) → IsCounted es first flight next from → first_waiting now limit es ≡ Some d → ns ≡ after_send now limit id es → IsQueued (place + 1) next ns → IsCounted ns (place + 1) (flight + 1) next from
counted-sent now limit id first place flight next from d es ns h some is q = rw is (counted-send now limit id first (place + 1) flight (flight + 1) next from es h (rw some refl) (rw is at q))

pub counted-unsent : (now limit id first flight next from : ℕ) (es ns : Entries) → IsCounted es first flight next from → first_waiting now limit es ≡ None → ns ≡ after_send now limit id es → IsQueued next next ns → IsCounted ns next flight next from
counted-unsent now limit id first flight next from es ns h none is q = rw is (counted-send now limit id first next flight flight next from es h (rw none (omega arith)) (rw is at q))

-- under which identifier does not matter, where none is sent
pub nothing-sent : (now limit id : ℕ) (es : Entries) → first_waiting now limit es ≡ None → after_send now limit id es ≡ after_send now limit 0 es
nothing-sent now limit id [] h = refl
nothing-sent now limit id (e ∷ es) h = elim (cases_Bool (waits e.1.stage)) [
  | inl v ↦ elim (cases_Bool (is_sendable now limit e.1.delivery)) [
    | inl g ↦ (let bad : Some e.1.delivery ≡ None = rw (v, g) at h in cc)
    | inr g ↦ rw (v, g) (nothing-sent now limit id es (rw (v, g) at h))
  ]
  | inr v ↦ rw v (ap (λ (f : Entries). e ∷ f) (nothing-sent now limit id es (rw v at h)))
]

pub sent-here : (o : Option Entry) (here : Bool) → IsSomeAnd o (λ x. x.here ≡ here) → (x : Entry) × (o ≡ Some x) × (x.here ≡ here)
sent-here None here h = absurd h
sent-here (Some x) here h = (x, refl, h)
