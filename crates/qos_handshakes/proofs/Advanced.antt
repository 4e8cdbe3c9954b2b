-- What `advance` chooses, and what it leaves.
use Rattle.std.proofs.Common.{◌≡◌, ℕ, ◌+◌, ◌<◌, ◌≤◌, true, false, not, cond, List, [], ◌∷◌, length, Option, Some, None, refl, sym, ◌∙◌, ap, arith, inl, inr}
use Rattle.std.specs.List.{AllByRecursion}
use Rattle.std.specs.BTreeMap.{is_at}
use Rattle.std.specs.Map.{keys_of}
use Rattle.std.specs.Ordering.{nat_cmp}
use Rattle.std.specs.declared.cmp.Ordering.TheVariants.{Less}
use Rattle.std.proofs.lemmas.Cmp.{ranked}
use Rattle.std.proofs.lemmas.Map.Keys.{sorted_head, sorted_tail}
use Rattle.std.proofs.lemmas.Bool.{leb-true, cases_Bool, and_parts, both_ways, false≢true}
use Rattle.std.specs.Prelude.{◌≢◌, IsSomeAnd, is_some}
use Rattle.mqtt_fields.specs.declared.options.Qos.TheVariants.{AtMostOnce}
use Rattle.mqtt_message.specs.declared.delivery.Delivery.{Delivery}
use Rattle.mqtt_message.specs.Messages.{is_alive}
use Rattle.qos_handshakes.specs.Length.{length_of}
use Rattle.qos_handshakes.specs.declared.copies.Entry.{Entry}
use Rattle.qos_handshakes.specs.Entries.{Entries, Held, HasRange, find_id, write_at, at_place, as_here, HasRoom, NoneFree, IsLeastFree}
use Rattle.qos_handshakes.specs.Outbox.{Outbox, Sent, CanBeSent, stage_id, stage_order, waiting, resent, is_sendable, waits, in_flight, is_owed, is_published, fits, first_owed, after_resend, first_waiting, after_send, without_large, AreOwedFrom, AreOwedWithin, AreAnswered, IsFirstOwed, IsQueued, IsCounted, NextStep, ChoosesAt}
use Rattle.qos_handshakes.proofs.Indexed.{owed-id, some-and, at-written}
use Rattle.qos_handshakes.proofs.EntryLaws.{none-head, none-tail, none-cons, waits-owed, NoneOwed, not-true}
use Rattle.qos_handshakes.proofs.Counted.{nothing-sent, queue-length, skip-end}
use Rattle.qos_handshakes.proofs.Owed.{AreSorted, none-within}

-- ---- what is owed stands before what waits
after-waiting : (k next : ℕ) (es : Entries) → AreSorted es → AllByRecursion (λ q. nat_cmp k q ≡ Less) (keys_of es) → IsQueued (k + 1) next es → NoneOwed es
after-waiting k next [] sorted below q = tt
after-waiting k next (e ∷ es) sorted below q = elim (cases_Bool (waits e.1.stage)) [
  | inl w ↦ let r = rw w at q in
      (waits-owed e.1 w, after-waiting (k + 1) next es (sorted_tail nat_cmp e.0 (keys_of es) sorted) (rw r.0 at (sorted_head nat_cmp e.0 (keys_of es) sorted)) r.2)
  | inr w ↦ let r = rw w at q in absurd (let lt : k < e.0 = ranked k e.0 Less (sym below.0) in let le = r.0 in omega (arith, lt, le))
]

queued-owed : (from first next : ℕ) (es : Entries) → AreSorted es → IsQueued first next es → AreOwedFrom from es → AreOwedWithin from first es
queued-owed from first next [] sorted q h = tt
queued-owed from first next (e ∷ es) sorted q h = elim (cases_Bool (waits e.1.stage)) [
  | inl w ↦ let r = rw w at q in (
    λ o. absurd (both_ways (is_owed e.1) (waits-owed e.1 w) o),
    none-within from first es (after-waiting first next es (sorted_tail nat_cmp e.0 (keys_of es) sorted) (rw r.0 at (sorted_head nat_cmp e.0 (keys_of es) sorted)) r.2),
  )
  | inr w ↦ let r = rw w at q in (λ o. (h.0 o, r.0), queued-owed from first next es (sorted_tail nat_cmp e.0 (keys_of es) sorted) r.1 h.1)
]

pub counted-within : (es ns : Entries) (first flight next from : ℕ) → IsCounted es first flight next from → ns ≡ es → AreSorted ns → AreOwedWithin from first ns
counted-within es ns first flight next from h is sorted = rw is (queued-owed from first next es (rw is at sorted) h.queued h.owed)

-- ---- the first resend owed that fits is sent, and those before it end
owed-here : (x : Entry) → is_owed x ≡ true → x.here ≡ false
owed-here x o = not-true x.here (and_parts (is_published x.stage) (not x.here) o).1

pub all-resend : (Q : ℕ × Entry → Type 0) (now limit : ℕ) → ((e : ℕ × Entry) → Q e → Q (e.0, as_here e.1)) → (es : Entries) → AllByRecursion Q es → AllByRecursion Q (after_resend now limit es)
all-resend Q now limit keeps [] h = tt
all-resend Q now limit keeps (e ∷ es) h = elim (cases_Bool (is_owed e.1)) [
  | inl o ↦ elim (cases_Bool (fits now limit e.1.delivery)) [ inl g ↦ rw (o, g) (keeps e h.0, h.1) | inr g ↦ rw (o, g) (all-resend Q now limit keeps es h.1) ]
  | inr o ↦ rw o (h.0, all-resend Q now limit keeps es h.1)
]

flight-resend : (now limit : ℕ) (es : Entries) → in_flight (after_resend now limit es) ≡ in_flight es + cond (is_some (first_owed now limit es)) 1 0
flight-resend now limit [] = refl
flight-resend now limit (e ∷ es) = elim (cases_Bool (is_owed e.1)) [
  | inl o ↦ elim (cases_Bool (fits now limit e.1.delivery)) [
    | inl g ↦ rw (o, g, owed-here e.1 o) (omega arith)
    | inr g ↦ rw (o, g, owed-here e.1 o) (omega (arith, flight-resend now limit es))
  ]
  | inr o ↦ rw o (omega (arith, flight-resend now limit es))
]

queued-resend : (now limit first next : ℕ) (es : Entries) → IsQueued first next es → IsQueued first next (after_resend now limit es)
queued-resend now limit first next [] q = q
queued-resend now limit first next (e ∷ es) q = elim (cases_Bool (waits e.1.stage)) [
  | inl w ↦ let r = rw w at q in rw (waits-owed e.1 w) (rw w (r.0, r.1, queued-resend now limit (first + 1) next es r.2))
  | inr w ↦ let r = rw w at q in elim (cases_Bool (is_owed e.1)) [
    | inl o ↦ elim (cases_Bool (fits now limit e.1.delivery)) [ inl g ↦ rw (o, g) (rw w (r.0, r.1)) | inr g ↦ rw (o, g) (queued-resend now limit first next es r.1) ]
    | inr o ↦ rw o (rw w (r.0, queued-resend now limit first next es r.1))
  ]
]

-- where none fits, none is left
pub none-resend : (now limit : ℕ) (es : Entries) → first_owed now limit es ≡ None → NoneOwed (after_resend now limit es)
none-resend now limit [] h = tt
none-resend now limit (e ∷ es) h = elim (cases_Bool (is_owed e.1)) [
  | inl o ↦ elim (cases_Bool (fits now limit e.1.delivery)) [
    | inl g ↦ (let bad : Some (resent e.1) ≡ None = rw (o, g) at h in cc)
    | inr g ↦ rw (o, g) (none-resend now limit es (rw (o, g) at h))
  ]
  | inr o ↦
      let left : after_resend now limit (e ∷ es) ≡ e ∷ after_resend now limit es = rw o refl in
      rw left (o, none-resend now limit es (rw o at h))
]

free-resend : (now limit id : ℕ) (es : Entries) → find_id id es ≡ None → find_id id (after_resend now limit es) ≡ None
free-resend now limit id [] h = refl
free-resend now limit id (e ∷ es) h = elim (cases_Bool (is_owed e.1)) [
  | inl o ↦ elim (cases_Bool (fits now limit e.1.delivery)) [
    | inl g ↦ rw (o, g) (none-cons id (e.0, as_here e.1) es (none-head id e es h) (none-tail id e es h))
    | inr g ↦ rw (o, g) (free-resend now limit id es (none-tail id e es h))
  ]
  | inr o ↦ rw o (none-cons id e (after_resend now limit es) (none-head id e es h) (free-resend now limit id es (none-tail id e es h)))
]

pub room-resend : (now limit : ℕ) (h k : Held) → HasRoom h → k ≡ record h { entries = after_resend now limit h.entries } → HasRoom k
room-resend now limit h k (inl room) is = rw is (inl room)
room-resend now limit h k (inr room) is = rw is (inr (room.0, room.1, room.2, free-resend now limit room.0 h.entries room.3))

counted-resend : (now limit : ℕ) (es : Entries) (first flight flight' next from place : ℕ) → IsCounted es first flight next from → flight' ≡ flight + cond (is_some (first_owed now limit es)) 1 0 → AreOwedFrom place (after_resend now limit es) → IsCounted (after_resend now limit es) first flight' next place
counted-resend now limit es first flight flight' next from place h is owed = record {
  flight_is = is ∙ ap (λ (n : ℕ). n + cond (is_some (first_owed now limit es)) 1 0) h.flight_is ∙ sym (flight-resend now limit es);
  below = all-resend (λ e. e.0 < next) now limit (λ e h. h) es h.below;
  queued = queued-resend now limit first next es h.queued;
  start = h.start;
  owed = owed;
  answered = all-resend (λ e. e.1.delivery.qos ≢ AtMostOnce) now limit (λ e h. h) es h.answered;
  orders = all-resend (λ e. stage_order e.1.stage < 4611686018427387904) now limit (λ e h. h) es h.orders;
}

pub counted-again : (now limit : ℕ) (s : Sent) (es ns : Entries) (first flight next from place : ℕ) → IsCounted es first flight next from → first_owed now limit es ≡ Some s → ns ≡ after_resend now limit es → AreOwedFrom place ns → IsCounted ns first (flight + 1) next place
counted-again now limit s es ns first flight next from place h some is owed = rw is (counted-resend now limit es first flight (flight + 1) next from place h (rw some refl) (rw is at owed))

-- from any place on, where none is left
none-from : (k : ℕ) (es : Entries) → NoneOwed es → AreOwedFrom k es
none-from k [] h = tt
none-from k (e ∷ es) h = (λ o. absurd (both_ways (is_owed e.1) h.0 o), none-from k es h.1)

pub counted-none : (now limit : ℕ) (es ns : Entries) (first flight next from place : ℕ) → IsCounted es first flight next from → first_owed now limit es ≡ None → ns ≡ after_resend now limit es → IsCounted ns first flight next place
counted-none now limit es ns first flight next from place h none is = rw is (counted-resend now limit es first flight flight next from place h (rw none (omega arith)) (none-from place (after_resend now limit es) (none-resend now limit es none)))

from-here : (place from : ℕ) (es : Entries) → AreOwedFrom from es → AreOwedFrom from (write_at as_here place es)
from-here place from [] h = tt
from-here place from (e ∷ es) h = elim (cases_Bool (is_at (nat_cmp place) e.0)) [
  | inl t ↦ rw t (λ o. absurd (false≢true (sym (owed-here (as_here e.1) o))), h.1)
  | inr f ↦ rw f (h.0, from-here place from es h.1)
]

pub all-from : (from until : ℕ) (es : Entries) → AreOwedWithin from until es → AreOwedFrom from es
all-from from until [] h = tt
all-from from until (e ∷ es) h = (λ o. (h.0 o).0, all-from from until es h.1)

large-same : (now limit : ℕ) (es : Entries) → (first_owed now limit (without_large now limit es) ≡ first_owed now limit es) × (after_resend now limit (without_large now limit es) ≡ after_resend now limit es)
large-same now limit [] = (refl, refl)
large-same now limit (e ∷ es) = elim (cases_Bool (is_owed e.1)) [
  | inl o ↦ elim (cases_Bool (fits now limit e.1.delivery)) [
    | inl g ↦ (rw (o, g, o, g) refl, rw (o, g, o, g) refl)
    | inr g ↦ let t = large-same now limit es in (rw (o, g) t.0, rw (o, g) t.1)
  ]
  | inr o ↦ let t = large-same now limit es in (rw (o, o) t.0, rw (o, o) (ap (λ (f : Entries). e ∷ f) t.1))
]

-- ---- none is owed
nothing-owed : (now limit : ℕ) (es : Entries) → NoneOwed es → (first_owed now limit es ≡ None) × (after_resend now limit es ≡ es)
nothing-owed now limit [] h = (refl, refl)
nothing-owed now limit (e ∷ es) h = let t = nothing-owed now limit es h.1 in (rw h.0 t.0, rw h.0 (ap (λ (f : Entries). e ∷ f) t.1))

pub none-left : (now limit : ℕ) (es cs : Entries) → cs ≡ without_large now limit es → NoneOwed cs → (first_owed now limit es ≡ None) × (cs ≡ after_resend now limit es)
none-left now limit es cs is h =
    let s = large-same now limit es in let t = nothing-owed now limit cs h in
    (sym s.0 ∙ ap (first_owed now limit) (sym is) ∙ t.0, sym t.1 ∙ ap (after_resend now limit) is ∙ s.1)

-- what `resend` leaves
pub again-left : (now limit place : ℕ) (es cs ns : Entries) → cs ≡ without_large now limit es → IsFirstOwed now limit place cs → ns ≡ write_at as_here place cs → ns ≡ after_resend now limit es
again-left now limit place es cs ns is f written = written ∙ sym f.left ∙ ap (after_resend now limit) is ∙ (large-same now limit es).1

pub again-sent : (now limit place : ℕ) (es cs ns : Entries) → cs ≡ without_large now limit es → IsFirstOwed now limit place cs → ns ≡ write_at as_here place cs
    → IsSomeAnd (at_place place ns) (λ x. first_owed now limit es ≡ Some (resent x))
again-sent now limit place es cs ns is f written =
    some-and (at_place place ns) (as_here f.entry) (λ x. first_owed now limit es ≡ Some (resent x)) (rw written (at-written as_here place f.entry cs f.at))
    (sym (large-same now limit es).0 ∙ ap (first_owed now limit) (sym is) ∙ f.sent)

pub again-owed : (place until : ℕ) (cs ns : Entries) → AreOwedWithin place until cs → ns ≡ write_at as_here place cs → AreOwedFrom place ns
again-owed place until cs ns h written = rw written (from-here place place cs (all-from place until cs h))

-- ---- what `advance` chooses
pub there-is : (o : Option Entry) (P : Entry → Type 0) → IsSomeAnd o P → (x : Entry) × (o ≡ Some x) × P x
there-is None P h = absurd h
there-is (Some x) P h = (x, refl, h)

pub chooses-resend : (now limit place : ℕ) (old : Outbox) (ns : Entries) → in_flight old.copies < old.maximum → ns ≡ after_resend now limit old.copies → IsSomeAnd (at_place place ns) (λ x. first_owed now limit old.copies ≡ Some (resent x)) → ChoosesAt now limit old place true (record old { copies = ns })
chooses-resend now limit place old ns quota left sent =
    let its = there-is (at_place place ns) (λ x. first_owed now limit old.copies ≡ Some (resent x)) sent in
    (its.0, its.1, inl (record { quota = quota; sent = its.2; left = ap (λ (es : Entries). record old { copies = es }) left }))

pub chooses-none_free : (now limit : ℕ) (old : Outbox) (cs : Entries) → in_flight old.copies < old.maximum → first_owed now limit old.copies ≡ None → cs ≡ after_resend now limit old.copies → NoneFree cs → NextStep now limit old None (record old { copies = cs })
chooses-none_free now limit old cs quota none is free =
    record { step = inr (inl (quota, none, rw (← is) free, ap (λ (es : Entries). record old { copies = es }) is)) }

-- an identifier is free, or none waits
pub one-free : (es : Entries) (id : ℕ) → IsLeastFree es id → NoneFree es → waiting es ≡ []
one-free es id least none = let some = none id least.first least.last in absurd (false≢true (rw least.free at some))

pub chooses-nothing : (now limit id : ℕ) (old : Outbox) (cs ds : Entries) → in_flight old.copies < old.maximum → first_owed now limit old.copies ≡ None → cs ≡ after_resend now limit old.copies → first_waiting now limit cs ≡ None → ds ≡ after_send now limit id cs
    → (NoneFree cs → waiting cs ≡ []) → NextStep now limit old None (record old { copies = ds })
chooses-nothing now limit id old cs ds quota none is nothing left free =
    record { step = inr (inr (quota, none, rw (← is) nothing, ap (λ (es : Entries). record old { copies = es }) (left ∙ nothing-sent now limit id cs nothing ∙ ap (after_send now limit 0) is), rw (← is) free)) }

pub chooses-first : (now limit id place : ℕ) (old : Outbox) (cs ns : Entries) → in_flight old.copies < old.maximum → first_owed now limit old.copies ≡ None → cs ≡ after_resend now limit old.copies → IsLeastFree cs id → ns ≡ after_send now limit id cs
    → IsSomeAnd (at_place place ns) (λ x. (stage_id x.stage ≡ id) × (first_waiting now limit cs ≡ Some x.delivery)) → ChoosesAt now limit old place false (record old { copies = ns })
chooses-first now limit id place old cs ns quota none is free left sent =
    let its = there-is (at_place place ns) (λ x. (stage_id x.stage ≡ id) × (first_waiting now limit cs ≡ Some x.delivery)) sent in (
      its.0,
      its.1,
      inr (record {
        quota = quota;
        none_owed = none;
        first = refl;
        number = rw (its.2.0, ← is) free;
        sent = rw (← is) its.2.1;
        left = ap (λ (es : Entries). record old { copies = es }) (left ∙ ap (after_send now limit id) is ∙ ap (λ (i : ℕ). after_send now limit i (after_resend now limit old.copies)) (sym its.2.0));
      }),
    )

-- ---- what is sent has a spelling
owed-can : (now limit : ℕ) (s : Sent) (es : Entries) → first_owed now limit es ≡ Some s → AreAnswered es → AllByRecursion (λ e. HasRange e.1) es → CanBeSent now limit s.id s.copy
owed-can now limit s [] is answered ranges = (cc is)
owed-can now limit s (e ∷ es) is answered ranges = elim (cases_Bool (is_owed e.1)) [
  | inl o ↦ elim (cases_Bool (fits now limit e.1.delivery)) [
    | inl g ↦
        let f : Some (resent e.1) ≡ Some s = rw (o, g) at is in let same : resent e.1 ≡ s = cc in
        let r = ranges.0 (stage_id e.1.stage) (owed-id e.1.stage e.1.here o) in
        rw (← same) (record { least = r.0; most = r.1; asked = answered.0; short = leb-true (length_of now e.1.delivery) limit g })
    | inr g ↦ owed-can now limit s es (rw (o, g) at is) answered.1 ranges.1
  ]
  | inr o ↦ owed-can now limit s es (rw o at is) answered.1 ranges.1
]

pub resend-can : (now limit place : ℕ) (es ns : Entries) → AreAnswered es → AllByRecursion (λ e. HasRange e.1) es → IsSomeAnd (at_place place ns) (λ x. first_owed now limit es ≡ Some (resent x))
    → IsSomeAnd (at_place place ns) (λ x. CanBeSent now limit (stage_id x.stage) x.delivery)
resend-can now limit place es ns answered ranges sent =
    let its = there-is (at_place place ns) (λ x. first_owed now limit es ≡ Some (resent x)) sent in
    some-and (at_place place ns) its.0 (λ x. CanBeSent now limit (stage_id x.stage) x.delivery) its.1 (owed-can now limit (resent its.0) es its.2 answered ranges)

waiting-can : (now limit id : ℕ) (d : Delivery) (es : Entries) → 1 ≤ id → id ≤ 65535 → first_waiting now limit es ≡ Some d → AreAnswered es → CanBeSent now limit id d
waiting-can now limit id d [] least most is answered = (cc is)
waiting-can now limit id d (e ∷ es) least most is answered = elim (cases_Bool (waits e.1.stage)) [
  | inl w ↦ elim (cases_Bool (is_sendable now limit e.1.delivery)) [
    | inl g ↦
        let f : Some e.1.delivery ≡ Some d = rw (w, g) at is in let same : e.1.delivery ≡ d = cc in
        rw (← same) (record { least = least; most = most; asked = answered.0; short = leb-true (length_of now e.1.delivery) limit (and_parts (is_alive e.1.delivery.message now) (fits now limit e.1.delivery) g).1 })
    | inr g ↦ waiting-can now limit id d es least most (rw (w, g) at is) answered.1
  ]
  | inr w ↦ waiting-can now limit id d es least most (rw w at is) answered.1
]

pub send-can : (now limit id place : ℕ) (es ns : Entries) → AreAnswered es → IsLeastFree es id → IsSomeAnd (at_place place ns) (λ x. (stage_id x.stage ≡ id) × (first_waiting now limit es ≡ Some x.delivery))
    → IsSomeAnd (at_place place ns) (λ x. CanBeSent now limit (stage_id x.stage) x.delivery)
send-can now limit id place es ns answered free sent =
    let its = there-is (at_place place ns) (λ x. (stage_id x.stage ≡ id) × (first_waiting now limit es ≡ Some x.delivery)) sent in
    some-and (at_place place ns) its.0 (λ x. CanBeSent now limit (stage_id x.stage) x.delivery) its.1 (rw its.2.0 (waiting-can now limit id its.0.delivery es free.first free.last its.2.1 answered))

-- where nothing waits
nothing-waits : (first next : ℕ) (es : Entries) → IsQueued first next es → next ≤ first → waiting es ≡ []
nothing-waits first next es queued past = no-length (waiting es) (omega (arith, queue-length first next es queued, past))
  where
    no-length : (ds : List Delivery) → length ds ≡ 0 → ds ≡ []
    no-length [] is = refl
    no-length (d ∷ ds) is = absurd (omega (arith, is))

pub chooses-none_waits : (now limit first next : ℕ) (old : Outbox) (cs : Entries) → in_flight old.copies < old.maximum → first_owed now limit old.copies ≡ None → cs ≡ after_resend now limit old.copies → IsQueued first next cs → next ≤ first → NextStep now limit old None (record old { copies = cs })
chooses-none_waits now limit first next old cs quota none is queued past =
    let e = skip-end now limit 0 first next cs queued past in
    chooses-nothing now limit 0 old cs cs quota none is e.1 (sym e.2) (λ _. nothing-waits first next cs queued past)

-- where one waits
pub one-waits : (first next : ℕ) (es : Entries) → IsQueued first next es → first < next → waiting es ≢ []
one-waits first next es queued lt = λ none. omega (arith, queue-length first next es queued, ap (λ (ds : List Delivery). length ds) none, lt)
