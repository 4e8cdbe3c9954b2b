-- A connection sends each exchange again at most once.
use Rattle.std.proofs.Common.{◌≡◌, ℕ, Bool, true, false, List, [], ◌∷◌, ◌++◌, Option, Some, None, refl, inl, inr}
use Rattle.std.specs.List.{AllByRecursion}
use Rattle.std.proofs.lemmas.Bool.{cases_Bool, cases_eq, ne_eqb, both_ways, false≢true}
use Rattle.qos_handshakes.specs.declared.answers.Offer.{Offer}
use Rattle.qos_handshakes.specs.declared.answers.Offer.TheVariants.{Queued, Full, AtEnd}
use Rattle.qos_handshakes.specs.declared.answers.Ack.{Ack}
use Rattle.qos_handshakes.specs.declared.answers.Ack.TheVariants.{Done, Unknown}
use Rattle.qos_handshakes.specs.declared.answers.Rec.{Rec}
use Rattle.qos_handshakes.specs.declared.answers.Rec.TheVariants as rec
use Rattle.qos_handshakes.specs.declared.copies.Entry.{Entry}
use Rattle.mqtt_message.specs.declared.delivery.Delivery.{Delivery}
use Rattle.qos_handshakes.specs.Entries.{Entries, has_id, write_id, as_released}
use Rattle.qos_handshakes.specs.Outbox.{Outbox, Sent, OfferStep, NextStep, EndStep, ReceivedIf, waiting_entry, waits, is_owed, is_published, fits, is_sendable, resent, first_owed, after_resend, after_send, empty_outbox}
use Rattle.qos_handshakes.proofs.EntryLaws.{NoneHas, all-dropped, all-appended, none-head, none-tail}
use Rattle.qos_handshakes.proofs.Indexed.{owed-id}
use Rattle.law_handshakes.specs.Runs as low
use Rattle.law_handshakes.specs.Runs.{offered, acknowledged, completed, received, resumed, listed, asked, lost, Takes}
use Rattle.law_handshakes.specs.Numbers.{AreNumbered}
use Rattle.law_handshakes.proofs.NumberLaws.{numbered-step}
use Rattle.law_handshakes.proofs.OrderLaws.{resent-dup}
use Rattle.law_handshakes.proofs.QuotaLaws.{numbered-later}
use Rattle.law_sessions.specs.Sends.{Mark}
use Rattle.law_sessions.proofs.CallLaws.{Call, call_marks}
use Rattle.law_sessions.proofs.LiftLaws.{marks-then, whole}
use Rattle.law_deliveries.specs.Again.{again_after, AllFirstAgain, KeepsResendsOnce}

-- no resend is owed under the identifier
abbrev IsNotOwed : ℕ → ℕ × Entry → Type 0
IsNotOwed id e = has_id id e.1 ≡ true → is_owed e.1 ≡ false

abbrev NotOwed : ℕ → Entries → Type 0
NotOwed id es = AllByRecursion (IsNotOwed id) es

none-not_owed : (id : ℕ) (es : Entries) → NoneHas id es → NotOwed id es
none-not_owed id [] h = tt
none-not_owed id (e ∷ es) h = (λ has. absurd (both_ways (has_id id e.1) (none-head id e es h) has), none-not_owed id es (none-tail id e es h))

now-here : (x : Entry) → is_owed (record x { here = true }) ≡ false
now-here x = elim (cases_Bool (is_published x.stage)) [ inl t ↦ rw t refl | inr f ↦ rw f refl ]

-- ---- what each call leaves
not-released : (id i order : ℕ) (es : Entries) → NotOwed id es → NotOwed id (write_id (as_released i order) i es)
not-released id i order [] h = tt
not-released id i order (e ∷ es) h = elim (cases_Bool (has_id i e.1)) [
  | inl t ↦ rw t (λ _. refl, h.1)
  | inr f ↦ rw f (h.0, not-released id i order es h.1)
]

not-resent : (id now limit : ℕ) (es : Entries) → NotOwed id es → NotOwed id (after_resend now limit es)
not-resent id now limit [] h = tt
not-resent id now limit (e ∷ es) h = elim (cases_Bool (is_owed e.1)) [
  | inl t ↦ elim (cases_Bool (fits now limit e.1.delivery)) [
    | inl g ↦ rw (t, g) (λ _. now-here e.1, h.1)
    | inr g ↦ rw (t, g) (not-resent id now limit es h.1)
  ]
  | inr f ↦ rw f (λ _. f, not-resent id now limit es h.1)
]

not-sent : (id now limit i : ℕ) (es : Entries) → NotOwed id es → NotOwed id (after_send now limit i es)
not-sent id now limit i [] h = tt
not-sent id now limit i (e ∷ es) h = elim (cases_Bool (waits e.1.stage)) [
  | inl t ↦ elim (cases_Bool (is_sendable now limit e.1.delivery)) [
    | inl g ↦ rw (t, g) (λ _. refl, h.1)
    | inr g ↦ rw (t, g) (not-sent id now limit i es h.1)
  ]
  | inr f ↦ rw f (h.0, not-sent id now limit i es h.1)
]

-- what is sent again isn't owed any more
own-not_owed : (now limit : ℕ) (s : Sent) (es : Entries) → AreNumbered es → first_owed now limit es ≡ Some s → NotOwed s.id (after_resend now limit es)
own-not_owed now limit s [] n is = tt
own-not_owed now limit s (e ∷ es) n is = elim (cases_Bool (is_owed e.1)) [
  | inl t ↦ elim (cases_Bool (fits now limit e.1.delivery)) [
    | inl g ↦
        let k : Some (resent e.1) ≡ Some s = rw (t, g) at is in
        let same : resent e.1 ≡ s = cc in
        let has : has_id s.id e.1 ≡ true = rw (← same) (owed-id e.1.stage e.1.here t) in
        rw (t, g) (λ _. now-here e.1, none-not_owed s.id es (numbered-later s.id e.1.stage es has n.0))
    | inr g ↦ rw (t, g) (own-not_owed now limit s es n.1 (rw (t, g) at is))
  ]
  | inr f ↦ rw f (λ _. f, own-not_owed now limit s es n.1 (rw f at is))
]

-- what is sent again was owed
was-owed : (id now limit : ℕ) (s : Sent) (es : Entries) → s.id ≡ id → first_owed now limit es ≡ Some s → NotOwed id es → ⊥
was-owed id now limit s [] own is h = (cc is)
was-owed id now limit s (e ∷ es) own is h = elim (cases_Bool (is_owed e.1)) [
  | inl t ↦ elim (cases_Bool (fits now limit e.1.delivery)) [
    | inl g ↦
        let k : Some (resent e.1) ≡ Some s = rw (t, g) at is in
        let same : resent e.1 ≡ s = cc in
        let has : has_id id e.1 ≡ true = rw (← own, ← same) (owed-id e.1.stage e.1.here t) in
        both_ways (is_owed e.1) (h.0 has) t
    | inr g ↦ was-owed id now limit s es own (rw (t, g) at is) h.1
  ]
  | inr f ↦ was-owed id now limit s es own (rw f at is) h.1
]

-- ---- the calls
-- where a PUBLISH was sent again under the identifier, no more is owed
abbrev IsSo : ℕ → Bool → Entries → Type 0
IsSo id was es = was ≡ true → NotOwed id es

again_over : ℕ → Bool → List Mark → Bool
again_over id was [] = was
again_over id was (m ∷ ms) = again_over id (again_after id was m) ms

so-offer : (id : ℕ) (was : Bool) (old new : Outbox) (c : Delivery) (a : Offer) → OfferStep old c a new → IsSo id was old.copies → IsSo id was new.copies
so-offer id was old new c Queued s h = λ t. rw s.2 (all-appended (IsNotOwed id) (old.next_place, waiting_entry c) old.copies (h t) (λ _. refl))
so-offer id was old new c Full s h = rw s.1 h
so-offer id was old new c AtEnd s h = rw s.2 h

so-end : (id : ℕ) (was ends : Bool) (old new : Outbox) (i : ℕ) (a : Ack) → EndStep ends old i a new → IsSo id was old.copies → IsSo id was new.copies
so-end id was ends old new i Done s h = λ t. rw s.1 (all-dropped (IsNotOwed id) i old.copies (h t))
so-end id was ends old new i Unknown s h = rw s.1 h

so-received : (id : ℕ) (was : Bool) (o : Option Entry) (old new : Outbox) (i reason : ℕ) (a : Rec) → ReceivedIf o old i reason a new → IsSo id was old.copies → IsSo id was new.copies
so-received id was None old new i reason a s h = rw s.1 h
so-received id was (Some x) old new i reason rec.Release (inl s) h = λ t. rw s.3 (not-released id i old.next_order old.copies (h t))
so-received id was (Some x) old new i reason rec.Release (inr s) h = rw s.1 h
so-received id was (Some x) old new i reason rec.Ended s h = λ t. rw s.2 (all-dropped (IsNotOwed id) i old.copies (h t))
so-received id was (Some x) old new i reason rec.Unknown s h = rw s.2 h
so-received id was (Some x) old new i reason rec.AtEnd s h = rw s.3 h

so-next : (id : ℕ) (was : Bool) (now limit : ℕ) (a : Option Sent) (old new : Outbox) → NextStep now limit old a new → AreNumbered old.copies → IsSo id was old.copies → IsSo id (again_over id was (call_marks (asked now limit a ∷ []))) new.copies
unfolding again_over
so-next id was now limit None old new s n h = λ t. elim s.step [
  | inl u ↦ rw u.1 (h t)
  | inr u ↦ elim u [
    | inl v ↦ rw v.3 (not-resent id now limit old.copies (h t))
    | inr v ↦ rw v.3 (not-sent id now limit 0 (after_resend now limit old.copies) (not-resent id now limit old.copies (h t)))
  ]
]
so-next id was now limit (Some y) old new (inl s) n h = elim (cases_eq y.id id) [
  | inl same ↦ λ _. rw (s.left, ← same) (own-not_owed now limit y old.copies n s.sent)
  | inr ne ↦
      let dup : y.dup ≡ true = resent-dup now limit y old.copies s.sent in
      rw (s.left, dup, ne_eqb y.id id ne) (λ t. not-resent id now limit old.copies (h t))
]
so-next id was now limit (Some y) old new (inr s) n h = rw (s.left, s.first) (λ t. not-sent id now limit y.id (after_resend now limit old.copies) (not-resent id now limit old.copies (h t)))

so-step : (id : ℕ) (was : Bool) (old new : Outbox) (c : Call) → Takes old c new → AreNumbered old.copies → IsSo id was old.copies → IsSo id (again_over id was (call_marks (c ∷ []))) new.copies
unfolding again_over
so-step id was old new (offered d a) s n h = so-offer id was old new d a s h
so-step id was old new (acknowledged i a) s n h = so-end id was _ old new i a s h
so-step id was old new (completed i a) s n h = so-end id was _ old new i a s h
so-step id was old new (received i reason a) s n h = so-received id was _ old new i reason a s h
so-step id was old new (resumed maximum) s n h = λ t. absurd (false≢true t)
so-step id was old new (listed ids) s n h = rw s.1 h
so-step id was old new (asked now limit a) s n h = so-next id was now limit a old new s n h
so-step id was old new lost s n h = λ t. absurd (false≢true t)

once-step : (id : ℕ) (was : Bool) (old new : Outbox) (c : Call) → Takes old c new → IsSo id was old.copies → AllFirstAgain id was (call_marks (c ∷ []))
once-step id was old new (offered d a) s h = tt
once-step id was old new (acknowledged i a) s h = (tt, tt)
once-step id was old new (completed i a) s h = (tt, tt)
once-step id was old new (received i reason a) s h = (tt, tt)
once-step id was old new (resumed maximum) s h = (tt, tt)
once-step id was old new (listed ids) s h = tt
once-step id was old new (asked now limit None) s h = tt
once-step id was old new (asked now limit (Some y)) (inl s) h = (λ dup own. elim (cases_Bool was) [ inl t ↦ absurd (was-owed id now limit y old.copies own s.sent (h t)) | inr f ↦ f ], tt)
once-step id was old new (asked now limit (Some y)) (inr s) h = (λ dup own. absurd (both_ways y.dup s.first dup), tt)
once-step id was old new lost s h = (tt, tt)

-- ---- lists of calls
once-then : (id : ℕ) (was : Bool) (ms ns : List Mark) → AllFirstAgain id was ms → AllFirstAgain id (again_over id was ms) ns → AllFirstAgain id was (ms ++ ns)
unfolding again_over
once-then id was [] ns h k = k
once-then id was (m ∷ ms) ns h k = (h.0, once-then id (again_after id was m) ms ns h.1 k)

once-run : (id : ℕ) (was : Bool) (start : Outbox) (calls : List Call) (end : Outbox) → low.Run start calls end → AreNumbered start.copies → IsSo id was start.copies → AllFirstAgain id was (call_marks calls)
once-run id was start [] end r n h = tt
once-run id was start (c ∷ cs) end r n h =
    let next = again_over id was (call_marks (c ∷ [])) in
    let rest = once-run id next r.0 cs end r.2 (numbered-step start r.0 c r.1 n) (so-step id was start r.0 c r.1 n h) in
    rw (marks-then (c ∷ []) cs) (once-then id was (call_marks (c ∷ [])) (call_marks cs) (once-step id was start r.0 c r.1 h) rest)

pub keeps_resends_once : KeepsResendsOnce
keeps_resends_once = λ client id steps end r.
    let p = whole client steps end r in
    rw (← p.shows.marks) (once-run id false empty_outbox p.calls end.outbox p.runs tt (λ t. absurd (false≢true t)))
