-- Calls release copies at QoS 2 alone, and leave no more waiting than may.
use Rattle.std.proofs.Common.{◌≡◌, ℕ, ◌+◌, ◌<◌, ◌≤◌, Bool, true, false, List, [], ◌∷◌, ◌++◌, length, Option, Some, None, refl, sym, ap, ◌∙◌, arith, inl, inr, length-append}
use Rattle.std.specs.List.{AllByRecursion}
use Rattle.std.proofs.lemmas.Bool.{cases_Bool, false≢true}
use Rattle.mqtt_fields.specs.declared.options.Qos.{Qos}
use Rattle.mqtt_fields.specs.declared.options.Qos.TheVariants.{AtMostOnce, AtLeastOnce, ExactlyOnce}
use Rattle.mqtt_message.specs.declared.delivery.Delivery.{Delivery}
use Rattle.qos_handshakes.specs.declared.answers.Offer.{Offer}
use Rattle.qos_handshakes.specs.declared.answers.Offer.TheVariants.{Queued, Full, AtEnd}
use Rattle.qos_handshakes.specs.declared.answers.Ack.{Ack}
use Rattle.qos_handshakes.specs.declared.answers.Ack.TheVariants.{Done, Unknown}
use Rattle.qos_handshakes.specs.declared.answers.Rec.{Rec}
use Rattle.qos_handshakes.specs.declared.answers.Rec.TheVariants as rec
use Rattle.qos_handshakes.specs.declared.copies.Entry.{Entry}
use Rattle.qos_handshakes.specs.declared.copies.Stage.{Stage}
use Rattle.qos_handshakes.specs.Entries.{Entries, has_id, find_id, drop_id, write_id, as_released}
use Rattle.qos_handshakes.specs.Outbox.{Outbox, Sent, away, waiting, waiting_entry, waits, is_owed, is_sendable, fits, after_resend, after_send, takes_pubrec, NextStep, OfferStep, EndStep, ReceivedIf}
use Rattle.qos_handshakes.proofs.EntryLaws.{all-appended, all-dropped}
use Rattle.law_handshakes.specs.Runs as low
use Rattle.law_handshakes.specs.Runs.{offered, acknowledged, completed, received, resumed, listed, asked, lost}
use Rattle.law_handshakes.proofs.OrderLaws.{waiting-append, waiting-drop_id, waiting-write_id, waiting-after_resend}
use Rattle.session_rows.specs.Reachable.{IsReleasedAtTwo}
use Rattle.law_sessions.proofs.CallLaws.{Call}

abbrev AtTwo : ℕ × Entry → Type 0
AtTwo e = IsReleasedAtTwo e.1

-- copies are released at QoS 2 alone, and no more wait than may
pub record AreReached (es : Entries) : Type 0 where
  pub released : AllByRecursion AtTwo es
  pub waiting : length (waiting es) ≤ 65536

-- ---- released at QoS 2
received-twice : (q : Qos) (s : Stage) → takes_pubrec q s ≡ true → q ≡ ExactlyOnce
received-twice AtMostOnce s h = absurd (false≢true h)
received-twice AtLeastOnce s h = absurd (false≢true h)
received-twice ExactlyOnce s h = refl

two-released : (id order : ℕ) (es : Entries) (x : Entry) → find_id id es ≡ Some x → x.delivery.qos ≡ ExactlyOnce → AllByRecursion AtTwo es → AllByRecursion AtTwo (write_id (as_released id order) id es)
two-released id order [] x f q h = tt
two-released id order (e ∷ es) x f q h = elim (cases_Bool (has_id id e.1)) [
  | inl t ↦
      let found : Some e.1 ≡ Some x = rw t at f in
      let same : e.1 ≡ x = cc in
      rw t ((λ r. ap (λ (y : Entry). y.delivery.qos) same ∙ q), h.1)
  | inr n ↦ rw n (h.0, two-released id order es x (rw n at f) q h.1)
]

two-away : (es : Entries) → AllByRecursion AtTwo es → AllByRecursion AtTwo (away es)
two-away [] h = h
two-away (e ∷ es) h = (h.0, two-away es h.1)

two-resent : (now limit : ℕ) (es : Entries) → AllByRecursion AtTwo es → AllByRecursion AtTwo (after_resend now limit es)
two-resent now limit [] h = h
two-resent now limit (e ∷ es) h = elim (cases_Bool (is_owed e.1)) [
  | inl t ↦ elim (cases_Bool (fits now limit e.1.delivery)) [ inl g ↦ rw (t, g) (h.0, h.1) | inr g ↦ rw (t, g) (two-resent now limit es h.1) ]
  | inr f ↦ rw f (h.0, two-resent now limit es h.1)
]

two-sent : (now limit id : ℕ) (es : Entries) → AllByRecursion AtTwo es → AllByRecursion AtTwo (after_send now limit id es)
two-sent now limit id [] h = h
two-sent now limit id (e ∷ es) h = elim (cases_Bool (waits e.1.stage)) [
  | inl t ↦ elim (cases_Bool (is_sendable now limit e.1.delivery)) [ inl g ↦ rw (t, g) ((λ r. absurd (false≢true r)), h.1) | inr g ↦ rw (t, g) (two-sent now limit id es h.1) ]
  | inr f ↦ rw f (h.0, two-sent now limit id es h.1)
]

-- ---- how many wait
one-more : (place : ℕ) (d : Delivery) (es : Entries) → length (waiting (es ++ (place, waiting_entry d) ∷ [])) ≡ length (waiting es) + 1
one-more place d es = ap (λ (ds : List Delivery). length ds) (waiting-append es ((place, waiting_entry d) ∷ [])) ∙ length-append (waiting es) (d ∷ [])

waiting-away : (es : Entries) → waiting (away es) ≡ waiting es
waiting-away [] = refl
waiting-away (e ∷ es) = elim (cases_Bool (waits e.1.stage)) [ inl t ↦ rw t (ap (λ (ds : List Delivery). e.1.delivery ∷ ds) (waiting-away es)) | inr f ↦ rw f (waiting-away es) ]

fewer-sent : (now limit id : ℕ) (es : Entries) → length (waiting (after_send now limit id es)) ≤ length (waiting es)
fewer-sent now limit id [] = omega arith
fewer-sent now limit id (e ∷ es) = elim (cases_Bool (waits e.1.stage)) [
  | inl t ↦ elim (cases_Bool (is_sendable now limit e.1.delivery)) [
    | inl g ↦ rw (t, g) (omega arith)
    | inr g ↦ rw (t, g) (let le = fewer-sent now limit id es in omega (arith, le))
  ]
  | inr f ↦ rw (f, f) (fewer-sent now limit id es)
]

same-many : (es fs : Entries) → waiting fs ≡ waiting es → length (waiting es) ≤ 65536 → length (waiting fs) ≤ 65536
same-many es fs same h = rw same h

-- ---- both
pub reached-away : (es : Entries) → AreReached es → AreReached (away es)
reached-away es h = record { released = two-away es h.released; waiting = same-many es (away es) (waiting-away es) h.waiting }

reached-pushed : (place : ℕ) (d : Delivery) (es : Entries) → length (waiting es) < 65536 → AreReached es → AreReached (es ++ (place, waiting_entry d) ∷ [])
reached-pushed place d es lt h = record {
  released = all-appended AtTwo (place, waiting_entry d) es h.released (λ r. absurd (false≢true r));
  waiting = (let more = one-more place d es in omega (arith, lt, more));
}

reached-dropped : (id : ℕ) (es : Entries) → AreReached es → AreReached (drop_id id es)
reached-dropped id es h = record { released = all-dropped AtTwo id es h.released; waiting = same-many es (drop_id id es) (waiting-drop_id id es) h.waiting }

reached-released : (id order : ℕ) (es : Entries) (x : Entry) → find_id id es ≡ Some x → x.delivery.qos ≡ ExactlyOnce → AreReached es → AreReached (write_id (as_released id order) id es)
reached-released id order es x f q h = record {
  released = two-released id order es x f q h.released;
  waiting = same-many es (write_id (as_released id order) id es) (waiting-write_id (as_released id order) (λ y. refl) id es) h.waiting;
}

reached-resent : (now limit : ℕ) (es : Entries) → AreReached es → AreReached (after_resend now limit es)
reached-resent now limit es h = record { released = two-resent now limit es h.released; waiting = same-many es (after_resend now limit es) (waiting-after_resend now limit es) h.waiting }

reached-sent : (now limit id : ℕ) (es : Entries) → AreReached es → AreReached (after_send now limit id es)
reached-sent now limit id es h = record { released = two-sent now limit id es h.released; waiting = (let le = fewer-sent now limit id es in let most = h.waiting in omega (arith, le, most)) }

-- ---- the calls
offer-reaches : (old new : Outbox) (d : Delivery) (a : Offer) → OfferStep old d a new → AreReached old.copies → AreReached new.copies
offer-reaches old new d Queued s h = rw s.2 (reached-pushed old.next_place d old.copies s.0 h)
offer-reaches old new d Full s h = rw s.1 h
offer-reaches old new d AtEnd s h = rw s.2 h

end-reaches : (ends : Bool) (old new : Outbox) (id : ℕ) (a : Ack) → EndStep ends old id a new → AreReached old.copies → AreReached new.copies
end-reaches ends old new id Done s h = rw s.1 (reached-dropped id old.copies h)
end-reaches ends old new id Unknown s h = rw s.1 h

received-reaches : (o : Option Entry) (old new : Outbox) (id reason : ℕ) (a : Rec) → find_id id old.copies ≡ o → ReceivedIf o old id reason a new → AreReached old.copies → AreReached new.copies
received-reaches None old new id reason a f s h = rw s.1 h
received-reaches (Some x) old new id reason rec.Release f (inl s) h = rw s.3 (reached-released id old.next_order old.copies x f (received-twice x.delivery.qos x.stage s.0) h)
received-reaches (Some x) old new id reason rec.Release f (inr s) h = rw s.1 h
received-reaches (Some x) old new id reason rec.Ended f s h = rw s.2 (reached-dropped id old.copies h)
received-reaches (Some x) old new id reason rec.Unknown f s h = rw s.2 h
received-reaches (Some x) old new id reason rec.AtEnd f s h = rw s.3 h

next-reaches : (now limit : ℕ) (old new : Outbox) (a : Option Sent) → NextStep now limit old a new → AreReached old.copies → AreReached new.copies
next-reaches now limit old new None s h = elim s.step [
  | inl t ↦ rw t.1 h
  | inr t ↦ elim t [
    | inl u ↦ rw u.3 (reached-resent now limit old.copies h)
    | inr u ↦ rw u.3 (reached-sent now limit 0 (after_resend now limit old.copies) (reached-resent now limit old.copies h))
  ]
]
next-reaches now limit old new (Some x) (inl s) h = rw s.left (reached-resent now limit old.copies h)
next-reaches now limit old new (Some x) (inr s) h = rw s.left (reached-sent now limit x.id (after_resend now limit old.copies) (reached-resent now limit old.copies h))

call-reaches : (old new : Outbox) (c : Call) → low.Takes old c new → AreReached old.copies → AreReached new.copies
call-reaches old new (offered d a) s h = offer-reaches old new d a s h
call-reaches old new (acknowledged id a) s h = end-reaches _ old new id a s h
call-reaches old new (completed id a) s h = end-reaches _ old new id a s h
call-reaches old new (received id reason a) s h = received-reaches _ old new id reason a refl s h
call-reaches old new (resumed maximum) s h = rw s (reached-away old.copies h)
call-reaches old new (listed ids) s h = rw s.1 h
call-reaches old new (asked now limit a) s h = next-reaches now limit old new a s h
call-reaches old new lost s h = rw s (reached-away old.copies h)

pub calls-reach : (old : Outbox) (cs : List Call) (new : Outbox) → low.Run old cs new → AreReached old.copies → AreReached new.copies
calls-reach old [] new r h = rw r h
calls-reach old (c ∷ cs) new r h = calls-reach r.0 cs new r.2 (call-reaches old r.0 c r.1 h)
