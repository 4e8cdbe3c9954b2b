-- The order of the entries: those that wait come last, and none that was sent on the connection comes after one owed.
use Rattle.std.proofs.Common.{◌≡◌, ℕ, Bool, true, false, not, List, [], ◌∷◌, ◌++◌, Option, Some, None, refl, sym, ◌∙◌, ap, inl, inr, append_assoc}
use Rattle.std.specs.List.{AllByRecursion}
use Rattle.std.proofs.lemmas.Bool.{cases_Bool, and_parts, both_ways, false≢true}
use Rattle.qos_handshakes.specs.declared.answers.Offer.{Offer}
use Rattle.qos_handshakes.specs.declared.answers.Offer.TheVariants.{Queued, Full, AtEnd}
use Rattle.qos_handshakes.specs.declared.answers.Ack.{Ack}
use Rattle.qos_handshakes.specs.declared.answers.Ack.TheVariants.{Done, Unknown}
use Rattle.qos_handshakes.specs.declared.answers.Rec.{Rec}
use Rattle.qos_handshakes.specs.declared.answers.Rec.TheVariants as rec
use Rattle.qos_handshakes.specs.declared.copies.Entry.{Entry}
use Rattle.qos_handshakes.specs.declared.copies.Stage.TheVariants.{Published}
use Rattle.mqtt_message.specs.declared.delivery.Delivery.{Delivery}
use Rattle.qos_handshakes.specs.Entries.{Entries, has_id, drop_id, write_id, as_released}
use Rattle.qos_handshakes.specs.Outbox.{Outbox, Sent, chosen, waits, waiting_entry, away, is_published, is_owed, fits, is_sendable, resent, first_owed, after_resend, first_waiting, after_send, NextStep, OfferStep, EndStep, ReceivedIf}
use Rattle.law_handshakes.specs.Runs.{Step, offered, acknowledged, completed, received, resumed, listed, asked, lost, Takes}
use Rattle.law_handshakes.proofs.ChosenLaws.{append-nil}
use Rattle.qos_handshakes.proofs.EntryLaws.{stage_has-waits, all-dropped, all-appended, published-waits, waits-owed, NoneOwed}

abbrev pub AreAway : Entries → Type 0
AreAway es = AllByRecursion (λ e. e.1.here ≡ false) es

abbrev pub AreWaiting : Entries → Type 0
AreWaiting es = AllByRecursion (λ e. (waits e.1.stage ≡ true) × (e.1.here ≡ false)) es

abbrev pub AreLaid : Entries → Type 0
AreLaid [] = Unit {0}
AreLaid (e ∷ es) = (waits e.1.stage ≡ true → (e.1.here ≡ false) × AreWaiting es) × (is_owed e.1 ≡ true → AreAway es) × AreLaid es

away-written : (f : Entry → Entry) → ((x : Entry) → (f x).here ≡ x.here) → (id : ℕ) (es : Entries) → AreAway es → AreAway (write_id f id es)
away-written f k id [] h = tt
away-written f k id (e ∷ es) h = elim (cases_Bool (has_id id e.1)) [
  | inl t ↦ rw t (k e.1 ∙ h.0, h.1)
  | inr g ↦ rw g (h.0, away-written f k id es h.1)
]

waiting-written : (f : Entry → Entry) (id : ℕ) (es : Entries) → AreWaiting es → AreWaiting (write_id f id es)
waiting-written f id [] h = tt
waiting-written f id (e ∷ es) h = elim (cases_Bool (has_id id e.1)) [
  | inl t ↦ absurd (both_ways (waits e.1.stage) (stage_has-waits id e.1.stage t) h.0.0)
  | inr g ↦ rw g (h.0, waiting-written f id es h.1)
]

all-away : (es : Entries) → AreAway (away es)
all-away [] = tt
all-away (e ∷ es) = (refl, all-away es)

waiting-away : (es : Entries) → AreWaiting es → AreWaiting (away es)
waiting-away [] h = tt
waiting-away (e ∷ es) h = ((h.0.0, refl), waiting-away es h.1)

waiting-resent : (now limit : ℕ) (es : Entries) → AreWaiting es → AreWaiting (after_resend now limit es)
waiting-resent now limit [] h = tt
waiting-resent now limit (e ∷ es) h = rw (waits-owed e.1 h.0.0) (h.0, waiting-resent now limit es h.1)

pub none-owed : (now limit : ℕ) (es : Entries) → first_owed now limit es ≡ None → NoneOwed (after_resend now limit es)
none-owed now limit [] is = tt
none-owed now limit (e ∷ es) is = elim (cases_Bool (is_owed e.1)) [
  | inl h ↦ elim (cases_Bool (fits now limit e.1.delivery)) [
    | inl g ↦ (let bad : Some (resent e.1) ≡ None = rw (h, g) at is in cc)
    | inr g ↦ rw (h, g) (none-owed now limit es (rw (h, g) at is))
  ]
  | inr h ↦ rw h (h, none-owed now limit es (rw h at is))
]

-- ---- the calls
laid-offered : (place : ℕ) (c : Delivery) (es : Entries) → AreLaid es → AreLaid (es ++ (place, waiting_entry c) ∷ [])
laid-offered place c [] h = (λ _. (refl, tt), λ _. tt, tt)
laid-offered place c (e ∷ es) h = (
  λ w. ((h.0 w).0, all-appended (λ x. (waits x.1.stage ≡ true) × (x.1.here ≡ false)) (place, waiting_entry c) es (h.0 w).1 (refl, refl)),
  λ o. all-appended (λ x. x.1.here ≡ false) (place, waiting_entry c) es (h.1 o) refl,
  laid-offered place c es h.2,
)

laid-dropped : (id : ℕ) (es : Entries) → AreLaid es → AreLaid (drop_id id es)
laid-dropped id [] h = tt
laid-dropped id (e ∷ es) h = elim (cases_Bool (has_id id e.1)) [
  | inl t ↦ rw t h.2
  | inr f ↦ rw f (
    λ w. ((h.0 w).0, all-dropped (λ x. (waits x.1.stage ≡ true) × (x.1.here ≡ false)) id es (h.0 w).1),
    λ o. all-dropped (λ x. x.1.here ≡ false) id es (h.1 o),
    laid-dropped id es h.2,
  )
]

laid-released : (id order : ℕ) (es : Entries) → AreLaid es → AreLaid (write_id (as_released id order) id es)
laid-released id order [] h = tt
laid-released id order (e ∷ es) h = elim (cases_Bool (has_id id e.1)) [
  | inl t ↦ rw t (λ w. absurd (false≢true w), λ o. absurd (false≢true o), h.2)
  | inr f ↦ rw f (
    λ w. ((h.0 w).0, waiting-written (as_released id order) id es (h.0 w).1),
    λ o. away-written (as_released id order) (λ _. refl) id es (h.1 o),
    laid-released id order es h.2,
  )
]

laid-away : (es : Entries) → AreLaid es → AreLaid (away es)
laid-away [] h = tt
laid-away (e ∷ es) h = (λ w. (refl, waiting-away es (h.0 w).1), λ o. all-away es, laid-away es h.2)

pub laid-resent : (now limit : ℕ) (es : Entries) → AreLaid es → AreLaid (after_resend now limit es)
laid-resent now limit [] h = tt
laid-resent now limit (e ∷ es) h = elim (cases_Bool (is_owed e.1)) [
  | inl t ↦
      let p = (and_parts (is_published e.1.stage) (not e.1.here) t).0 in
      elim (cases_Bool (fits now limit e.1.delivery)) [
        | inl g ↦ rw (t, g) (λ w. absurd (both_ways (is_published e.1.stage) (published-waits e.1.stage w) p), λ o. h.1 t, h.2)
        | inr g ↦ rw (t, g) (laid-resent now limit es h.2)
      ]
  | inr f ↦ rw f (
    λ w. ((h.0 w).0, waiting-resent now limit es (h.0 w).1),
    λ o. absurd (both_ways (is_owed e.1) f o),
    laid-resent now limit es h.2,
  )
]

laid-sent : (now limit id : ℕ) (es : Entries) → NoneOwed es → AreLaid es → AreLaid (after_send now limit id es)
laid-sent now limit id [] none h = tt
laid-sent now limit id (e ∷ es) none h = elim (cases_Bool (waits e.1.stage)) [
  | inl t ↦ elim (cases_Bool (is_sendable now limit e.1.delivery)) [
    | inl g ↦ rw (t, g) (λ w. absurd (false≢true w), λ o. absurd (false≢true o), h.2)
    | inr g ↦ rw (t, g) (laid-sent now limit id es none.1 h.2)
  ]
  | inr f ↦ rw f (
    λ w. absurd (both_ways (waits e.1.stage) f w),
    λ o. absurd (both_ways (is_owed e.1) none.0 o),
    laid-sent now limit id es none.1 h.2,
  )
]

laid-end : (ends : Bool) (old new : Outbox) (id : ℕ) (a : Ack) → EndStep ends old id a new → AreLaid old.copies → AreLaid new.copies
laid-end ends old new id Done s h = rw s.1 (laid-dropped id old.copies h)
laid-end ends old new id Unknown s h = rw s.1 h

laid-received : (o : Option Entry) (old new : Outbox) (id reason : ℕ) (a : Rec) → ReceivedIf o old id reason a new → AreLaid old.copies → AreLaid new.copies
laid-received None old new id reason a s h = rw s.1 h
laid-received (Some x) old new id reason rec.Release (inl s) h = rw s.3 (laid-released id old.next_order old.copies h)
laid-received (Some x) old new id reason rec.Release (inr s) h = rw s.1 h
laid-received (Some x) old new id reason rec.Ended s h = rw s.2 (laid-dropped id old.copies h)
laid-received (Some x) old new id reason rec.Unknown s h = rw s.2 h
laid-received (Some x) old new id reason rec.AtEnd s h = rw s.3 h

laid-next : (now limit : ℕ) (old new : Outbox) (a : Option Sent) → NextStep now limit old a new → AreLaid old.copies → AreLaid new.copies
laid-next now limit old new None s h = elim s.step [
  | inl t ↦ rw t.1 h
  | inr t ↦ elim t [
    | inl u ↦ rw u.3 (laid-resent now limit old.copies h)
    | inr u ↦ rw u.3 (laid-sent now limit 0 (after_resend now limit old.copies) (none-owed now limit old.copies u.1) (laid-resent now limit old.copies h))
  ]
]
laid-next now limit old new (Some x) (inl s) h = rw s.left (laid-resent now limit old.copies h)
laid-next now limit old new (Some x) (inr s) h = rw s.left (laid-sent now limit x.id (after_resend now limit old.copies) (none-owed now limit old.copies s.none_owed) (laid-resent now limit old.copies h))

laid-offer : (old new : Outbox) (c : Delivery) (a : Offer) → OfferStep old c a new → AreLaid old.copies → AreLaid new.copies
laid-offer old new c Queued s h = rw s.2 (laid-offered old.next_place c old.copies h)
laid-offer old new c Full s h = rw s.1 h
laid-offer old new c AtEnd s h = rw s.2 h

pub laid-step : (old new : Outbox) (s : Step) → Takes old s new → AreLaid old.copies → AreLaid new.copies
laid-step old new (offered c a) s h = laid-offer old new c a s h
laid-step old new (acknowledged id a) s h = laid-end _ old new id a s h
laid-step old new (completed id a) s h = laid-end _ old new id a s h
laid-step old new (received id reason a) s h = laid-received _ old new id reason a s h
laid-step old new (resumed maximum) s h = rw s (laid-away old.copies h)
laid-step old new (listed ids) s h = rw s.1 h
laid-step old new (asked now limit a) s h = laid-next now limit old new a s h
laid-step old new lost s h = rw s (laid-away old.copies h)

-- ---- a first send
nothing-waits : {A : Type 0} (p : Entry → List A) → ((x : Entry) → waits x.stage ≡ true → x.here ≡ false → p x ≡ []) → (es : Entries) → AreWaiting es → chosen p es ≡ []
nothing-waits p none [] h = refl
nothing-waits p none (e ∷ es) h = rw (none e.1 h.0.0 h.0.1) (nothing-waits p none es h.1)

abbrev pub sent_entry : ℕ → Delivery → Entry
sent_entry id c = record { stage = Published id; here = true; delivery = c }

-- what it gives comes last
pub chosen-first : {A : Type 0} (p : Entry → List A) → ((x : Entry) → waits x.stage ≡ true → x.here ≡ false → p x ≡ []) → (now limit id : ℕ) (c : Delivery) (es : Entries) → AreLaid es → first_waiting now limit es ≡ Some c → chosen p (after_send now limit id es) ≡ chosen p es ++ p (sent_entry id c)
chosen-first p none now limit id c [] h is = (cc is)
chosen-first {A = A} p none now limit id c (e ∷ es) h is = elim (cases_Bool (waits e.1.stage)) [
  | inl t ↦ elim (cases_Bool (is_sendable now limit e.1.delivery)) [
    | inl g ↦
        let f : Some e.1.delivery ≡ Some c = rw (t, g) at is in let same : e.1.delivery ≡ c = cc in
        rw (t, g, none e.1 t (h.0 t).0, nothing-waits p none es (h.0 t).1, append-nil (p (sent_entry id e.1.delivery))) (ap (λ (d : Delivery). p (sent_entry id d)) same)
    | inr g ↦ rw (t, g, none e.1 t (h.0 t).0) (chosen-first p none now limit id c es h.2 (rw (t, g) at is))
  ]
  | inr t ↦ rw t (ap (λ (l : List A). p e.1 ++ l) (chosen-first p none now limit id c es h.2 (rw t at is)) ∙ sym (append_assoc (p e.1) (chosen p es) (p (sent_entry id c))))
]
