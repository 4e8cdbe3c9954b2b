-- The rules of delivery, over every list of calls.
use Rattle.std.proofs.Common.{◌≡◌, ℕ, ◌+◌, ◌<◌, ◌≤◌, Bool, true, false, cond, not, List, [], ◌∷◌, ◌++◌, ◌⊎◌, Option, Some, None, refl, sym, ◌∙◌, ap, arith, inl, inr, append_assoc}
use Rattle.std.proofs.lemmas.Bool.{cases_Bool, and_cases, and_parts, leb-false, false≢true}
use Rattle.qos_handshakes.specs.declared.answers.Offer.{Offer}
use Rattle.qos_handshakes.specs.declared.answers.Offer.TheVariants.{Queued, Full, AtEnd}
use Rattle.qos_handshakes.specs.declared.answers.Ack.{Ack}
use Rattle.qos_handshakes.specs.declared.answers.Ack.TheVariants.{Done, Unknown}
use Rattle.qos_handshakes.specs.declared.answers.Rec.{Rec}
use Rattle.qos_handshakes.specs.declared.answers.Rec.TheVariants as rec
use Rattle.qos_handshakes.specs.declared.copies.Entry.{Entry}
use Rattle.qos_handshakes.specs.declared.copies.Stage.{Stage}
use Rattle.qos_handshakes.specs.declared.copies.Stage.TheVariants.{Waiting, Published, Released}
use Rattle.mqtt_message.specs.declared.delivery.Delivery.{Delivery}
use Rattle.mqtt_message.specs.Messages.{is_alive}
use Rattle.qos_handshakes.specs.Length.{length_of}
use Rattle.qos_handshakes.specs.Entries.{Entries, has_id, find_id, drop_id, write_id, as_released}
use Rattle.qos_handshakes.specs.Outbox.{Outbox, Sent, waits, waiting, in_flight, waiting_entry, away, is_owed, is_published, fits, is_sendable, resent, first_owed, after_resend, first_waiting, after_send, NextStep, OfferStep, EndStep, ReceivedIf, empty_outbox}
use Rattle.law_handshakes.proofs.ChosenLaws.{without-same, without-then, append-nil}
use Rattle.law_handshakes.specs.Runs.{Step, offered, acknowledged, completed, received, resumed, listed, asked, lost, Takes, Run}
use Rattle.law_handshakes.specs.Quota.{KeepsQuota}
use Rattle.law_handshakes.specs.Order.{KeepsOrder, offers_of, firsts_of, first_of, all_offers, all_firsts, LeavesOut, LeftOutIn}
use Rattle.law_handshakes.specs.Lists.{Without}
use Rattle.qos_handshakes.proofs.EntryLaws.{in_flight-append, in_flight-drop_id, in_flight-write_id, in_flight-away, stage_has-waits}

in_flight-after_resend : (now limit : ℕ) (es : Entries) → in_flight (after_resend now limit es) ≤ in_flight es + 1
in_flight-after_resend now limit [] = omega arith
in_flight-after_resend now limit (e ∷ es) = elim (cases_Bool (is_owed e.1)) [
  | inl h ↦ elim (cases_Bool (fits now limit e.1.delivery)) [ inl g ↦ rw (h, g) (omega arith) | inr g ↦ rw (h, g) (omega (arith, in_flight-after_resend now limit es)) ]
  | inr h ↦ rw h (omega (arith, in_flight-after_resend now limit es))
]

in_flight-none_owed : (now limit : ℕ) (es : Entries) → first_owed now limit es ≡ None → in_flight (after_resend now limit es) ≤ in_flight es
in_flight-none_owed now limit [] none = omega arith
in_flight-none_owed now limit (e ∷ es) none = elim (cases_Bool (is_owed e.1)) [
  | inl h ↦ elim (cases_Bool (fits now limit e.1.delivery)) [
    | inl g ↦ let bad : Some (resent e.1) ≡ None = rw (h, g) at none in cc
    | inr g ↦ rw (h, g) (omega (arith, in_flight-none_owed now limit es (rw (h, g) at none)))
  ]
  | inr h ↦ rw h (omega (arith, in_flight-none_owed now limit es (rw h at none)))
]

in_flight-after_send : (now limit id : ℕ) (es : Entries) → in_flight (after_send now limit id es) ≤ in_flight es + 1
in_flight-after_send now limit id [] = omega arith
in_flight-after_send now limit id (e ∷ es) = elim (cases_Bool (waits e.1.stage)) [
  | inl h ↦ elim (cases_Bool (is_sendable now limit e.1.delivery)) [ inl g ↦ rw (h, g) (omega arith) | inr g ↦ rw (h, g) (omega (arith, in_flight-after_send now limit id es)) ]
  | inr h ↦ rw h (omega (arith, in_flight-after_send now limit id es))
]

in_flight-none_sent : (now limit id : ℕ) (es : Entries) → first_waiting now limit es ≡ None → in_flight (after_send now limit id es) ≤ in_flight es
in_flight-none_sent now limit id [] none = omega arith
in_flight-none_sent now limit id (e ∷ es) none = elim (cases_Bool (waits e.1.stage)) [
  | inl h ↦ elim (cases_Bool (is_sendable now limit e.1.delivery)) [
    | inl g ↦ let bad : Some e.1.delivery ≡ None = rw (h, g) at none in cc
    | inr g ↦ rw (h, g) (omega (arith, in_flight-none_sent now limit id es (rw (h, g) at none)))
  ]
  | inr h ↦ rw h (omega (arith, in_flight-none_sent now limit id es (rw h at none)))
]

abbrev pub WithinQuota : Outbox → Type 0
WithinQuota s = in_flight s.copies ≤ s.maximum

quota-same : (old new : Outbox) → new ≡ old → WithinQuota old → WithinQuota new
quota-same old new same h = rw same h

quota-end : (ends : Bool) (old new : Outbox) (id : ℕ) (a : Ack) → EndStep ends old id a new → WithinQuota old → WithinQuota new
quota-end ends old new id Done s h = rw s.1 (omega (arith, in_flight-drop_id id old.copies))
quota-end ends old new id Unknown s h = quota-same old new s.1 h

quota-received : (o : Option Entry) (old new : Outbox) (id reason : ℕ) (a : Rec) → find_id id old.copies ≡ o → ReceivedIf o old id reason a new → WithinQuota old → WithinQuota new
quota-received None old new id reason a is s h = quota-same old new s.1 h
quota-received (Some x) old new id reason rec.Release is (inl s) h = rw s.3 (rw (in_flight-write_id (as_released id old.next_order) (λ _. refl) id old.copies) h)
quota-received (Some x) old new id reason rec.Release is (inr s) h = quota-same old new s.1 h
quota-received (Some x) old new id reason rec.Ended is s h = rw s.2 (omega (arith, in_flight-drop_id id old.copies))
quota-received (Some x) old new id reason rec.Unknown is s h = quota-same old new s.2 h
quota-received (Some x) old new id reason rec.AtEnd is s h = quota-same old new s.3 h

quota-next : (now limit : ℕ) (old new : Outbox) (a : Option Sent) → NextStep now limit old a new → WithinQuota old → WithinQuota new
quota-next now limit old new None s h = elim s.step [
  | inl t ↦ quota-same old new t.1 h
  | inr t ↦ elim t [
    | inl u ↦ rw u.3 (omega (arith, in_flight-none_owed now limit old.copies u.1))
    | inr u ↦ rw u.3 (omega (arith, in_flight-none_owed now limit old.copies u.1, in_flight-none_sent now limit 0 (after_resend now limit old.copies) u.2))
  ]
]
quota-next now limit old new (Some x) (inl s) h = rw s.left (omega (arith, in_flight-after_resend now limit old.copies, s.quota))
quota-next now limit old new (Some x) (inr s) h = rw s.left (omega (arith, in_flight-none_owed now limit old.copies s.none_owed, in_flight-after_send now limit x.id (after_resend now limit old.copies), s.quota))

quota-offer : (old new : Outbox) (c : Delivery) (a : Offer) → OfferStep old c a new → WithinQuota old → WithinQuota new
quota-offer old new c Queued s h = rw s.2 (omega (arith, in_flight-append old.copies ((old.next_place, waiting_entry c) ∷ [])))
quota-offer old new c Full s h = quota-same old new s.1 h
quota-offer old new c AtEnd s h = quota-same old new s.2 h

pub quota-step : (old new : Outbox) (s : Step) → Takes old s new → WithinQuota old → WithinQuota new
quota-step old new (offered c a) s h = quota-offer old new c a s h
quota-step old new (acknowledged id a) s h = quota-end _ old new id a s h
quota-step old new (completed id a) s h = quota-end _ old new id a s h
quota-step old new (received id reason a) s h = quota-received _ old new id reason a refl s h
quota-step old new (resumed maximum) s h = rw s (rw in_flight-away (omega arith))
quota-step old new (listed ids) s h = quota-same old new s.1 h
quota-step old new lost s h = rw s (rw in_flight-away (omega arith))
quota-step old new (asked now limit a) s h = quota-next now limit old new a s h

quota-run : (start : Outbox) (steps : List Step) (end : Outbox) → Run start steps end → WithinQuota start → WithinQuota end
quota-run start [] end r h = quota-same start end r h
quota-run start (s ∷ ss) end r h = quota-run r.0 ss end r.2 (quota-step start r.0 s r.1 h)

pub keeps_quota : KeepsQuota
keeps_quota = λ steps end r. quota-run empty_outbox steps end r (omega arith)

-- ---- order
pub waiting-append : (es fs : Entries) → waiting (es ++ fs) ≡ waiting es ++ waiting fs
waiting-append [] fs = refl
waiting-append (e ∷ es) fs = elim (cases_Bool (waits e.1.stage)) [
  | inl h ↦ rw h (ap (λ (t : List Delivery). e.1.delivery ∷ t) (waiting-append es fs))
  | inr h ↦ rw h (waiting-append es fs)
]

pub waiting-drop_id : (id : ℕ) (es : Entries) → waiting (drop_id id es) ≡ waiting es
waiting-drop_id id [] = refl
waiting-drop_id id (e ∷ es) = elim (cases_Bool (has_id id e.1)) [
  | inl h ↦ rw (h, stage_has-waits id e.1.stage h) refl
  | inr h ↦ rw h (ap (λ (t : List Delivery). cond (waits e.1.stage) (e.1.delivery ∷ t) t) (waiting-drop_id id es))
]

pub waiting-write_id : (f : Entry → Entry) (k : (x : Entry) → waits (f x).stage ≡ false) (id : ℕ) (es : Entries) → waiting (write_id f id es) ≡ waiting es
waiting-write_id f k id [] = refl
waiting-write_id f k id (e ∷ es) = elim (cases_Bool (has_id id e.1)) [
  | inl h ↦ rw (h, stage_has-waits id e.1.stage h, k e.1) refl
  | inr h ↦ rw h (ap (λ (t : List Delivery). cond (waits e.1.stage) (e.1.delivery ∷ t) t) (waiting-write_id f k id es))
]

waiting-away : (es : Entries) → waiting (away es) ≡ waiting es
waiting-away [] = refl
waiting-away (e ∷ es) = ap (λ (t : List Delivery). cond (waits e.1.stage) (e.1.delivery ∷ t) t) (waiting-away es)

published-waits : (s : Stage) → is_published s ≡ true → waits s ≡ false
published-waits Waiting h = absurd (false≢true h)
published-waits (Published i) h = refl
published-waits (Released i o) h = refl

pub waiting-after_resend : (now limit : ℕ) (es : Entries) → waiting (after_resend now limit es) ≡ waiting es
waiting-after_resend now limit [] = refl
waiting-after_resend now limit (e ∷ es) = elim (cases_Bool (is_owed e.1)) [
  | inl h ↦ let w : waits e.1.stage ≡ false = published-waits e.1.stage (and_parts (is_published e.1.stage) (not e.1.here) h).0 in
      elim (cases_Bool (fits now limit e.1.delivery)) [ inl g ↦ rw (h, g, w) refl | inr g ↦ rw (h, g, w) (waiting-after_resend now limit es) ]
  | inr h ↦ rw h (ap (λ (t : List Delivery). cond (waits e.1.stage) (e.1.delivery ∷ t) t) (waiting-after_resend now limit es))
]

-- why the queue leaves a copy out
abbrev pub TooLate : ℕ → ℕ → Delivery → Type 0
TooLate now limit x = (is_alive x.message now ≡ false) ⊎ (limit < length_of now x)

too-late : (now limit : ℕ) (x : Delivery) → is_sendable now limit x ≡ false → TooLate now limit x
too-late now limit x h = elim (and_cases (is_alive x.message now) (fits now limit x) h) [ inl a ↦ inl a | inr b ↦ inr (leb-false (length_of now x) limit b) ]

pub queue-sent : (now limit id : ℕ) (c : Delivery) (es : Entries) → first_waiting now limit es ≡ Some c → Without (TooLate now limit) (waiting es) (c ∷ waiting (after_send now limit id es))
queue-sent now limit id c [] h = (cc h)
queue-sent now limit id c (e ∷ es) h = elim (cases_Bool (waits e.1.stage)) [
  | inl w ↦ elim (cases_Bool (is_sendable now limit e.1.delivery)) [
    | inl g ↦ let f : Some e.1.delivery ≡ Some c = rw (w, g) at h in let same : c ≡ e.1.delivery = cc in
        rw (w, g) (inr (waiting es, ap (λ (z : Delivery). z ∷ waiting es) same, without-same (TooLate now limit) (waiting es) (waiting es) refl))
    | inr g ↦ rw (w, g) (inl (too-late now limit e.1.delivery g, queue-sent now limit id c es (rw (w, g) at h)))
  ]
  | inr w ↦ rw (w, w) (queue-sent now limit id c es (rw w at h))
]

queue-dropped : (now limit id : ℕ) (es : Entries) → first_waiting now limit es ≡ None → Without (TooLate now limit) (waiting es) (waiting (after_send now limit id es))
queue-dropped now limit id [] h = refl
queue-dropped now limit id (e ∷ es) h = elim (cases_Bool (waits e.1.stage)) [
  | inl w ↦ elim (cases_Bool (is_sendable now limit e.1.delivery)) [
    | inl g ↦ let bad : Some e.1.delivery ≡ None = rw (w, g) at h in (cc)
    | inr g ↦ rw (w, g) (inl (too-late now limit e.1.delivery g, queue-dropped now limit id es (rw (w, g) at h)))
  ]
  | inr w ↦ rw (w, w) (queue-dropped now limit id es (rw w at h))
]

-- a step that neither takes a copy nor sends one
quiet : (P : Delivery → Type 0) (old new : Entries) → waiting new ≡ waiting old → Without P (waiting old ++ []) (waiting new)
quiet P old new e = without-same P (waiting old ++ []) (waiting new) (e ∙ sym (append-nil (waiting old)))

-- the last is left out
last-left : (P : Delivery → Type 0) (c : Delivery) → P c → (xs : List Delivery) → Without P (xs ++ c ∷ []) xs
last-left P c p [] = inl (p, refl)
last-left P c p (x ∷ xs) = inr (xs, refl, last-left P c p xs)

pub resent-dup : (now limit : ℕ) (x : Sent) (es : Entries) → first_owed now limit es ≡ Some x → x.dup ≡ true
resent-dup now limit x [] h = (cc h)
resent-dup now limit x (e ∷ es) h = elim (cases_Bool (is_owed e.1)) [
  | inl w ↦ elim (cases_Bool (fits now limit e.1.delivery)) [
    | inl g ↦ let f : Some (resent e.1) ≡ Some x = rw (w, g) at h in let same : resent e.1 ≡ x = cc in sym (ap (λ (z : Sent). z.dup) same)
    | inr g ↦ resent-dup now limit x es (rw (w, g) at h)
  ]
  | inr w ↦ resent-dup now limit x es (rw w at h)
]

order-offer : (old new : Outbox) (c : Delivery) (a : Offer) → OfferStep old c a new → Without (LeavesOut (offered c a)) (waiting old.copies ++ c ∷ []) (waiting new.copies)
order-offer old new c Queued s = rw s.2 (without-same (LeavesOut (offered c Queued)) _ _ (waiting-append old.copies ((old.next_place, waiting_entry c) ∷ [])))
order-offer old new c Full s = rw s.1 (last-left (LeavesOut (offered c Full)) c refl (waiting old.copies))
order-offer old new c AtEnd s = rw s.2 (last-left (LeavesOut (offered c AtEnd)) c refl (waiting old.copies))

order-end : (P : Delivery → Type 0) (ends : Bool) (old new : Outbox) (id : ℕ) (a : Ack) → EndStep ends old id a new → Without P (waiting old.copies ++ []) (waiting new.copies)
order-end P ends old new id Done s = rw s.1 (quiet P old.copies (drop_id id old.copies) (waiting-drop_id id old.copies))
order-end P ends old new id Unknown s = rw s.1 (quiet P old.copies old.copies refl)

order-received : (P : Delivery → Type 0) (o : Option Entry) (old new : Outbox) (id reason : ℕ) (a : Rec) → ReceivedIf o old id reason a new → Without P (waiting old.copies ++ []) (waiting new.copies)
order-received P None old new id reason a s = rw s.1 (quiet P old.copies old.copies refl)
order-received P (Some x) old new id reason rec.Release (inl s) = rw s.3 (quiet P old.copies (write_id (as_released id old.next_order) id old.copies) (waiting-write_id (as_released id old.next_order) (λ _. refl) id old.copies))
order-received P (Some x) old new id reason rec.Release (inr s) = rw s.1 (quiet P old.copies old.copies refl)
order-received P (Some x) old new id reason rec.Ended s = rw s.2 (quiet P old.copies (drop_id id old.copies) (waiting-drop_id id old.copies))
order-received P (Some x) old new id reason rec.Unknown s = rw s.2 (quiet P old.copies old.copies refl)
order-received P (Some x) old new id reason rec.AtEnd s = rw s.3 (quiet P old.copies old.copies refl)

order-next : (now limit : ℕ) (old new : Outbox) (a : Option Sent) → NextStep now limit old a new → Without (TooLate now limit) (waiting old.copies ++ []) (first_of a ++ waiting new.copies)
order-next now limit old new None s = elim s.step [
  | inl t ↦ rw t.1 (quiet (TooLate now limit) old.copies old.copies refl)
  | inr t ↦ elim t [
    | inl u ↦ rw u.3 (quiet (TooLate now limit) old.copies (after_resend now limit old.copies) (waiting-after_resend now limit old.copies))
    | inr u ↦ rw (u.3, append-nil (waiting old.copies), ← waiting-after_resend now limit old.copies) (queue-dropped now limit 0 (after_resend now limit old.copies) u.2)
  ]
]
order-next now limit old new (Some x) (inl s) = rw (resent-dup now limit x old.copies s.sent, s.left) (quiet (TooLate now limit) old.copies (after_resend now limit old.copies) (waiting-after_resend now limit old.copies))
order-next now limit old new (Some x) (inr s) = rw (s.first, s.left, append-nil (waiting old.copies), ← waiting-after_resend now limit old.copies) (queue-sent now limit x.id x.copy (after_resend now limit old.copies) s.sent)

order-step : (old new : Outbox) (s : Step) → Takes old s new → Without (LeavesOut s) (waiting old.copies ++ offers_of s) (firsts_of s ++ waiting new.copies)
order-step old new (offered c a) s = order-offer old new c a s
order-step old new (acknowledged id a) s = order-end _ _ old new id a s
order-step old new (completed id a) s = order-end _ _ old new id a s
order-step old new (received id reason a) s = order-received _ _ old new id reason a s
order-step old new (resumed maximum) s = rw s (quiet _ old.copies (away old.copies) (waiting-away old.copies))
order-step old new (listed ids) s = rw s.1 (quiet _ old.copies old.copies refl)
order-step old new lost s = rw s (quiet _ old.copies (away old.copies) (waiting-away old.copies))
order-step old new (asked now limit a) s = order-next now limit old new a s

order-run : (start : Outbox) (steps : List Step) (end : Outbox) → Run start steps end → Without (LeftOutIn steps) (waiting start.copies ++ all_offers steps) (all_firsts steps ++ waiting end.copies)
order-run start [] end r = rw r (quiet (λ _. ⊥) start.copies start.copies refl)
order-run start (s ∷ ss) end r =
    rw (← append_assoc (waiting start.copies) (offers_of s) (all_offers ss), append_assoc (firsts_of s) (all_firsts ss) (waiting end.copies))
    (without-then (LeavesOut s) (LeftOutIn ss) (LeftOutIn (s ∷ ss)) (λ x p. inl p) (λ x q. inr q) (waiting start.copies ++ offers_of s) (all_offers ss) (firsts_of s) (waiting r.0.copies) (all_firsts ss ++ waiting end.copies) (order-step start r.0 s r.1) (order-run r.0 ss end r.2))

pub keeps_order : KeepsOrder
keeps_order = λ steps end r. order-run empty_outbox steps end r

-- ---- a run of two parts
pub run-split : (start : Outbox) (before after : List Step) (end : Outbox) → Run start (before ++ after) end → (mid : Outbox) × Run start before mid × Run mid after end
run-split start [] after end r = (start, refl, r)
run-split start (s ∷ before) after end r = let t = run-split r.0 before after end r.2 in (t.0, (r.0, r.1, t.1), t.2)
