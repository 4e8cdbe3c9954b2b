-- Identifiers stay distinct and in range.
use Rattle.std.proofs.Common.{◌≡◌, ◌≢◌, ℕ, ◌<◌, ◌≤◌, Bool, true, false, List, [], ◌∷◌, ◌++◌, Option, Some, None, IsSome, refl, sym, ◌∙◌, ap, inl, inr}
use Rattle.std.specs.Prelude.{◌==◌}
use Rattle.std.proofs.lemmas.Bool.{cases_Bool, eqb-true, eq-eqb, ne_eqb, both_ways, false≢true}
use Rattle.qos_handshakes.specs.declared.answers.Offer.{Offer}
use Rattle.qos_handshakes.specs.declared.answers.Offer.TheVariants.{Queued, Full, AtEnd}
use Rattle.qos_handshakes.specs.declared.answers.Ack.{Ack}
use Rattle.qos_handshakes.specs.declared.answers.Ack.TheVariants.{Done, Unknown}
use Rattle.qos_handshakes.specs.declared.answers.Rec.{Rec}
use Rattle.qos_handshakes.specs.declared.answers.Rec.TheVariants as rec
use Rattle.qos_handshakes.specs.declared.copies.Entry.{Entry}
use Rattle.qos_handshakes.specs.declared.copies.Stage.{Stage}
use Rattle.qos_handshakes.specs.declared.copies.Stage.TheVariants.{Waiting, Published, Released}
use Rattle.mqtt_message.specs.declared.delivery.Delivery.{Delivery}
use Rattle.qos_handshakes.specs.Entries.{Entries, stage_has, has_id, find_id, drop_id, write_id, as_released, as_published}
use Rattle.qos_handshakes.specs.Outbox.{Outbox, Sent, waits, waiting_entry, away, is_owed, fits, is_sendable, after_resend, first_waiting, after_send, NextStep, OfferStep, EndStep, ReceivedIf, empty_outbox}
use Rattle.law_handshakes.specs.Runs.{Step, offered, acknowledged, completed, received, resumed, listed, asked, lost, Takes, Run}
use Rattle.law_handshakes.specs.Numbers.{KeepsNumbers, KeepsLeast, AreNumbered, IsNumbered, NoneHas}
use Rattle.qos_handshakes.proofs.Indexed.{waits-has}
use Rattle.law_handshakes.proofs.OrderLaws.{resent-dup, run-split}
use Rattle.qos_handshakes.proofs.EntryLaws.{none-head, none-tail, none-cons}

none-pushed : (k place : ℕ) (c : Delivery) (es : Entries) → NoneHas k es → NoneHas k (es ++ (place, waiting_entry c) ∷ [])
none-pushed k place c [] h = refl
none-pushed k place c (e ∷ es) h = none-cons k e (es ++ (place, waiting_entry c) ∷ []) (none-head k e es h) (none-pushed k place c es (none-tail k e es h))

none-dropped : (k id : ℕ) (es : Entries) → NoneHas k es → NoneHas k (drop_id id es)
none-dropped k id [] h = refl
none-dropped k id (e ∷ es) h = elim (cases_Bool (has_id id e.1)) [
  | inl t ↦ rw t (none-tail k e es h)
  | inr f ↦ rw f (none-cons k e (drop_id id es) (none-head k e es h) (none-dropped k id es (none-tail k e es h)))
]

-- an exchange has one identifier
other-id : (k id : ℕ) (s : Stage) → stage_has id s ≡ true → stage_has k s ≡ false → id ≢ k
other-id k id s t f same = both_ways (stage_has k s) f (ap (λ (i : ℕ). stage_has i s) (sym same) ∙ t)

none-released : (k id order : ℕ) (es : Entries) → NoneHas k es → NoneHas k (write_id (as_released id order) id es)
none-released k id order [] h = refl
none-released k id order (e ∷ es) h = elim (cases_Bool (has_id id e.1)) [
  | inl t ↦ rw t (none-cons k (e.0, as_released id order e.1) es (ne_eqb id k (other-id k id e.1.stage t (none-head k e es h))) (none-tail k e es h))
  | inr f ↦ rw f (none-cons k e (write_id (as_released id order) id es) (none-head k e es h) (none-released k id order es (none-tail k e es h)))
]

pub none-away : (k : ℕ) (es : Entries) → NoneHas k es → NoneHas k (away es)
none-away k [] h = refl
none-away k (e ∷ es) h = none-cons k (e.0, record e.1 { here = false }) (away es) (none-head k e es h) (none-away k es (none-tail k e es h))

none-resent : (k now limit : ℕ) (es : Entries) → NoneHas k es → NoneHas k (after_resend now limit es)
none-resent k now limit [] h = refl
none-resent k now limit (e ∷ es) h = elim (cases_Bool (is_owed e.1)) [
  | inl t ↦ elim (cases_Bool (fits now limit e.1.delivery)) [
    | inl g ↦ rw (t, g) (none-cons k (e.0, record e.1 { here = true }) es (none-head k e es h) (none-tail k e es h))
    | inr g ↦ rw (t, g) (none-resent k now limit es (none-tail k e es h))
  ]
  | inr f ↦ rw f (none-cons k e (after_resend now limit es) (none-head k e es h) (none-resent k now limit es (none-tail k e es h)))
]

none-sent : (k now limit id : ℕ) (es : Entries) → id ≢ k → NoneHas k es → NoneHas k (after_send now limit id es)
none-sent k now limit id [] ne h = refl
none-sent k now limit id (e ∷ es) ne h = elim (cases_Bool (waits e.1.stage)) [
  | inl t ↦ elim (cases_Bool (is_sendable now limit e.1.delivery)) [
    | inl g ↦ rw (t, g) (none-cons k (e.0, as_published id e.1) es (ne_eqb id k ne) (none-tail k e es h))
    | inr g ↦ rw (t, g) (none-sent k now limit id es ne (none-tail k e es h))
  ]
  | inr f ↦ rw f (none-cons k e (after_send now limit id es) (none-head k e es h) (none-sent k now limit id es ne (none-tail k e es h)))
]

-- a stage's identifier is in range, and none of the later has it, also where the later have changed
numbered-map : (s : Stage) (es fs : Entries) → ((k : ℕ) → stage_has k s ≡ true → NoneHas k es → NoneHas k fs) → IsNumbered s es → IsNumbered s fs
numbered-map Waiting es fs m h = tt
numbered-map (Published id) es fs m h = (h.0, h.1, m id (eq-eqb id id refl) h.2)
numbered-map (Released id order) es fs m h = (h.0, h.1, m id (eq-eqb id id refl) h.2)

numbered-pushed : (place : ℕ) (c : Delivery) (es : Entries) → AreNumbered es → AreNumbered (es ++ (place, waiting_entry c) ∷ [])
numbered-pushed place c [] h = (tt, tt)
numbered-pushed place c (e ∷ es) h = (numbered-map e.1.stage es _ (λ k _ n. none-pushed k place c es n) h.0, numbered-pushed place c es h.1)

numbered-dropped : (id : ℕ) (es : Entries) → AreNumbered es → AreNumbered (drop_id id es)
numbered-dropped id [] h = tt
numbered-dropped id (e ∷ es) h = elim (cases_Bool (has_id id e.1)) [
  | inl t ↦ rw t h.1
  | inr f ↦ rw f (numbered-map e.1.stage es (drop_id id es) (λ k _ n. none-dropped k id es n) h.0, numbered-dropped id es h.1)
]

released-stage : (id order : ℕ) (s : Stage) (es : Entries) → stage_has id s ≡ true → IsNumbered s es → IsNumbered (Released id order) es
released-stage id order Waiting es t h = absurd (false≢true t)
released-stage id order (Published i) es t h = rw (← eqb-true i id t) h
released-stage id order (Released i o) es t h = rw (← eqb-true i id t) h

numbered-released : (id order : ℕ) (es : Entries) → AreNumbered es → AreNumbered (write_id (as_released id order) id es)
numbered-released id order [] h = tt
numbered-released id order (e ∷ es) h = elim (cases_Bool (has_id id e.1)) [
  | inl t ↦ rw t (released-stage id order e.1.stage es t h.0, h.1)
  | inr f ↦ rw f (numbered-map e.1.stage es _ (λ k _ n. none-released k id order es n) h.0, numbered-released id order es h.1)
]

numbered-away : (es : Entries) → AreNumbered es → AreNumbered (away es)
numbered-away [] h = tt
numbered-away (e ∷ es) h = (numbered-map e.1.stage es (away es) (λ k _ n. none-away k es n) h.0, numbered-away es h.1)

pub numbered-resent : (now limit : ℕ) (es : Entries) → AreNumbered es → AreNumbered (after_resend now limit es)
numbered-resent now limit [] h = tt
numbered-resent now limit (e ∷ es) h = elim (cases_Bool (is_owed e.1)) [
  | inl t ↦ elim (cases_Bool (fits now limit e.1.delivery)) [ inl g ↦ rw (t, g) h | inr g ↦ rw (t, g) (numbered-resent now limit es h.1) ]
  | inr f ↦ rw f (numbered-map e.1.stage es (after_resend now limit es) (λ k _ n. none-resent k now limit es n) h.0, numbered-resent now limit es h.1)
]

numbered-sent : (now limit id : ℕ) (es : Entries) → 1 ≤ id → id ≤ 65535 → NoneHas id es → AreNumbered es → AreNumbered (after_send now limit id es)
numbered-sent now limit id [] first last none h = tt
numbered-sent now limit id (e ∷ es) first last none h = elim (cases_Bool (waits e.1.stage)) [
  | inl t ↦ elim (cases_Bool (is_sendable now limit e.1.delivery)) [
    | inl g ↦ rw (t, g) ((first, last, none-tail id e es none), h.1)
    | inr g ↦ rw (t, g) (numbered-sent now limit id es first last (none-tail id e es none) h.1)
  ]
  | inr f ↦ rw f (
    numbered-map e.1.stage es (after_send now limit id es) (λ k has n. none-sent k now limit id es (λ same. both_ways (has_id k e.1) (ap (λ (i : ℕ). has_id i e.1) (sym same) ∙ none-head id e es none) has) n) h.0,
    numbered-sent now limit id es first last (none-tail id e es none) h.1,
  )
]

none-dropped_all : (k now limit : ℕ) (es : Entries) → first_waiting now limit es ≡ None → NoneHas k es → NoneHas k (after_send now limit 0 es)
none-dropped_all k now limit [] none h = refl
none-dropped_all k now limit (e ∷ es) none h = elim (cases_Bool (waits e.1.stage)) [
  | inl t ↦ elim (cases_Bool (is_sendable now limit e.1.delivery)) [
    | inl g ↦ (let bad : Some e.1.delivery ≡ None = rw (t, g) at none in cc)
    | inr g ↦ rw (t, g) (none-dropped_all k now limit es (rw (t, g) at none) (none-tail k e es h))
  ]
  | inr f ↦ rw f (none-cons k e (after_send now limit 0 es) (none-head k e es h) (none-dropped_all k now limit es (rw f at none) (none-tail k e es h)))
]

-- nothing is sent under 0, so it may stand for no identifier
numbered-dropped_all : (now limit : ℕ) (es : Entries) → first_waiting now limit es ≡ None → AreNumbered es → AreNumbered (after_send now limit 0 es)
numbered-dropped_all now limit [] none h = tt
numbered-dropped_all now limit (e ∷ es) none h = elim (cases_Bool (waits e.1.stage)) [
  | inl t ↦ elim (cases_Bool (is_sendable now limit e.1.delivery)) [
    | inl g ↦ (let bad : Some e.1.delivery ≡ None = rw (t, g) at none in cc)
    | inr g ↦ rw (t, g) (numbered-dropped_all now limit es (rw (t, g) at none) h.1)
  ]
  | inr f ↦ rw f (numbered-map e.1.stage es (after_send now limit 0 es) (λ k has n. none-dropped_all k now limit es (rw f at none) n) h.0, numbered-dropped_all now limit es (rw f at none) h.1)
]

numbered-end : (ends : Bool) (old new : Outbox) (id : ℕ) (a : Ack) → EndStep ends old id a new → AreNumbered old.copies → AreNumbered new.copies
numbered-end ends old new id Done s h = rw s.1 (numbered-dropped id old.copies h)
numbered-end ends old new id Unknown s h = rw s.1 h

numbered-received : (o : Option Entry) (old new : Outbox) (id reason : ℕ) (a : Rec) → ReceivedIf o old id reason a new → AreNumbered old.copies → AreNumbered new.copies
numbered-received None old new id reason a s h = rw s.1 h
numbered-received (Some x) old new id reason rec.Release (inl s) h = rw s.3 (numbered-released id old.next_order old.copies h)
numbered-received (Some x) old new id reason rec.Release (inr s) h = rw s.1 h
numbered-received (Some x) old new id reason rec.Ended s h = rw s.2 (numbered-dropped id old.copies h)
numbered-received (Some x) old new id reason rec.Unknown s h = rw s.2 h
numbered-received (Some x) old new id reason rec.AtEnd s h = rw s.3 h

numbered-next : (now limit : ℕ) (old new : Outbox) (a : Option Sent) → NextStep now limit old a new → AreNumbered old.copies → AreNumbered new.copies
numbered-next now limit old new None s h = elim s.step [
  | inl t ↦ rw t.1 h
  | inr t ↦ elim t [
    | inl u ↦ rw u.3 (numbered-resent now limit old.copies h)
    | inr u ↦ rw u.3 (numbered-dropped_all now limit (after_resend now limit old.copies) u.2 (numbered-resent now limit old.copies h))
  ]
]
numbered-next now limit old new (Some x) (inl s) h = rw s.left (numbered-resent now limit old.copies h)
numbered-next now limit old new (Some x) (inr s) h = rw s.left (numbered-sent now limit x.id (after_resend now limit old.copies) s.number.first s.number.last s.number.free (numbered-resent now limit old.copies h))

numbered-offer : (old new : Outbox) (c : Delivery) (a : Offer) → OfferStep old c a new → AreNumbered old.copies → AreNumbered new.copies
numbered-offer old new c Queued s h = rw s.2 (numbered-pushed old.next_place c old.copies h)
numbered-offer old new c Full s h = rw s.1 h
numbered-offer old new c AtEnd s h = rw s.2 h

pub numbered-step : (old new : Outbox) (s : Step) → Takes old s new → AreNumbered old.copies → AreNumbered new.copies
numbered-step old new (offered c a) s h = numbered-offer old new c a s h
numbered-step old new (acknowledged id a) s h = numbered-end _ old new id a s h
numbered-step old new (completed id a) s h = numbered-end _ old new id a s h
numbered-step old new (received id reason a) s h = numbered-received _ old new id reason a s h
numbered-step old new (resumed maximum) s h = rw s (numbered-away old.copies h)
numbered-step old new (listed ids) s h = rw s.1 h
numbered-step old new lost s h = rw s (numbered-away old.copies h)
numbered-step old new (asked now limit a) s h = numbered-next now limit old new a s h

numbered-run : (start : Outbox) (steps : List Step) (end : Outbox) → Run start steps end → AreNumbered start.copies → AreNumbered end.copies
numbered-run start [] end r h = rw r h
numbered-run start (s ∷ ss) end r h = numbered-run r.0 ss end r.2 (numbered-step start r.0 s r.1 h)

pub keeps_numbers : KeepsNumbers
keeps_numbers = λ steps end r. numbered-run empty_outbox steps end r tt

-- ---- the least free identifier
pub some-sent : (k now limit id : ℕ) (es : Entries) → IsSome (find_id k es) → IsSome (find_id k (after_send now limit id es))
some-sent k now limit id [] h = h
some-sent k now limit id (e ∷ es) h = elim (cases_Bool (waits e.1.stage)) [
  | inl t ↦
      let g = rw (waits-has k e.1.stage t) at h in
      elim (cases_Bool (is_sendable now limit e.1.delivery)) [
        | inl s ↦ rw (t, s) (elim (cases_Bool (id == k)) [ inl i ↦ rw i refl | inr i ↦ rw i g ])
        | inr s ↦ rw (t, s) (some-sent k now limit id es g)
      ]
  | inr t ↦ rw t (elim (cases_Bool (has_id k e.1)) [ inl i ↦ rw i refl | inr i ↦ rw i (some-sent k now limit id es (rw i at h)) ])
]

pub least-next : (now limit k : ℕ) (old new : Outbox) (s : Sent) → NextStep now limit old (Some s) new → s.dup ≡ false → 1 ≤ k → k < s.id → IsSome (find_id k new.copies)
least-next now limit k old new s (inl n) first low less = absurd (both_ways s.dup first (resent-dup now limit s old.copies n.sent))
least-next now limit k old new s (inr n) first low less = rw n.left (some-sent k now limit s.id (after_resend now limit old.copies) (n.number.least k low less))

pub keeps_least : KeepsLeast
keeps_least = λ steps now limit s end r first k low less.
    let t = run-split empty_outbox steps (asked now limit (Some s) ∷ []) end r in rw t.2.2 (least-next now limit k t.0 t.2.0 s t.2.1 first low less)
