-- Quota, as the calls tell it, and that none stays idle.
use Rattle.std.proofs.Common.{◌≡◌, ℕ, ◌+◌, Bool, true, false, cond, not, List, [], ◌∷◌, ◌++◌, Option, Some, None, length, refl, sym, ◌∙◌, ap, arith, inl, inr, append_assoc}
use Rattle.std.proofs.lemmas.Bool.{cases_Bool, and_parts, eqb-true, false≢true}
use Rattle.qos_handshakes.specs.declared.answers.Offer.{Offer}
use Rattle.qos_handshakes.specs.declared.answers.Offer.TheVariants.{Queued, Full, AtEnd}
use Rattle.qos_handshakes.specs.declared.answers.Ack.{Ack}
use Rattle.qos_handshakes.specs.declared.answers.Ack.TheVariants.{Done, Unknown}
use Rattle.qos_handshakes.specs.declared.answers.Rec.{Rec}
use Rattle.qos_handshakes.specs.declared.answers.Rec.TheVariants as rec
use Rattle.qos_handshakes.specs.declared.copies.Entry.{Entry}
use Rattle.qos_handshakes.specs.declared.copies.Stage.{Stage}
use Rattle.qos_handshakes.specs.declared.copies.Stage.TheVariants.{Waiting, Published, Released}
use Rattle.mqtt_message.specs.declared.delivery.Delivery.{Delivery}
use Rattle.qos_handshakes.specs.Entries.{Entries, stage_has, has_id, find_id, drop_id, write_id, as_released}
use Rattle.qos_handshakes.specs.Outbox.{Outbox, Sent, chosen, waits, waiting, in_flight, away, stage_id, is_owed, is_published, is_acknowledged, is_completed, fits, is_sendable, resent, first_owed, after_resend, first_waiting, after_send, NextStep, OfferStep, EndStep, ReceivedIf, empty_outbox}
use Rattle.law_handshakes.specs.Runs.{Step, offered, acknowledged, completed, received, resumed, listed, asked, lost, Takes, Run}
use Rattle.law_handshakes.specs.Numbers.{AreNumbered, IsNumbered, NoneHas}
use Rattle.law_handshakes.specs.Lists.{without}
use Rattle.law_handshakes.specs.Quota.{flying_after, maximum_after, FliesWithin, KeepsWithin, CannotSend, KeepsBusy}
use Rattle.law_handshakes.proofs.OrderLaws.{WithinQuota, quota-step, run-split}
use Rattle.qos_handshakes.proofs.EntryLaws.{none-head, none-tail, not-true}
use Rattle.law_handshakes.proofs.NumberLaws.{numbered-step}
use Rattle.law_handshakes.proofs.ChosenLaws.{chosen-offered, chosen-written, chosen-none_sent}
use Rattle.law_handshakes.proofs.LaidLaws.{AreLaid, AreAway, none-owed, laid-resent, laid-step, chosen-first}
use Rattle.law_handshakes.proofs.ResendLaws.{found-has, found-acknowledged, found-completed, nothing-owed, owed-first}

abbrev pub stage_ids : Stage → List ℕ
stage_ids Waiting = []
stage_ids (Published id) = id ∷ []
stage_ids (Released id order) = id ∷ []

-- the identifiers whose PUBLISH was sent on the connection
abbrev pub here_part : Entry → List ℕ
here_part x = cond x.here (stage_ids x.stage) []

abbrev pub here_ids : Entries → List ℕ
here_ids es = chosen here_part es

-- ---- an entry without an identifier, and one with it
without-other : (id : ℕ) (s : Stage) (here : Bool) (ks : List ℕ) → stage_has id s ≡ false → without id (cond here (stage_ids s) [] ++ ks) ≡ cond here (stage_ids s) [] ++ without id ks
without-other id s false ks h = refl
without-other id Waiting true ks h = refl
without-other id (Published i) true ks h = rw h refl
without-other id (Released i order) true ks h = rw h refl

without-same : (id : ℕ) (s : Stage) (here : Bool) (ks : List ℕ) → stage_has id s ≡ true → without id ks ≡ ks → without id (cond here (stage_ids s) [] ++ ks) ≡ ks
without-same id s false ks h e = e
without-same id Waiting true ks h e = absurd (false≢true h)
without-same id (Published i) true ks h e = rw h refl
without-same id (Released i order) true ks h e = rw h refl

pub without-none : (id : ℕ) (es : Entries) → NoneHas id es → without id (here_ids es) ≡ here_ids es
without-none id [] h = refl
without-none id (e ∷ es) h = without-other id e.1.stage e.1.here (here_ids es) (none-head id e es h) ∙ ap (λ (t : List ℕ). here_part e.1 ++ t) (without-none id es (none-tail id e es h))

pub numbered-later : (id : ℕ) (s : Stage) (es : Entries) → stage_has id s ≡ true → IsNumbered s es → NoneHas id es
numbered-later id Waiting es h n = absurd (false≢true h)
numbered-later id (Published i) es h n = rw (eqb-true i id h) at n.2
numbered-later id (Released i order) es h n = rw (eqb-true i id h) at n.2

here-dropped : (id : ℕ) (x : Entry) (es : Entries) → AreNumbered es → find_id id es ≡ Some x → here_ids (drop_id id es) ≡ without id (here_ids es)
here-dropped id x [] n is = (cc is)
here-dropped id x (e ∷ es) n is = elim (cases_Bool (has_id id e.1)) [
  | inl h ↦ rw h (sym (without-same id e.1.stage e.1.here (here_ids es) h (without-none id es (numbered-later id e.1.stage es h n.0))))
  | inr h ↦ rw h (ap (λ (t : List ℕ). here_part e.1 ++ t) (here-dropped id x es n.1 (rw h at is)) ∙ sym (without-other id e.1.stage e.1.here (here_ids es) h))
]

ids-released : (id order : ℕ) (s : Stage) (here : Bool) → stage_has id s ≡ true → cond here (id ∷ []) [] ≡ cond here (stage_ids s) []
ids-released id order Waiting here h = absurd (false≢true h)
ids-released id order (Published i) here h = rw (eqb-true i id h) refl
ids-released id order (Released i o) here h = rw (eqb-true i id h) refl

here-released : (id order : ℕ) (x : Entry) (es : Entries) → find_id id es ≡ Some x → here_ids (write_id (as_released id order) id es) ≡ here_ids es
here-released id order x es is = chosen-written here_part (as_released id order) id x es is (ids-released id order x.stage x.here (found-has id x es is))

here-away : (es : Entries) → here_ids (away es) ≡ []
here-away [] = refl
here-away (e ∷ es) = here-away es

-- ---- sends
nothing-here : (es : Entries) → AreAway es → here_ids es ≡ []
nothing-here [] h = refl
nothing-here (e ∷ es) h = rw h.0 (nothing-here es h.1)

ids-published : (s : Stage) → is_published s ≡ true → stage_ids s ≡ stage_id s ∷ []
ids-published Waiting h = absurd (false≢true h)
ids-published (Published id) h = refl
ids-published (Released id order) h = absurd (false≢true h)

waits-here : (s : Stage) (here : Bool) → waits s ≡ true → cond here (stage_ids s) [] ≡ []
waits-here Waiting true h = refl
waits-here s false h = refl
waits-here (Published id) true h = absurd (false≢true h)
waits-here (Released id order) true h = absurd (false≢true h)

here-resent : (now limit : ℕ) (s : Sent) (es : Entries) → AreLaid es → first_owed now limit es ≡ Some s → here_ids (after_resend now limit es) ≡ here_ids es ++ s.id ∷ []
here-resent now limit s [] h is = (cc is)
here-resent now limit s (e ∷ es) h is = elim (cases_Bool (is_owed e.1)) [
  | inl t ↦
      let p = and_parts (is_published e.1.stage) (not e.1.here) t in
      let apart : e.1.here ≡ false = not-true e.1.here p.1 in
      elim (cases_Bool (fits now limit e.1.delivery)) [
        | inl g ↦
            let f : Some (resent e.1) ≡ Some s = rw (t, g) at is in let same : resent e.1 ≡ s = cc in
            rw (t, g, apart, nothing-here es (h.1 t), ids-published e.1.stage p.0) (ap (λ (z : Sent). z.id ∷ []) same)
        | inr g ↦ rw (t, g, apart) (here-resent now limit s es h.2 (rw (t, g) at is))
      ]
  | inr t ↦ rw t (ap (λ (l : List ℕ). here_part e.1 ++ l) (here-resent now limit s es h.2 (rw t at is)) ∙ sym (append_assoc (here_part e.1) (here_ids es) (s.id ∷ [])))
]

here-unsent : (now limit : ℕ) (es : Entries) → first_owed now limit es ≡ None → here_ids (after_resend now limit es) ≡ here_ids es
here-unsent now limit [] is = refl
here-unsent now limit (e ∷ es) is = elim (cases_Bool (is_owed e.1)) [
  | inl t ↦
      let apart : e.1.here ≡ false = not-true e.1.here (and_parts (is_published e.1.stage) (not e.1.here) t).1 in
      elim (cases_Bool (fits now limit e.1.delivery)) [
        | inl g ↦ (let bad : Some (resent e.1) ≡ None = rw (t, g) at is in cc)
        | inr g ↦ rw (t, g, apart) (here-unsent now limit es (rw (t, g) at is))
      ]
  | inr t ↦ rw t (ap (λ (l : List ℕ). here_part e.1 ++ l) (here-unsent now limit es (rw t at is)))
]

-- ---- the calls
flying-acknowledge : (old new : Outbox) (id : ℕ) (a : Ack) → EndStep (is_acknowledged (find_id id old.copies)) old id a new → AreNumbered old.copies → flying_after (here_ids old.copies) (acknowledged id a) ≡ here_ids new.copies
flying-acknowledge old new id Done s n = let f = found-acknowledged (find_id id old.copies) s.0 in rw s.1 (sym (here-dropped id f.0 old.copies n f.1))
flying-acknowledge old new id Unknown s n = rw s.1 refl

flying-complete : (old new : Outbox) (id : ℕ) (a : Ack) → EndStep (is_completed (find_id id old.copies)) old id a new → AreNumbered old.copies → flying_after (here_ids old.copies) (completed id a) ≡ here_ids new.copies
flying-complete old new id Done s n = let f = found-completed (find_id id old.copies) s.0 in rw s.1 (sym (here-dropped id f.0 old.copies n f.1))
flying-complete old new id Unknown s n = rw s.1 refl

flying-received : (o : Option Entry) (old new : Outbox) (id reason : ℕ) (a : Rec) → find_id id old.copies ≡ o → ReceivedIf o old id reason a new → AreNumbered old.copies → flying_after (here_ids old.copies) (received id reason a) ≡ here_ids new.copies
flying-received None old new id reason a is s n = rw (s.0, s.1) refl
flying-received (Some x) old new id reason rec.Release is (inl s) n = rw s.3 (sym (here-released id old.next_order x old.copies is))
flying-received (Some x) old new id reason rec.Release is (inr s) n = rw s.1 refl
flying-received (Some x) old new id reason rec.Ended is s n = rw s.2 (sym (here-dropped id x old.copies n is))
flying-received (Some x) old new id reason rec.Unknown is s n = rw s.2 refl
flying-received (Some x) old new id reason rec.AtEnd is s n = rw s.3 refl

flying-next : (now limit : ℕ) (old new : Outbox) (a : Option Sent) → NextStep now limit old a new → AreLaid old.copies → flying_after (here_ids old.copies) (asked now limit a) ≡ here_ids new.copies
flying-next now limit old new None s h = elim s.step [
  | inl t ↦ rw t.1 refl
  | inr t ↦ elim t [
    | inl u ↦ rw u.3 (sym (here-unsent now limit old.copies u.1))
    | inr u ↦ rw (u.3, chosen-none_sent here_part now limit 0 (λ x w. waits-here x.stage x.here w) (after_resend now limit old.copies) u.2) (sym (here-unsent now limit old.copies u.1))
  ]
]
flying-next now limit old new (Some x) (inl s) h = rw s.left (sym (here-resent now limit x old.copies h s.sent))
flying-next now limit old new (Some x) (inr s) h =
    rw (s.left, chosen-first here_part (λ y w k. waits-here y.stage y.here w) now limit x.id x.copy (after_resend now limit old.copies) (laid-resent now limit old.copies h) s.sent, here-unsent now limit old.copies s.none_owed) refl

flying-offer : (old new : Outbox) (c : Delivery) (a : Offer) → OfferStep old c a new → here_ids old.copies ≡ here_ids new.copies
flying-offer old new c Queued s = rw s.2 (sym (chosen-offered here_part old.next_place c old.copies refl))
flying-offer old new c Full s = rw s.1 refl
flying-offer old new c AtEnd s = rw s.2 refl

-- the calls tell which PUBLISHes are on their way
pub flying-step : (old new : Outbox) (s : Step) → Takes old s new → AreLaid old.copies → AreNumbered old.copies → flying_after (here_ids old.copies) s ≡ here_ids new.copies
flying-step old new (offered c a) s h n = flying-offer old new c a s
flying-step old new (acknowledged id a) s h n = flying-acknowledge old new id a s n
flying-step old new (completed id a) s h n = flying-complete old new id a s n
flying-step old new (received id reason a) s h n = flying-received _ old new id reason a refl s n
flying-step old new (resumed maximum) s h n = rw s (sym (here-away old.copies))
flying-step old new (listed ids) s h n = rw s.1 refl
flying-step old new (asked now limit a) s h n = flying-next now limit old new a s h
flying-step old new lost s h n = rw s (sym (here-away old.copies))

-- ---- the Receive Maximum
maximum-offer : (old new : Outbox) (c : Delivery) (a : Offer) → OfferStep old c a new → old.maximum ≡ new.maximum
maximum-offer old new c Queued s = rw s.2 refl
maximum-offer old new c Full s = rw s.1 refl
maximum-offer old new c AtEnd s = rw s.2 refl

maximum-end : (ends : Bool) (old new : Outbox) (id : ℕ) (a : Ack) → EndStep ends old id a new → old.maximum ≡ new.maximum
maximum-end ends old new id Done s = rw s.1 refl
maximum-end ends old new id Unknown s = rw s.1 refl

maximum-received : (o : Option Entry) (old new : Outbox) (id reason : ℕ) (a : Rec) → ReceivedIf o old id reason a new → old.maximum ≡ new.maximum
maximum-received None old new id reason a s = rw s.1 refl
maximum-received (Some x) old new id reason rec.Release (inl s) = rw s.3 refl
maximum-received (Some x) old new id reason rec.Release (inr s) = rw s.1 refl
maximum-received (Some x) old new id reason rec.Ended s = rw s.2 refl
maximum-received (Some x) old new id reason rec.Unknown s = rw s.2 refl
maximum-received (Some x) old new id reason rec.AtEnd s = rw s.3 refl

maximum-next : (now limit : ℕ) (old new : Outbox) (a : Option Sent) → NextStep now limit old a new → old.maximum ≡ new.maximum
maximum-next now limit old new None s = elim s.step [
  | inl t ↦ rw t.1 refl
  | inr t ↦ elim t [ inl u ↦ rw u.3 refl | inr u ↦ rw u.3 refl ]
]
maximum-next now limit old new (Some x) (inl s) = rw s.left refl
maximum-next now limit old new (Some x) (inr s) = rw s.left refl

pub maximum-step : (old new : Outbox) (s : Step) → Takes old s new → maximum_after old.maximum s ≡ new.maximum
maximum-step old new (offered c a) s = maximum-offer old new c a s
maximum-step old new (acknowledged id a) s = maximum-end _ old new id a s
maximum-step old new (completed id a) s = maximum-end _ old new id a s
maximum-step old new (received id reason a) s = maximum-received _ old new id reason a s
maximum-step old new (resumed maximum) s = rw s refl
maximum-step old new (listed ids) s = rw s.1 refl
maximum-step old new (asked now limit a) s = maximum-next now limit old new a s
maximum-step old new lost s = rw s refl

-- ---- the law of quota
count-here : (s : Stage) (here : Bool) → (waits s ≡ true → here ≡ false) → cond here 1 0 ≡ length (cond here (stage_ids s) [])
count-here Waiting true h = let bad : true ≡ false = h refl in absurd (false≢true (sym bad))
count-here (Published id) true h = refl
count-here (Released id order) true h = refl
count-here s false h = refl

length-both : (xs ys : List ℕ) → length (xs ++ ys) ≡ length xs + length ys
length-both [] ys = omega arith
length-both (x ∷ xs) ys = omega (arith, length-both xs ys)

pub in_flight-here : (es : Entries) → AreLaid es → in_flight es ≡ length (here_ids es)
in_flight-here [] h = refl
in_flight-here (e ∷ es) h = omega (arith, count-here e.1.stage e.1.here (λ w. (h.0 w).0), in_flight-here es h.2, length-both (here_part e.1) (here_ids es))

within-run : (start : Outbox) (steps : List Step) (end : Outbox) → Run start steps end → AreLaid start.copies → AreNumbered start.copies → WithinQuota start → FliesWithin (here_ids start.copies) start.maximum steps
within-run start [] end r h n q = tt
within-run start (s ∷ ss) end r h n q =
    let laid = laid-step start r.0 s r.1 h in
    let within = quota-step start r.0 s r.1 q in
    rw (flying-step start r.0 s r.1 h n, maximum-step start r.0 s r.1)
    (omega (arith, within, in_flight-here r.0.copies laid), within-run r.0 ss end r.2 laid (numbered-step start r.0 s r.1 n) within)

pub keeps_within : KeepsWithin
keeps_within = λ steps end r. within-run empty_outbox steps end r tt tt (omega arith)

-- ---- no quota idle
nothing-waiting : (now limit id : ℕ) (es : Entries) → first_waiting now limit es ≡ None → waiting (after_send now limit id es) ≡ []
nothing-waiting now limit id [] is = refl
nothing-waiting now limit id (e ∷ es) is = elim (cases_Bool (waits e.1.stage)) [
  | inl t ↦ elim (cases_Bool (is_sendable now limit e.1.delivery)) [
    | inl g ↦ (let bad : Some e.1.delivery ≡ None = rw (t, g) at is in cc)
    | inr g ↦ rw (t, g) (nothing-waiting now limit id es (rw (t, g) at is))
  ]
  | inr t ↦ rw (t, t) (nothing-waiting now limit id es (rw t at is))
]

pub busy-next : (now limit : ℕ) (old new : Outbox) → NextStep now limit old None new → CannotSend new
busy-next now limit old new s = elim s.step [
  | inl t ↦ rw t.1 (inl t.0)
  | inr t ↦ elim t [
    | inl u ↦ rw u.3 (inr (nothing-owed (after_resend now limit old.copies) (none-owed now limit old.copies u.1), inl u.2))
    | inr u ↦ rw u.3 (inr (
      owed-first now limit 0 (after_resend now limit old.copies) ∙ nothing-owed (after_resend now limit old.copies) (none-owed now limit old.copies u.1),
      inr (nothing-waiting now limit 0 (after_resend now limit old.copies) u.2),
    ))
  ]
]

pub keeps_busy : KeepsBusy
keeps_busy = λ steps now limit end r.
    let t = run-split empty_outbox steps (asked now limit None ∷ []) end r in rw t.2.2 (busy-next now limit t.0 t.2.0 t.2.1)
