-- Resends, in order and before first sends.
use Rattle.std.proofs.Common.{◌≡◌, ℕ, ◌<◌, Bool, true, false, not, List, [], ◌∷◌, ◌++◌, Option, Some, None, refl, sym, ◌∙◌, ap, inl, inr, append_assoc}
use Rattle.std.specs.List.{AllByRecursion}
use Rattle.std.proofs.lemmas.Bool.{cases_Bool, and_parts, leb-false, eqb-true, false≢true}
use Rattle.qos_handshakes.specs.declared.answers.Offer.{Offer}
use Rattle.qos_handshakes.specs.declared.answers.Offer.TheVariants.{Queued, Full, AtEnd}
use Rattle.qos_handshakes.specs.declared.answers.Ack.{Ack}
use Rattle.qos_handshakes.specs.declared.answers.Ack.TheVariants.{Done, Unknown}
use Rattle.qos_handshakes.specs.declared.answers.Rec.{Rec}
use Rattle.qos_handshakes.specs.declared.answers.Rec.TheVariants as rec
use Rattle.qos_handshakes.specs.declared.copies.Entry.{Entry}
use Rattle.qos_handshakes.specs.declared.copies.Stage.{Stage}
use Rattle.qos_handshakes.specs.declared.copies.Stage.TheVariants.{Waiting, Published, Released}
use Rattle.mqtt_fields.specs.declared.options.Qos.{Qos}
use Rattle.mqtt_fields.specs.declared.options.Qos.TheVariants.{AtMostOnce, AtLeastOnce, ExactlyOnce}
use Rattle.mqtt_message.specs.declared.delivery.Delivery.{Delivery}
use Rattle.qos_handshakes.specs.Length.{length_of}
use Rattle.qos_handshakes.specs.Entries.{Entries, stage_has, has_id, find_id, as_released}
use Rattle.qos_handshakes.specs.Outbox.{Outbox, Sent, waits, away, is_released, is_owed, is_published, is_acknowledged, is_completed, takes_puback, fits, resent, first_owed, after_resend, after_send, NextStep, OfferStep, EndStep, ReceivedIf, empty_outbox}
use Rattle.law_handshakes.specs.Runs.{Step, offered, acknowledged, completed, received, resumed, listed, asked, lost, Takes, Run}
use Rattle.law_handshakes.specs.Lists.{Without}
use Rattle.law_handshakes.specs.Resends.{SentCopy, first_publication, resent_publication, first_sends_of, resends_of, all_first_sends, all_resends, Answers, AnsweredIn, published_part, owed_part, published, owed, StaysConnected, KeepsResendsInOrder, sent_after, ResendsComeFirst, KeepsResendsFirst}
use Rattle.law_handshakes.proofs.ChosenLaws.{without-refl, without-same, both-nil, without-then, append-nil, without-trans, nothing-left, chosen-offered, chosen-dropped, without-dropped, without-written, chosen-away, without-resent, chosen-sent, chosen-none_sent, without-after}
use Rattle.law_handshakes.proofs.OrderLaws.{resent-dup, run-split}
use Rattle.law_handshakes.proofs.LaidLaws.{AreLaid, none-owed, laid-resent, laid-step, chosen-first}
use Rattle.qos_handshakes.proofs.EntryLaws.{NoneOwed, waits-owed}

-- ---- the parts of one entry
-- an entry found by an identifier has it
pub found-has : (id : ℕ) (x : Entry) (es : Entries) → find_id id es ≡ Some x → has_id id x ≡ true
found-has id x [] is = (cc is)
found-has id x (e ∷ es) is = elim (cases_Bool (has_id id e.1)) [
  | inl h ↦ let f : Some e.1 ≡ Some x = rw h at is in let g : e.1 ≡ x = cc in rw (← g) h
  | inr h ↦ found-has id x es (rw h at is)
]

-- every publication has this identifier
abbrev pub Under : ℕ → SentCopy → Type 0
Under id x = x.0 ≡ id

published-under : (id : ℕ) (s : Stage) (here : Bool) (c : Delivery) → stage_has id s ≡ true → AllByRecursion (Under id) (published_part (record { stage = s; here = here; delivery = c }))
published-under id Waiting here c h = tt
published-under id (Published i) here c h = (eqb-true i id h, tt)
published-under id (Released i order) here c h = tt

owed-under : (id : ℕ) (s : Stage) (here : Bool) (c : Delivery) → stage_has id s ≡ true → AllByRecursion (Under id) (owed_part (record { stage = s; here = here; delivery = c }))
owed-under id Waiting here c h = tt
owed-under id (Published i) true c h = tt
owed-under id (Published i) false c h = (eqb-true i id h, tt)
owed-under id (Released i order) here c h = tt

taken : (q : Qos) (s : Stage) → takes_puback q s ≡ true → is_published s ≡ true
taken AtMostOnce s h = absurd (false≢true h)
taken AtLeastOnce Waiting h = absurd (false≢true h)
taken AtLeastOnce (Published id) h = refl
taken AtLeastOnce (Released id order) h = absurd (false≢true h)
taken ExactlyOnce s h = absurd (false≢true h)

-- the answer that ends an exchange finds it
pub found-acknowledged : (o : Option Entry) → is_acknowledged o ≡ true → (x : Entry) × (o ≡ Some x) × (is_published x.stage ≡ true)
found-acknowledged None h = absurd (false≢true h)
found-acknowledged (Some x) h = (x, refl, taken x.delivery.qos x.stage h)

pub found-completed : (o : Option Entry) → is_completed o ≡ true → (x : Entry) × (o ≡ Some x) × (is_released x.stage ≡ true)
found-completed None h = absurd (false≢true h)
found-completed (Some x) h = (x, refl, h)

-- ---- what is owed
owed-released : (s : Stage) (here : Bool) (c : Delivery) → is_released s ≡ true → owed_part (record { stage = s; here = here; delivery = c }) ≡ []
owed-released Waiting here c h = refl
owed-released (Published id) here c h = absurd (false≢true h)
owed-released (Released id order) here c h = refl

-- a resend is not sent where it is too large
abbrev pub TooLarge : ℕ → ℕ → SentCopy → Type 0
TooLarge now limit x = limit < length_of now x.1

pub owed-sent : (now limit : ℕ) (s : Sent) (es : Entries) → first_owed now limit es ≡ Some s → Without (TooLarge now limit) (owed es) ((s.id, s.copy) ∷ owed (after_resend now limit es))
owed-sent now limit s [] is = (cc is)
owed-sent now limit s (e ∷ es) is = elim (cases_Bool (is_owed e.1)) [
  | inl h ↦
      let p = (and_parts (is_published e.1.stage) (not e.1.here) h).0 in
      elim (cases_Bool (fits now limit e.1.delivery)) [
        | inl g ↦
            let f : Some (resent e.1) ≡ Some s = rw (h, g) at is in let same : s ≡ resent e.1 = cc in
            rw (h, g, p) (inr (owed es, ap (λ (z : Sent). (z.id, z.copy) ∷ owed es) same, without-refl (TooLarge now limit) (owed es)))
        | inr g ↦ rw (h, g) (inl (leb-false (length_of now e.1.delivery) limit g, owed-sent now limit s es (rw (h, g) at is)))
      ]
  | inr h ↦ rw (h, h) (owed-sent now limit s es (rw h at is))
]

pub owed-unsent : (now limit : ℕ) (es : Entries) → first_owed now limit es ≡ None → Without (TooLarge now limit) (owed es) (owed (after_resend now limit es))
owed-unsent now limit [] is = refl
owed-unsent now limit (e ∷ es) is = elim (cases_Bool (is_owed e.1)) [
  | inl h ↦ elim (cases_Bool (fits now limit e.1.delivery)) [
    | inl g ↦ (let bad : Some (resent e.1) ≡ None = rw (h, g) at is in cc)
    | inr g ↦ rw (h, g) (inl (leb-false (length_of now e.1.delivery) limit g, owed-unsent now limit es (rw (h, g) at is)))
  ]
  | inr h ↦ rw (h, h) (owed-unsent now limit es (rw h at is))
]

pub nothing-owed : (es : Entries) → NoneOwed es → owed es ≡ []
nothing-owed [] h = refl
nothing-owed (e ∷ es) h = rw h.0 (nothing-owed es h.1)

owed-waits : (x : Entry) → waits x.stage ≡ true → owed_part x ≡ []
owed-waits x w = rw (waits-owed x w) refl

-- a first send owes nothing
pub owed-first : (now limit id : ℕ) (es : Entries) → owed (after_send now limit id es) ≡ owed es
owed-first now limit id es = chosen-sent owed_part now limit id owed-waits (λ x. refl) es

owed-offer : (old new : Outbox) (c : Delivery) (a : Offer) → OfferStep old c a new → owed new.copies ≡ owed old.copies
owed-offer old new c Queued s = rw s.2 (chosen-offered owed_part old.next_place c old.copies refl)
owed-offer old new c Full s = rw s.1 refl
owed-offer old new c AtEnd s = rw s.2 refl

owed-acknowledge : (old new : Outbox) (id : ℕ) (a : Ack) → EndStep (is_acknowledged (find_id id old.copies)) old id a new → Without (Answers (acknowledged id a)) (owed old.copies) (owed new.copies)
owed-acknowledge old new id Done s =
    let f = found-acknowledged (find_id id old.copies) s.0 in
    rw s.1 (without-dropped (Under id) owed_part id f.0 old.copies f.1 (owed-under id f.0.stage f.0.here f.0.delivery (found-has id f.0 old.copies f.1)))
owed-acknowledge old new id Unknown s = rw s.1 (without-refl _ (owed old.copies))

owed-complete : (old new : Outbox) (id : ℕ) (a : Ack) → EndStep (is_completed (find_id id old.copies)) old id a new → owed new.copies ≡ owed old.copies
owed-complete old new id Done s =
    let f = found-completed (find_id id old.copies) s.0 in rw s.1 (chosen-dropped owed_part id f.0 old.copies f.1 (owed-released f.0.stage f.0.here f.0.delivery f.2))
owed-complete old new id Unknown s = rw s.1 refl

owed-received : (o : Option Entry) (old new : Outbox) (id reason : ℕ) (a : Rec) → find_id id old.copies ≡ o → ReceivedIf o old id reason a new → Without (Answers (received id reason a)) (owed old.copies) (owed new.copies)
owed-received None old new id reason a is s = rw s.1 (without-refl _ (owed old.copies))
owed-received (Some x) old new id reason rec.Release is (inl s) =
    rw s.3 (without-written (Under id) owed_part (as_released id old.next_order) id x old.copies is refl (owed-under id x.stage x.here x.delivery (found-has id x old.copies is)))
owed-received (Some x) old new id reason rec.Release is (inr s) = rw s.1 (without-refl (Under id) (owed old.copies))
owed-received (Some x) old new id reason rec.Ended is s =
    rw s.2 (without-dropped (Under id) owed_part id x old.copies is (owed-under id x.stage x.here x.delivery (found-has id x old.copies is)))
owed-received (Some x) old new id reason rec.Unknown is s = rw s.2 (without-refl _ (owed old.copies))
owed-received (Some x) old new id reason rec.AtEnd is s = rw s.3 (without-refl _ (owed old.copies))

owed-next : (now limit : ℕ) (old new : Outbox) (a : Option Sent) → NextStep now limit old a new → Without (TooLarge now limit) (owed old.copies) (resent_publication a ++ owed new.copies)
owed-next now limit old new None s = elim s.step [
  | inl t ↦ rw t.1 (without-refl (TooLarge now limit) (owed old.copies))
  | inr t ↦ elim t [
    | inl u ↦ rw u.3 (owed-unsent now limit old.copies u.1)
    | inr u ↦ rw (u.3, owed-first now limit 0 (after_resend now limit old.copies)) (owed-unsent now limit old.copies u.1)
  ]
]
owed-next now limit old new (Some x) (inl s) = rw (resent-dup now limit x old.copies s.sent, s.left) (owed-sent now limit x old.copies s.sent)
owed-next now limit old new (Some x) (inr s) = rw (s.first, s.left, owed-first now limit x.id (after_resend now limit old.copies)) (owed-unsent now limit old.copies s.none_owed)

-- what is sent again and what is still owed was owed, in order
pub owed-step : (old new : Outbox) (s : Step) → StaysConnected s → Takes old s new → Without (Answers s) (owed old.copies) (resends_of s ++ owed new.copies)
owed-step old new (offered c a) k s = without-same _ _ _ (owed-offer old new c a s)
owed-step old new (acknowledged id a) k s = owed-acknowledge old new id a s
owed-step old new (completed id a) k s = without-same _ _ _ (owed-complete old new id a s)
owed-step old new (received id reason a) k s = owed-received _ old new id reason a refl s
owed-step old new (resumed maximum) k s = absurd k
owed-step old new (listed ids) k s = rw s.1 (without-refl _ (owed old.copies))
owed-step old new (asked now limit a) k s = owed-next now limit old new a s
owed-step old new lost k s = absurd k

owed-run : (start : Outbox) (steps : List Step) (end : Outbox) → AllByRecursion StaysConnected steps → Run start steps end → Without (AnsweredIn steps) (owed start.copies) (all_resends steps ++ owed end.copies)
owed-run start [] end k r = rw r (without-refl _ (owed start.copies))
owed-run start (s ∷ ss) end k r =
    rw (append_assoc (resends_of s) (all_resends ss) (owed end.copies), ← append-nil (owed start.copies))
    (without-then (Answers s) (AnsweredIn ss) (AnsweredIn (s ∷ ss)) (λ x p. inl p) (λ x q. inr q) (owed start.copies) [] (resends_of s) (owed r.0.copies) (all_resends ss ++ owed end.copies)
    (owed-step start r.0 s k.0 r.1) (rw (← append-nil (owed r.0.copies)) at (owed-run r.0 ss end k.1 r.2)))

-- ---- what was sent first
published-released : (s : Stage) (here : Bool) (c : Delivery) → is_released s ≡ true → published_part (record { stage = s; here = here; delivery = c }) ≡ []
published-released Waiting here c h = refl
published-released (Published id) here c h = absurd (false≢true h)
published-released (Released id order) here c h = refl

pub published-waits : (s : Stage) (here : Bool) (c : Delivery) → waits s ≡ true → published_part (record { stage = s; here = here; delivery = c }) ≡ []
published-waits Waiting here c h = refl
published-waits (Published id) here c h = absurd (false≢true h)
published-waits (Released id order) here c h = absurd (false≢true h)

published-large : (now limit : ℕ) (x : Entry) → fits now limit x.delivery ≡ false → AllByRecursion (TooLarge now limit) (published_part x)
published-large now limit x h = elim (cases_Bool (is_published x.stage)) [
  | inl t ↦ rw t (leb-false (length_of now x.delivery) limit h, tt)
  | inr f ↦ rw f tt
]

pub published-resent : (now limit : ℕ) (es : Entries) → Without (TooLarge now limit) (published es) (published (after_resend now limit es))
published-resent now limit es = without-resent (TooLarge now limit) published_part now limit (λ x. refl) (published-large now limit) es

published-quiet : (P : SentCopy → Type 0) (old new : Entries) → published new ≡ published old → Without P (published old ++ []) (published new)
published-quiet P old new e = without-same P (published old ++ []) (published new) (e ∙ sym (append-nil (published old)))

published-offer : (old new : Outbox) (c : Delivery) (a : Offer) → OfferStep old c a new → published new.copies ≡ published old.copies
published-offer old new c Queued s = rw s.2 (chosen-offered published_part old.next_place c old.copies refl)
published-offer old new c Full s = rw s.1 refl
published-offer old new c AtEnd s = rw s.2 refl

published-acknowledge : (old new : Outbox) (id : ℕ) (a : Ack) → EndStep (is_acknowledged (find_id id old.copies)) old id a new → Without (Answers (acknowledged id a)) (published old.copies) (published new.copies)
published-acknowledge old new id Done s =
    let f = found-acknowledged (find_id id old.copies) s.0 in
    rw s.1 (without-dropped (Under id) published_part id f.0 old.copies f.1 (published-under id f.0.stage f.0.here f.0.delivery (found-has id f.0 old.copies f.1)))
published-acknowledge old new id Unknown s = rw s.1 (without-refl _ (published old.copies))

published-complete : (old new : Outbox) (id : ℕ) (a : Ack) → EndStep (is_completed (find_id id old.copies)) old id a new → published new.copies ≡ published old.copies
published-complete old new id Done s =
    let f = found-completed (find_id id old.copies) s.0 in rw s.1 (chosen-dropped published_part id f.0 old.copies f.1 (published-released f.0.stage f.0.here f.0.delivery f.2))
published-complete old new id Unknown s = rw s.1 refl

published-received : (o : Option Entry) (old new : Outbox) (id reason : ℕ) (a : Rec) → find_id id old.copies ≡ o → ReceivedIf o old id reason a new → Without (Answers (received id reason a)) (published old.copies) (published new.copies)
published-received None old new id reason a is s = rw s.1 (without-refl _ (published old.copies))
published-received (Some x) old new id reason rec.Release is (inl s) =
    rw s.3 (without-written (Under id) published_part (as_released id old.next_order) id x old.copies is refl (published-under id x.stage x.here x.delivery (found-has id x old.copies is)))
published-received (Some x) old new id reason rec.Release is (inr s) = rw s.1 (without-refl (Under id) (published old.copies))
published-received (Some x) old new id reason rec.Ended is s =
    rw s.2 (without-dropped (Under id) published_part id x old.copies is (published-under id x.stage x.here x.delivery (found-has id x old.copies is)))
published-received (Some x) old new id reason rec.Unknown is s = rw s.2 (without-refl _ (published old.copies))
published-received (Some x) old new id reason rec.AtEnd is s = rw s.3 (without-refl _ (published old.copies))

published-next : (now limit : ℕ) (old new : Outbox) (a : Option Sent) → NextStep now limit old a new → AreLaid old.copies → Without (TooLarge now limit) (published old.copies ++ first_publication a) (published new.copies)
published-next now limit old new None s h = elim s.step [
  | inl t ↦ rw t.1 (published-quiet (TooLarge now limit) old.copies old.copies refl)
  | inr t ↦ elim t [
    | inl u ↦ rw (u.3, append-nil (published old.copies)) (published-resent now limit old.copies)
    | inr u ↦ rw (u.3, append-nil (published old.copies), chosen-none_sent published_part now limit 0 (λ x w. published-waits x.stage x.here x.delivery w) (after_resend now limit old.copies) u.2) (published-resent now limit old.copies)
  ]
]
published-next now limit old new (Some x) (inl s) h = rw (resent-dup now limit x old.copies s.sent, s.left, append-nil (published old.copies)) (published-resent now limit old.copies)
published-next now limit old new (Some x) (inr s) h =
    rw (s.first, s.left, chosen-first published_part (λ y w k. published-waits y.stage y.here y.delivery w) now limit x.id x.copy (after_resend now limit old.copies) (laid-resent now limit old.copies h) s.sent)
    (without-after (TooLarge now limit) (published old.copies) (published (after_resend now limit old.copies)) ((x.id, x.copy) ∷ []) (published-resent now limit old.copies))

-- what was sent first and is not answered, in order
pub published-step : (old new : Outbox) (s : Step) → Takes old s new → AreLaid old.copies → Without (Answers s) (published old.copies ++ first_sends_of s) (published new.copies)
published-step old new (offered c a) s h = published-quiet _ old.copies new.copies (published-offer old new c a s)
published-step old new (acknowledged id a) s h = rw (append-nil (published old.copies)) (published-acknowledge old new id a s)
published-step old new (completed id a) s h = published-quiet _ old.copies new.copies (published-complete old new id a s)
published-step old new (received id reason a) s h = rw (append-nil (published old.copies)) (published-received _ old new id reason a refl s)
published-step old new (resumed maximum) s h = rw s (published-quiet _ old.copies (away old.copies) (chosen-away published_part published_part (λ x. refl) old.copies))
published-step old new (listed ids) s h = rw s.1 (published-quiet _ old.copies old.copies refl)
published-step old new (asked now limit a) s h = published-next now limit old new a s h
published-step old new lost s h = rw s (published-quiet _ old.copies (away old.copies) (chosen-away published_part published_part (λ x. refl) old.copies))

published-run : (start : Outbox) (steps : List Step) (end : Outbox) → Run start steps end → AreLaid start.copies → Without (AnsweredIn steps) (published start.copies ++ all_first_sends steps) (published end.copies)
published-run start [] end r h = rw r (published-quiet _ start.copies start.copies refl)
published-run start (s ∷ ss) end r h =
    rw (← append_assoc (published start.copies) (first_sends_of s) (all_first_sends ss))
    (without-then (Answers s) (AnsweredIn ss) (AnsweredIn (s ∷ ss)) (λ x p. inl p) (λ x q. inr q) (published start.copies ++ first_sends_of s) (all_first_sends ss) [] (published r.0.copies) (published end.copies)
    (published-step start r.0 s r.1 h) (published-run r.0 ss end r.2 (laid-step start r.0 s r.1 h)))

-- ---- the law of order
answered-before : (before here : List Step) (x : SentCopy) → AnsweredIn before x → AnsweredIn (before ++ here) x
answered-before [] here x h = absurd h
answered-before (s ∷ before) here x (inl h) = inl h
answered-before (s ∷ before) here x (inr h) = inr (answered-before before here x h)

answered-here : (before here : List Step) (x : SentCopy) → AnsweredIn here x → AnsweredIn (before ++ here) x
answered-here [] here x h = h
answered-here (s ∷ before) here x h = inr (answered-here before here x h)

-- a new connection owes every exchange without PUBREC
owed-away : (x : Entry) → owed_part (record x { here = false }) ≡ published_part x
owed-away x = elim (cases_Bool (is_published x.stage)) [ inl h ↦ rw h refl | inr h ↦ rw h refl ]

pub keeps_resends_in_order : KeepsResendsInOrder
keeps_resends_in_order = λ before here maximum end stays r.
    let t = run-split empty_outbox before (resumed maximum ∷ here) end r in
    let begun = t.2 in
    let owes : owed begun.0.copies ≡ published t.0.copies = ap (λ (o : Outbox). owed o.copies) begun.1 ∙ chosen-away owed_part published_part owed-away t.0.copies in
    without-trans (AnsweredIn before) (AnsweredIn here) (AnsweredIn (before ++ here)) (answered-before before here) (answered-here before here) (all_first_sends before) (published t.0.copies) (all_resends here ++ owed end.copies)
    (published-run empty_outbox before t.0 t.1 tt) (rw (← owes) (owed-run begun.0 here end stays begun.2))

-- ---- the law that resends come first
none-first : (sent : Bool) (old new : Outbox) (s : Step) → StaysConnected s → Takes old s new → (sent ≡ true → owed old.copies ≡ []) → sent ≡ true → (resends_of s ≡ []) × (owed new.copies ≡ [])
none-first sent old new s k t none is = both-nil (resends_of s) (owed new.copies) (nothing-left (Answers s) (owed old.copies) (resends_of s ++ owed new.copies) (none is) (owed-step old new s k t))

first-step : (sent : Bool) (old new : Outbox) (s : Step) → Takes old s new → (sent ≡ true → owed old.copies ≡ []) → (sent ≡ true → resends_of s ≡ []) × (sent_after sent s ≡ true → owed new.copies ≡ [])
first-step sent old new (offered c a) s none = (λ t. refl, λ t. (none-first sent old new (offered c a) tt s none t).1)
first-step sent old new (acknowledged id a) s none = (λ t. refl, λ t. (none-first sent old new (acknowledged id a) tt s none t).1)
first-step sent old new (completed id a) s none = (λ t. refl, λ t. (none-first sent old new (completed id a) tt s none t).1)
first-step sent old new (received id reason a) s none = (λ t. refl, λ t. (none-first sent old new (received id reason a) tt s none t).1)
first-step sent old new (resumed maximum) s none = (λ t. refl, λ t. absurd (false≢true t))
first-step sent old new (listed ids) s none = (λ t. refl, λ t. (none-first sent old new (listed ids) tt s none t).1)
first-step sent old new (asked now limit None) s none = (λ t. refl, λ t. (none-first sent old new (asked now limit None) tt s none t).1)
first-step sent old new (asked now limit (Some x)) (inl s) none =
    let h = none-first sent old new (asked now limit (Some x)) tt (inl s) none in
    (λ t. (h t).0, λ t. (h (rw (resent-dup now limit x old.copies s.sent) at t)).1)
first-step sent old new (asked now limit (Some x)) (inr s) none = (
  λ t. rw s.first refl,
  λ t. rw (s.left, owed-first now limit x.id (after_resend now limit old.copies)) (nothing-owed (after_resend now limit old.copies) (none-owed now limit old.copies s.none_owed)),
)
first-step sent old new lost s none = (λ t. refl, λ t. absurd (false≢true t))

first-run : (sent : Bool) (start : Outbox) (steps : List Step) (end : Outbox) → Run start steps end → (sent ≡ true → owed start.copies ≡ []) → ResendsComeFirst sent steps
first-run sent start [] end r none = tt
first-run sent start (s ∷ ss) end r none = let t = first-step sent start r.0 s r.1 none in (t.0, first-run (sent_after sent s) r.0 ss end r.2 t.1)

pub keeps_resends_first : KeepsResendsFirst
keeps_resends_first = λ steps end r. first-run false empty_outbox steps end r (λ _. refl)
