-- What is told of an exchange is what the session holds.
use Rattle.std.proofs.Common.{◌≡◌, ◌≢◌, ℕ, ◌<◌, true, false, cond, List, [], ◌∷◌, ◌++◌, Option, Some, None, refl, sym, ◌∙◌, ap, inl, inr}
use Rattle.std.specs.Prelude.{◌==◌, ◌&&◌, not}
use Rattle.std.specs.List.{AllByRecursion}
use Rattle.std.proofs.lemmas.Bool.{cases_Bool, cases_eq, eqb-true, eq-eqb, ne_eqb, both_ways, and_parts, false≢true, lt-ltb}
use Rattle.mqtt_fields.specs.declared.options.Qos.{Qos}
use Rattle.mqtt_fields.specs.declared.options.Qos.TheVariants.{AtMostOnce, AtLeastOnce, ExactlyOnce}
use Rattle.mqtt_message.specs.declared.delivery.Delivery.{Delivery}
use Rattle.qos_handshakes.specs.declared.answers.Offer.{Offer}
use Rattle.qos_handshakes.specs.declared.answers.Offer.TheVariants.{Queued, Full, AtEnd}
use Rattle.qos_handshakes.specs.declared.answers.Ack.{Ack}
use Rattle.qos_handshakes.specs.declared.answers.Ack.TheVariants.{Done, Unknown}
use Rattle.qos_handshakes.specs.declared.answers.Rec.{Rec}
use Rattle.qos_handshakes.specs.declared.answers.Rec.TheVariants as rec
use Rattle.qos_handshakes.specs.declared.copies.Entry.{Entry}
use Rattle.qos_handshakes.specs.declared.copies.Stage.{Stage}
use Rattle.qos_handshakes.specs.declared.copies.Stage.TheVariants.{Waiting, Published, Released}
use Rattle.qos_handshakes.specs.Entries.{Entries, stage_has, has_id, find_id, drop_id, write_id, as_released, as_published}
use Rattle.qos_handshakes.specs.Outbox.{Outbox, Sent, OfferStep, NextStep, EndStep, ReceivedIf, waiting_entry, waits, is_owed, is_published, is_released, takes_puback, takes_pubrec, is_acknowledged, is_completed, stage_id, fits, is_sendable, resent, first_owed, after_resend, first_waiting, after_send, away, empty_outbox}
use Rattle.qos_handshakes.proofs.Indexed.{waits-has}
use Rattle.law_handshakes.specs.Runs as low
use Rattle.law_handshakes.specs.Runs.{offered, acknowledged, completed, received, resumed, listed, asked, lost, Takes}
use Rattle.law_handshakes.specs.Numbers.{AreNumbered}
use Rattle.law_handshakes.proofs.NumberLaws.{numbered-step}
use Rattle.law_handshakes.proofs.OpenLaws.{none-dropped}
use Rattle.law_handshakes.proofs.OrderLaws.{resent-dup}
use Rattle.law_handshakes.proofs.QuotaLaws.{numbered-later}
use Rattle.mqtt_sessions.specs.State.{State, new_session}
use Rattle.law_sessions.specs.Runs.{Step, Run}
use Rattle.law_sessions.specs.Sends.{Mark, all_marks}
use Rattle.law_sessions.specs.Exchanges.{Exchange, none, published, released, after_puback, after_pubrec, after_pubcomp, exchange_after, exchange_over, AllResends, KeepsResends}
use Rattle.law_sessions.proofs.LiftLaws.{marks-then, whole}
use Rattle.law_sessions.proofs.CallLaws.{Call, call_marks, HasNumbers}

-- the exchange that an entry is
abbrev pub exchange_at : Stage → Delivery → Exchange
exchange_at Waiting d = none
exchange_at (Published id) d = published d
exchange_at (Released id order) d = released

abbrev pub exchange_of : Entry → Exchange
exchange_of e = exchange_at e.stage e.delivery

-- an entry of the identifier is the exchange that is told
abbrev pub IsTold : ℕ → Exchange → Entries → Type 0
IsTold id x es = (e : Entry) → find_id id es ≡ Some e → x ≡ exchange_of e

-- an entry that is found after a change was there before it, as the same exchange
abbrev Was : ℕ → Entries → Entry → Type 0
Was id es f = (e : Entry) × (find_id id es ≡ Some e) × (exchange_of f ≡ exchange_of e)

still : (id : ℕ) (x : Exchange) (es fs : Entries) → ((f : Entry) → find_id id fs ≡ Some f → Was id es f) → IsTold id x es → IsTold id x fs
still id x es fs was h = λ f at_f. let w = was f at_f in h w.0 w.1 ∙ sym w.2

same-told : (id : ℕ) (x : Exchange) (es fs : Entries) → find_id id fs ≡ find_id id es → IsTold id x es → IsTold id x fs
same-told id x es fs same h = λ f at_f. h f (sym same ∙ at_f)

no-more : (id : ℕ) (x : Exchange) (fs : Entries) → find_id id fs ≡ None → IsTold id x fs
no-more id x fs gone = λ f at_f. (let bad : None ≡ Some f = sym gone ∙ at_f in cc)

-- ---- finding
find-pushed : (id place : ℕ) (c : Delivery) (es : Entries) → find_id id (es ++ (place, waiting_entry c) ∷ []) ≡ find_id id es
find-pushed id place c [] = refl
find-pushed id place c (e ∷ es) = elim (cases_Bool (has_id id e.1)) [ inl h ↦ rw h refl | inr h ↦ rw h (find-pushed id place c es) ]

other-stage : (id i : ℕ) (s : Stage) → i ≢ id → stage_has i s ≡ true → stage_has id s ≡ false
other-stage id i Waiting ne h = refl
other-stage id i (Published k) ne h = ne_eqb k id (λ same. ne (sym (eqb-true k i h) ∙ same))
other-stage id i (Released k order) ne h = ne_eqb k id (λ same. ne (sym (eqb-true k i h) ∙ same))

find-dropped : (id i : ℕ) (es : Entries) → i ≢ id → find_id id (drop_id i es) ≡ find_id id es
find-dropped id i [] ne = refl
find-dropped id i (e ∷ es) ne = elim (cases_Bool (has_id i e.1)) [
  | inl h ↦ rw (h, other-stage id i e.1.stage ne h) refl
  | inr h ↦ rw h (elim (cases_Bool (has_id id e.1)) [ inl g ↦ rw g refl | inr g ↦ rw g (find-dropped id i es ne) ])
]

find-written : (id i order : ℕ) (es : Entries) → i ≢ id → find_id id (write_id (as_released i order) i es) ≡ find_id id es
find-written id i order [] ne = refl
find-written id i order (e ∷ es) ne = elim (cases_Bool (has_id i e.1)) [
  | inl h ↦ rw (h, other-stage id i e.1.stage ne h, ne_eqb i id ne) refl
  | inr h ↦ rw h (elim (cases_Bool (has_id id e.1)) [ inl g ↦ rw g refl | inr g ↦ rw g (find-written id i order es ne) ])
]

find-released : (id order : ℕ) (es : Entries) (f : Entry) → find_id id (write_id (as_released id order) id es) ≡ Some f → exchange_of f ≡ released
find-released id order [] f h = (cc h)
find-released id order (e ∷ es) f h = elim (cases_Bool (has_id id e.1)) [
  | inl g ↦ (let k : Some (as_released id order e.1) ≡ Some f = rw (g, eq-eqb id id refl) at h in let same : as_released id order e.1 ≡ f = cc in ap exchange_of (sym same))
  | inr g ↦ find-released id order es f (rw (g, g) at h)
]

was-away : (id : ℕ) (es : Entries) (f : Entry) → find_id id (away es) ≡ Some f → Was id es f
was-away id [] f h = (cc h)
was-away id (e ∷ es) f h = elim (cases_Bool (has_id id e.1)) [
  | inl g ↦ (let k : Some (record e.1 { here = false }) ≡ Some f = rw g at h in let same : record e.1 { here = false } ≡ f = cc in (e.1, rw g refl, ap exchange_of (sym same)))
  | inr g ↦ let w = was-away id es f (rw g at h) in (w.0, rw g w.1, w.2)
]

was-resent : (id now limit : ℕ) (es : Entries) (f : Entry) → AreNumbered es → find_id id (after_resend now limit es) ≡ Some f → Was id es f
was-resent id now limit [] f n h = (cc h)
was-resent id now limit (e ∷ es) f n h = elim (cases_Bool (is_owed e.1)) [
  | inl t ↦ elim (cases_Bool (fits now limit e.1.delivery)) [
    | inl g ↦ elim (cases_Bool (has_id id e.1)) [
      | inl k ↦ (let m : Some (record e.1 { here = true }) ≡ Some f = rw (t, g, k) at h in let same : record e.1 { here = true } ≡ f = cc in (e.1, rw k refl, ap exchange_of (sym same)))
      | inr k ↦ (f, rw k (rw (t, g, k) at h), refl)
    ]
    | inr g ↦
        let w = was-resent id now limit es f n.1 (rw (t, g) at h) in
        elim (cases_Bool (has_id id e.1)) [
          | inl k ↦ absurd (let bad : None ≡ Some w.0 = sym (numbered-later id e.1.stage es k n.0) ∙ w.1 in cc)
          | inr k ↦ (w.0, rw k w.1, w.2)
        ]
  ]
  | inr t ↦ elim (cases_Bool (has_id id e.1)) [
    | inl k ↦ (e.1, rw k refl, (let m : Some e.1 ≡ Some f = rw (t, k) at h in let same : e.1 ≡ f = cc in ap exchange_of (sym same)))
    | inr k ↦ let w = was-resent id now limit es f n.1 (rw (t, k) at h) in (w.0, rw k w.1, w.2)
  ]
]

find-none_sent : (id now limit : ℕ) (es : Entries) → first_waiting now limit es ≡ None → find_id id (after_send now limit 0 es) ≡ find_id id es
find-none_sent id now limit [] h = refl
find-none_sent id now limit (e ∷ es) h = elim (cases_Bool (waits e.1.stage)) [
  | inl t ↦ elim (cases_Bool (is_sendable now limit e.1.delivery)) [
    | inl g ↦ (let bad : Some e.1.delivery ≡ None = rw (t, g) at h in cc)
    | inr g ↦ rw (t, g, waits-has id e.1.stage t) (find-none_sent id now limit es (rw (t, g) at h))
  ]
  | inr t ↦ rw t (elim (cases_Bool (has_id id e.1)) [ inl k ↦ rw k refl | inr k ↦ rw k (find-none_sent id now limit es (rw t at h)) ])
]

find-other_sent : (id i now limit : ℕ) (es : Entries) → i ≢ id → find_id id (after_send now limit i es) ≡ find_id id es
find-other_sent id i now limit [] ne = refl
find-other_sent id i now limit (e ∷ es) ne = elim (cases_Bool (waits e.1.stage)) [
  | inl t ↦ elim (cases_Bool (is_sendable now limit e.1.delivery)) [
    | inl g ↦ rw (t, g, waits-has id e.1.stage t, ne_eqb i id ne) refl
    | inr g ↦ rw (t, g, waits-has id e.1.stage t) (find-other_sent id i now limit es ne)
  ]
  | inr t ↦ rw t (elim (cases_Bool (has_id id e.1)) [ inl k ↦ rw k refl | inr k ↦ rw k (find-other_sent id i now limit es ne) ])
]

find-sent : (id now limit : ℕ) (c : Delivery) (es : Entries) (f : Entry) → find_id id es ≡ None → first_waiting now limit es ≡ Some c → find_id id (after_send now limit id es) ≡ Some f → exchange_of f ≡ published c
find-sent id now limit c [] f free first h = (cc h)
find-sent id now limit c (e ∷ es) f free first h = elim (cases_Bool (waits e.1.stage)) [
  | inl t ↦ elim (cases_Bool (is_sendable now limit e.1.delivery)) [
    | inl g ↦
        let k : Some (as_published id e.1) ≡ Some f = rw (t, g, eq-eqb id id refl) at h in
        let same : as_published id e.1 ≡ f = cc in
        let m : Some e.1.delivery ≡ Some c = rw (t, g) at first in
        let this : e.1.delivery ≡ c = cc in
        ap exchange_of (sym same) ∙ ap published this
    | inr g ↦ find-sent id now limit c es f (rw (waits-has id e.1.stage t) at free) (rw (t, g) at first) (rw (t, g) at h)
  ]
  | inr t ↦ elim (cases_Bool (has_id id e.1)) [
    | inl k ↦ (let bad : Some e.1 ≡ None = rw k at free in cc)
    | inr k ↦ find-sent id now limit c es f (rw k at free) (rw t at first) (rw (t, k) at h)
  ]
]

-- the first exchange that is sent again is found by its identifier
published-has : (s : Stage) → is_published s ≡ true → stage_has (stage_id s) s ≡ true
published-has Waiting h = absurd (false≢true h)
published-has (Published id) h = eq-eqb id id refl
published-has (Released id order) h = absurd (false≢true h)

published-exchange : (s : Stage) (d : Delivery) → is_published s ≡ true → exchange_at s d ≡ published d
published-exchange Waiting d h = absurd (false≢true h)
published-exchange (Published id) d h = refl
published-exchange (Released id order) d h = absurd (false≢true h)

later-owed : (now limit : ℕ) (s : Sent) (e : ℕ × Entry) (es : Entries) → is_owed e.1 && fits now limit e.1.delivery ≡ false → first_owed now limit (e ∷ es) ≡ Some s → first_owed now limit es ≡ Some s
later-owed now limit s e es t h = elim (cases_Bool (is_owed e.1)) [
  | inl o ↦ elim (cases_Bool (fits now limit e.1.delivery)) [
    | inl f ↦ absurd (let bad : true ≡ false = rw (o, f) at t in both_ways true bad refl)
    | inr f ↦ rw (o, f) at h
  ]
  | inr o ↦ rw o at h
]

find-owed : (now limit : ℕ) (s : Sent) (es : Entries) → AreNumbered es → first_owed now limit es ≡ Some s → (e : Entry) × (find_id s.id es ≡ Some e) × (exchange_of e ≡ published s.copy)
find-owed now limit s [] n h = (cc h)
find-owed now limit s (e ∷ es) n h = elim (cases_Bool (is_owed e.1 && fits now limit e.1.delivery)) [
  | inl t ↦
      let p = and_parts (is_owed e.1) (fits now limit e.1.delivery) t in
      let is = (and_parts (is_published e.1.stage) (not e.1.here) p.0).0 in
      let k : Some (resent e.1) ≡ Some s = rw (p.0, p.1) at h in
      let same : resent e.1 ≡ s = cc in
      rw (← same) (e.1, rw (published-has e.1.stage is) refl, published-exchange e.1.stage e.1.delivery is)
  | inr t ↦
      let w = find-owed now limit s es n.1 (later-owed now limit s e es t h) in
      elim (cases_Bool (has_id s.id e.1)) [
        | inl k ↦ absurd (let bad : None ≡ Some w.0 = sym (numbered-later s.id e.1.stage es k n.0) ∙ w.1 in cc)
        | inr k ↦ (w.0, rw k w.1, w.2)
      ]
]

pub told-away : (id : ℕ) (x : Exchange) (es : Entries) → IsTold id x es → IsTold id x (away es)
told-away id x es h = still id x es (away es) (λ f at_f. was-away id es f at_f) h

-- ---- the calls
told-offer : (id : ℕ) (x : Exchange) (old new : Outbox) (c : Delivery) (a : Offer) → OfferStep old c a new → IsTold id x old.copies → IsTold id x new.copies
told-offer id x old new c Queued s h = rw s.2 (same-told id x old.copies (old.copies ++ (old.next_place, waiting_entry c) ∷ []) (find-pushed id old.next_place c old.copies) h)
told-offer id x old new c Full s h = rw s.1 h
told-offer id x old new c AtEnd s h = rw s.2 h

pub not-acknowledged : (q : Qos) (s : Stage) (d : Delivery) → d.qos ≡ q → takes_puback q s ≡ false → after_puback (exchange_at s d) ≡ exchange_at s d
not-acknowledged q Waiting d e h = refl
not-acknowledged AtMostOnce (Published id) d e h = rw e refl
not-acknowledged AtLeastOnce (Published id) d e h = absurd (false≢true (sym h))
not-acknowledged ExactlyOnce (Published id) d e h = rw e refl
not-acknowledged q (Released id order) d e h = refl

told-ack : (id i : ℕ) (a : Ack) (x : Exchange) (old new : Outbox) → EndStep (is_acknowledged (find_id i old.copies)) old i a new → AreNumbered old.copies → IsTold id x old.copies → IsTold id (cond (i == id) (after_puback x) x) new.copies
told-ack id i Done x old new s n h = elim (cases_eq i id) [
  | inl same ↦ rw (s.1, same) (no-more id _ (drop_id id old.copies) (none-dropped id old.copies n))
  | inr ne ↦ rw (s.1, ne_eqb i id ne) (same-told id x old.copies (drop_id i old.copies) (find-dropped id i old.copies ne) h)
]
told-ack id i Unknown x old new s n h = elim (cases_eq i id) [
  | inl same ↦ rw (s.1, eq-eqb i id same) (λ e at_e.
      let k : is_acknowledged (find_id id old.copies) ≡ false = rw (← same) s.0 in
      let t : takes_puback e.delivery.qos e.stage ≡ false = rw at_e at k in
      ap after_puback (h e at_e) ∙ not-acknowledged e.delivery.qos e.stage e.delivery refl t)
  | inr ne ↦ rw (s.1, ne_eqb i id ne) h
]

pub not-completed : (s : Stage) (d : Delivery) → is_released s ≡ false → after_pubcomp (exchange_at s d) ≡ exchange_at s d
not-completed Waiting d h = refl
not-completed (Published id) d h = refl
not-completed (Released id order) d h = absurd (false≢true (sym h))

told-comp : (id i : ℕ) (a : Ack) (x : Exchange) (old new : Outbox) → EndStep (is_completed (find_id i old.copies)) old i a new → AreNumbered old.copies → IsTold id x old.copies → IsTold id (cond (i == id) (after_pubcomp x) x) new.copies
told-comp id i Done x old new s n h = elim (cases_eq i id) [
  | inl same ↦ rw (s.1, same) (no-more id _ (drop_id id old.copies) (none-dropped id old.copies n))
  | inr ne ↦ rw (s.1, ne_eqb i id ne) (same-told id x old.copies (drop_id i old.copies) (find-dropped id i old.copies ne) h)
]
told-comp id i Unknown x old new s n h = elim (cases_eq i id) [
  | inl same ↦ rw (s.1, eq-eqb i id same) (λ e at_e.
      let k : is_completed (find_id id old.copies) ≡ false = rw (← same) s.0 in
      let t : is_released e.stage ≡ false = rw at_e at k in
      ap after_pubcomp (h e at_e) ∙ not-completed e.stage e.delivery t)
  | inr ne ↦ rw (s.1, ne_eqb i id ne) h
]

pub received-now : (q : Qos) (s : Stage) (d : Delivery) (reason : ℕ) → d.qos ≡ q → takes_pubrec q s ≡ true → reason < 128 → after_pubrec reason (exchange_at s d) ≡ released
received-now AtMostOnce s d reason e h lt = absurd (false≢true h)
received-now AtLeastOnce s d reason e h lt = absurd (false≢true h)
received-now ExactlyOnce Waiting d reason e h lt = absurd (false≢true h)
received-now ExactlyOnce (Published id) d reason e h lt = rw (e, lt-ltb reason 128 lt) refl
received-now ExactlyOnce (Released id order) d reason e h lt = absurd (false≢true h)

pub not-received : (q : Qos) (s : Stage) (d : Delivery) (reason : ℕ) → d.qos ≡ q → takes_pubrec q s ≡ false → after_pubrec reason (exchange_at s d) ≡ exchange_at s d
not-received q Waiting d reason e h = refl
not-received AtMostOnce (Published id) d reason e h = rw e refl
not-received AtLeastOnce (Published id) d reason e h = rw e refl
not-received ExactlyOnce (Published id) d reason e h = absurd (false≢true (sym h))
not-received q (Released id order) d reason e h = refl

pub released-exchange : (s : Stage) (d : Delivery) → is_released s ≡ true → exchange_at s d ≡ released
released-exchange Waiting d h = absurd (false≢true h)
released-exchange (Published id) d h = absurd (false≢true h)
released-exchange (Released id order) d h = refl

told-rec : (id i reason : ℕ) (a : Rec) (o : Option Entry) (x : Exchange) (old new : Outbox) → find_id i old.copies ≡ o → ReceivedIf o old i reason a new → HasNumbers (received i reason a) → AreNumbered old.copies → IsTold id x old.copies
    → IsTold id (cond (i == id) (after_pubrec reason x) x) new.copies
told-rec id i reason a None x old new is s numbers n h = elim (cases_eq i id) [
  | inl same ↦ rw s.1 (no-more id _ old.copies (rw (← same) is))
  | inr ne ↦ rw (s.1, ne_eqb i id ne) h
]
told-rec id i reason rec.Release (Some y) x old new is (inl s) numbers n h = elim (cases_eq i id) [
  | inl same ↦ rw (s.3, eq-eqb i id same) (λ f at_f.
      ap (after_pubrec reason) (h y (rw (← same) is)) ∙ received-now y.delivery.qos y.stage y.delivery reason refl s.0 s.1 ∙ sym (find-released id old.next_order old.copies f (rw same at at_f)))
  | inr ne ↦ rw (s.3, ne_eqb i id ne) (same-told id x old.copies (write_id (as_released i old.next_order) i old.copies) (find-written id i old.next_order old.copies ne) h)
]
told-rec id i reason rec.Release (Some y) x old new is (inr s) numbers n h = elim (cases_eq i id) [
  | inl same ↦
      let was : x ≡ released = h y (rw (← same) is) ∙ released-exchange y.stage y.delivery s.0 in
      rw (s.1, eq-eqb i id same) (λ e at_e. (let both : Some y ≡ Some e = sym (rw (← same) is) ∙ at_e in let k : y ≡ e = cc in ap (after_pubrec reason) was ∙ sym (released-exchange y.stage y.delivery s.0) ∙ ap exchange_of k))
  | inr ne ↦ rw (s.1, ne_eqb i id ne) h
]
told-rec id i reason rec.Ended (Some y) x old new is s numbers n h = elim (cases_eq i id) [
  | inl same ↦ rw (s.2, same) (no-more id _ (drop_id id old.copies) (none-dropped id old.copies n))
  | inr ne ↦ rw (s.2, ne_eqb i id ne) (same-told id x old.copies (drop_id i old.copies) (find-dropped id i old.copies ne) h)
]
told-rec id i reason rec.Unknown (Some y) x old new is s numbers n h = elim (cases_eq i id) [
  | inl same ↦ rw (s.2, eq-eqb i id same) (λ e at_e.
      (let both : Some y ≡ Some e = sym (rw (← same) is) ∙ at_e in let k : y ≡ e = cc in
      ap (after_pubrec reason) (h e at_e) ∙ not-received e.delivery.qos e.stage e.delivery reason refl (rw (← k) s.0)))
  | inr ne ↦ rw (s.2, ne_eqb i id ne) h
]
told-rec id i reason rec.AtEnd (Some y) x old new is s numbers n h = absurd numbers

told-resent : (id now limit : ℕ) (x : Exchange) (es : Entries) → AreNumbered es → IsTold id x es → IsTold id x (after_resend now limit es)
told-resent id now limit x es n h = still id x es (after_resend now limit es) (λ f at_f. was-resent id now limit es f n at_f) h

told-next : (id now limit : ℕ) (a : Option Sent) (x : Exchange) (old new : Outbox) → NextStep now limit old a new → AreNumbered old.copies → IsTold id x old.copies → IsTold id (exchange_over id x (call_marks (asked now limit a ∷ []))) new.copies
told-next id now limit None x old new s n h = elim s.step [
  | inl t ↦ rw t.1 h
  | inr t ↦ elim t [
    | inl u ↦ rw u.3 (told-resent id now limit x old.copies n h)
    | inr u ↦ rw u.3 (same-told id x (after_resend now limit old.copies) (after_send now limit 0 (after_resend now limit old.copies)) (find-none_sent id now limit (after_resend now limit old.copies) u.2) (told-resent id now limit x old.copies n h))
  ]
]
told-next id now limit (Some y) x old new (inl s) n h =
    let dup : y.dup ≡ true = resent-dup now limit y old.copies s.sent in
    let same : exchange_over id x (call_marks (asked now limit (Some y) ∷ [])) ≡ x = elim (cases_Bool (y.id == id)) [ inl k ↦ rw (k, dup) refl | inr k ↦ rw k refl ] in
    rw (same, s.left) (told-resent id now limit x old.copies n h)
told-next id now limit (Some y) x old new (inr s) n h = elim (cases_eq y.id id) [
  | inl same ↦ rw (s.left, s.first, eq-eqb y.id id same) (λ f at_f.
      sym (find-sent id now limit y.copy (after_resend now limit old.copies) f (rw (← same) s.number.free) s.sent (rw same at at_f)))
  | inr ne ↦ rw (s.left, ne_eqb y.id id ne) (same-told id x (after_resend now limit old.copies) (after_send now limit y.id (after_resend now limit old.copies)) (find-other_sent id y.id now limit (after_resend now limit old.copies) ne) (told-resent id now limit x old.copies n h))
]

pub told-step : (id : ℕ) (x : Exchange) (old new : Outbox) (c : Call) → Takes old c new → HasNumbers c → AreNumbered old.copies → IsTold id x old.copies → IsTold id (exchange_over id x (call_marks (c ∷ []))) new.copies
told-step id x old new (offered d a) s numbers n h = told-offer id x old new d a s h
told-step id x old new (acknowledged i a) s numbers n h = told-ack id i a x old new s n h
told-step id x old new (completed i a) s numbers n h = told-comp id i a x old new s n h
told-step id x old new (received i reason a) s numbers n h = told-rec id i reason a _ x old new refl s numbers n h
told-step id x old new (resumed maximum) s numbers n h = rw s (told-away id x old.copies h)
told-step id x old new (listed ids) s numbers n h = rw s.1 h
told-step id x old new (asked now limit a) s numbers n h = told-next id now limit a x old new s n h
told-step id x old new lost s numbers n h = rw s (told-away id x old.copies h)

-- ---- lists of calls
exchange-then : (id : ℕ) (x : Exchange) (ms ns : List Mark) → exchange_over id x (ms ++ ns) ≡ exchange_over id (exchange_over id x ms) ns
exchange-then id x [] ns = refl
exchange-then id x (m ∷ ms) ns = exchange-then id (exchange_after id x m) ms ns

resends-then : (id : ℕ) (x : Exchange) (ms ns : List Mark) → AllResends id x ms → AllResends id (exchange_over id x ms) ns → AllResends id x (ms ++ ns)
resends-then id x [] ns h k = k
resends-then id x (m ∷ ms) ns h k = (h.0, resends-then id (exchange_after id x m) ms ns h.1 k)

resends-step : (id : ℕ) (x : Exchange) (old new : Outbox) (c : Call) → Takes old c new → AreNumbered old.copies → IsTold id x old.copies → AllResends id x (call_marks (c ∷ []))
resends-step id x old new (offered d a) s n h = tt
resends-step id x old new (acknowledged i a) s n h = (tt, tt)
resends-step id x old new (completed i a) s n h = (tt, tt)
resends-step id x old new (received i reason a) s n h = (tt, tt)
resends-step id x old new (resumed maximum) s n h = (tt, tt)
resends-step id x old new (listed ids) s n h = tt
resends-step id x old new (asked now limit None) s n h = tt
resends-step id x old new (asked now limit (Some y)) (inl s) n h = (λ dup same. (let w = find-owed now limit y old.copies n s.sent in h w.0 (ap (λ (k : ℕ). find_id k old.copies) (sym same) ∙ w.1) ∙ w.2), tt)
resends-step id x old new (asked now limit (Some y)) (inr s) n h = (λ dup same. absurd (both_ways y.dup s.first dup), tt)
resends-step id x old new lost s n h = (tt, tt)

-- what is told over all calls
pub record ToldOver (id : ℕ) (x : Exchange) (calls : List Call) (end : Outbox) : Type 0 where
  pub resends : AllResends id x (call_marks calls)
  pub is : IsTold id (exchange_over id x (call_marks calls)) end.copies

pub told-run : (id : ℕ) (x : Exchange) (start : Outbox) (calls : List Call) (end : Outbox) → low.Run start calls end → AllByRecursion HasNumbers calls → AreNumbered start.copies → IsTold id x start.copies → ToldOver id x calls end
told-run id x start [] end r numbers n h = record { resends = tt; is = rw r h }
told-run id x start (c ∷ cs) end r numbers n h =
    let next = exchange_over id x (call_marks (c ∷ [])) in
    let rest = told-run id next r.0 cs end r.2 numbers.1 (numbered-step start r.0 c r.1 n) (told-step id x start r.0 c r.1 numbers.0 n h) in
    let both : call_marks (c ∷ cs) ≡ call_marks (c ∷ []) ++ call_marks cs = marks-then (c ∷ []) cs in
    record {
      resends = rw both (resends-then id x (call_marks (c ∷ [])) (call_marks cs) (resends-step id x start r.0 c r.1 n h) rest.resends);
      is = rw (both, exchange-then id x (call_marks (c ∷ [])) (call_marks cs)) rest.is;
    }

-- ---- sessions
pub told-whole : (client : List ℕ) (id : ℕ) (steps : List Step) (end : State) → Run (new_session client) steps end → AllResends id none (all_marks false steps) × IsTold id (exchange_over id none (all_marks false steps)) end.outbox.copies
told-whole client id steps end r =
    let p = whole client steps end r in
    let t = told-run id none empty_outbox p.calls end.outbox p.runs p.shows.numbers tt (no-more id none [] refl) in
    rw (← p.shows.marks) (t.resends, t.is)

pub keeps_resends : KeepsResends
keeps_resends = λ client id steps end r. (told-whole client id steps end r).0
