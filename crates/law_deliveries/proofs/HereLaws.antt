-- An exchange that a connection sent stays until it is over.
use Rattle.std.proofs.Common.{◌≡◌, ◌≢◌, ℕ, ◌≤◌, ◌⊎◌, Bool, true, false, cond, [], ◌∷◌, ◌++◌, Option, Some, None, IsSome, refl, sym, ◌∙◌, ap, inl, inr}
use Rattle.std.specs.Prelude.{◌==◌, not}
use Rattle.std.proofs.lemmas.Bool.{cases_Bool, cases_eq, eqb-true, eq-eqb, ne_eqb, both_ways, and_parts, false≢true, le-ltb}
use Rattle.mqtt_fields.specs.declared.options.Qos.{Qos}
use Rattle.mqtt_fields.specs.declared.options.Qos.TheVariants.{AtMostOnce, AtLeastOnce, ExactlyOnce}
use Rattle.mqtt_message.specs.declared.delivery.Delivery.{Delivery}
use Rattle.qos_handshakes.specs.declared.answers.Offer.{Offer}
use Rattle.qos_handshakes.specs.declared.answers.Offer.TheVariants.{Queued, Full, AtEnd}
use Rattle.qos_handshakes.specs.declared.answers.Ack.{Ack}
use Rattle.qos_handshakes.specs.declared.answers.Ack.TheVariants.{Done, Unknown}
use Rattle.qos_handshakes.specs.declared.answers.Rec.{Rec}
use Rattle.qos_handshakes.specs.declared.answers.Rec.TheVariants as rec
use Rattle.qos_handshakes.specs.declared.copies.Entry.{Entry}
use Rattle.qos_handshakes.specs.declared.copies.Stage.{Stage}
use Rattle.qos_handshakes.specs.declared.copies.Stage.TheVariants.{Waiting, Published, Released}
use Rattle.qos_handshakes.specs.Entries.{Entries, as_released, drop_id, find_id, has_id, stage_has, write_id}
use Rattle.qos_handshakes.specs.Outbox.{Outbox, Sent, EndStep, NextStep, OfferStep, ReceivedIf, after_resend, after_send, first_owed, first_waiting, fits, is_acknowledged, is_completed, is_owed, is_published, is_released, is_sendable, resent, takes_puback, takes_pubrec, waiting_entry, waits}
use Rattle.qos_handshakes.proofs.EntryLaws.{NoneHas, none-cons, none-head, none-tail}
use Rattle.qos_handshakes.proofs.Indexed.{one-stage, owed-id, waits-has}
use Rattle.law_handshakes.specs.Numbers.{AreNumbered}
use Rattle.law_handshakes.specs.Runs.{offered, acknowledged, completed, received, resumed, listed, asked, lost, Takes}
use Rattle.law_handshakes.proofs.QuotaLaws.{numbered-later}
use Rattle.law_sessions.specs.Exchanges.{Exchange, none, published, released, after_puback, after_pubrec, after_pubcomp, exchange_over}
use Rattle.law_sessions.specs.Quota.{is_none}
use Rattle.law_sessions.proofs.CallLaws.{Call, call_marks}
use Rattle.law_sessions.proofs.ExchangeLaws.{IsTold, exchange_at}
use Rattle.law_deliveries.specs.Again.{sent_over}

-- the exchange of an identifier, whose PUBLISH this connection sent
pub record Here (id : ℕ) (es : Entries) : Type 0 where
  pub entry : Entry
  pub at : find_id id es ≡ Some entry
  pub here : entry.here ≡ true

here-first : (id : ℕ) (e : ℕ × Entry) (es : Entries) → has_id id e.1 ≡ true → e.1.here ≡ true → Here id (e ∷ es)
here-first id e es h k = record { entry = e.1; at = rw h refl; here = k }

here-later : (id : ℕ) (e : ℕ × Entry) (es : Entries) → has_id id e.1 ≡ false → Here id es → Here id (e ∷ es)
here-later id e es h k = record { entry = k.entry; at = rw h k.at; here = k.here }

-- the first entry is the exchange, or not
here-cases : (id : ℕ) (e : ℕ × Entry) (es : Entries) → Here id (e ∷ es) → ((has_id id e.1 ≡ true) × (e.1.here ≡ true)) ⊎ ((has_id id e.1 ≡ false) × Here id es)
here-cases id e es h = elim (cases_Bool (has_id id e.1)) [
  | inl t ↦ (let f : Some e.1 ≡ Some h.entry = rw t at h.at in let same : e.1 ≡ h.entry = cc in inl (t, ap (λ (x : Entry). x.here) same ∙ h.here))
  | inr t ↦ inr (t, record { entry = h.entry; at = rw t at h.at; here = h.here })
]

pub here-none : (id : ℕ) (es : Entries) → Here id es → find_id id es ≡ None → ⊥
here-none id es h gone = (let bad : Some h.entry ≡ None = sym h.at ∙ gone in cc)

-- ---- what each call leaves
here-pushed : (id place : ℕ) (c : Delivery) (es : Entries) → Here id es → Here id (es ++ (place, waiting_entry c) ∷ [])
here-pushed id place c [] h = absurd (let bad : None ≡ Some h.entry = h.at in cc)
here-pushed id place c (e ∷ es) h = elim (here-cases id e es h) [
  | inl k ↦ here-first id e (es ++ (place, waiting_entry c) ∷ []) k.0 k.1
  | inr k ↦ here-later id e (es ++ (place, waiting_entry c) ∷ []) k.0 (here-pushed id place c es k.1)
]

other-stage : (id i : ℕ) (s : Stage) → i ≢ id → stage_has i s ≡ true → stage_has id s ≡ false
other-stage id i Waiting ne h = refl
other-stage id i (Published k) ne h = ne_eqb k id (λ same. ne (sym (eqb-true k i h) ∙ same))
other-stage id i (Released k order) ne h = ne_eqb k id (λ same. ne (sym (eqb-true k i h) ∙ same))

here-dropped : (id i : ℕ) (es : Entries) → i ≢ id → Here id es → Here id (drop_id i es)
here-dropped id i [] ne h = h
here-dropped id i (e ∷ es) ne h = elim (cases_Bool (has_id i e.1)) [
  | inl t ↦ rw t (elim (here-cases id e es h) [ inl k ↦ absurd (both_ways (has_id id e.1) (other-stage id i e.1.stage ne t) k.0) | inr k ↦ k.1 ])
  | inr t ↦ rw t (elim (here-cases id e es h) [ inl k ↦ here-first id e (drop_id i es) k.0 k.1 | inr k ↦ here-later id e (drop_id i es) k.0 (here-dropped id i es ne k.1) ])
]

here-written : (id i order : ℕ) (es : Entries) → Here id es → Here id (write_id (as_released i order) i es)
here-written id i order [] h = h
here-written id i order (e ∷ es) h = elim (cases_Bool (has_id i e.1)) [
  | inl t ↦ rw t (elim (here-cases id e es h) [
    | inl k ↦ here-first id (e.0, as_released i order e.1) es (eq-eqb i id (one-stage i id e.1.stage t k.0)) k.1
    | inr k ↦ here-later id (e.0, as_released i order e.1) es (ne_eqb i id (λ same. both_ways (has_id id e.1) k.0 (ap (λ (j : ℕ). has_id j e.1) (sym same) ∙ t))) k.1
  ])
  | inr t ↦ rw t (elim (here-cases id e es h) [ inl k ↦ here-first id e (write_id (as_released i order) i es) k.0 k.1 | inr k ↦ here-later id e (write_id (as_released i order) i es) k.0 (here-written id i order es k.1) ])
]

owed-here : (x : Entry) → is_owed x ≡ true → x.here ≡ false
owed-here x h = elim (cases_Bool x.here) [ inl t ↦ absurd (let k = (and_parts (is_published x.stage) (not x.here) h).1 in (let bad : false ≡ true = rw t at k in false≢true bad)) | inr f ↦ f ]

pub here-resent : (id now limit : ℕ) (es : Entries) → Here id es → Here id (after_resend now limit es)
here-resent id now limit [] h = h
here-resent id now limit (e ∷ es) h = elim (cases_Bool (is_owed e.1)) [
  | inl t ↦ elim (cases_Bool (fits now limit e.1.delivery)) [
    | inl g ↦ rw (t, g) (elim (here-cases id e es h) [ inl k ↦ here-first id (e.0, record e.1 { here = true }) es k.0 refl | inr k ↦ here-later id (e.0, record e.1 { here = true }) es k.0 k.1 ])
    | inr g ↦ rw (t, g) (elim (here-cases id e es h) [ inl k ↦ absurd (both_ways e.1.here (owed-here e.1 t) k.1) | inr k ↦ here-resent id now limit es k.1 ])
  ]
  | inr f ↦ rw f (elim (here-cases id e es h) [ inl k ↦ here-first id e (after_resend now limit es) k.0 k.1 | inr k ↦ here-later id e (after_resend now limit es) k.0 (here-resent id now limit es k.1) ])
]

here-sent : (id now limit i : ℕ) (es : Entries) → Here id es → Here id (after_send now limit i es)
here-sent id now limit i [] h = h
here-sent id now limit i (e ∷ es) h = elim (cases_Bool (waits e.1.stage)) [
  | inl t ↦
      let rest : Here id es = elim (here-cases id e es h) [ inl k ↦ absurd (both_ways (has_id id e.1) (waits-has id e.1.stage t) k.0) | inr k ↦ k.1 ] in
      elim (cases_Bool (is_sendable now limit e.1.delivery)) [
        | inl g ↦ rw (t, g) (elim (cases_Bool (i == id)) [
          | inl same ↦ here-first id (e.0, record e.1 { stage = Published i; here = true }) es same refl
          | inr apart ↦ here-later id (e.0, record e.1 { stage = Published i; here = true }) es apart rest
        ])
        | inr g ↦ rw (t, g) (here-sent id now limit i es rest)
      ]
  | inr t ↦ rw t (elim (here-cases id e es h) [ inl k ↦ here-first id e (after_send now limit i es) k.0 k.1 | inr k ↦ here-later id e (after_send now limit i es) k.0 (here-sent id now limit i es k.1) ])
]

-- ---- what is sent is there
owed-has : (now limit : ℕ) (s : Sent) (es : Entries) → first_owed now limit es ≡ Some s → find_id s.id es ≡ None → ⊥
owed-has now limit s [] is gone = (cc is)
owed-has now limit s (e ∷ es) is gone = elim (cases_Bool (is_owed e.1)) [
  | inl t ↦ elim (cases_Bool (fits now limit e.1.delivery)) [
    | inl g ↦
        let k : Some (resent e.1) ≡ Some s = rw (t, g) at is in
        let same : resent e.1 ≡ s = cc in
        let has : has_id s.id e.1 ≡ true = rw (← same) (owed-id e.1.stage e.1.here t) in
        both_ways (has_id s.id e.1) (none-head s.id e es gone) has
    | inr g ↦ owed-has now limit s es (rw (t, g) at is) (none-tail s.id e es gone)
  ]
  | inr f ↦ owed-has now limit s es (rw f at is) (none-tail s.id e es gone)
]

own-resent : (now limit : ℕ) (s : Sent) (es : Entries) → AreNumbered es → first_owed now limit es ≡ Some s → Here s.id (after_resend now limit es)
own-resent now limit s [] n is = absurd (let bad : None ≡ Some s = is in cc)
own-resent now limit s (e ∷ es) n is = elim (cases_Bool (is_owed e.1)) [
  | inl t ↦ elim (cases_Bool (fits now limit e.1.delivery)) [
    | inl g ↦
        let k : Some (resent e.1) ≡ Some s = rw (t, g) at is in
        let same : resent e.1 ≡ s = cc in
        let has : has_id s.id e.1 ≡ true = rw (← same) (owed-id e.1.stage e.1.here t) in
        rw (t, g) (here-first s.id (e.0, record e.1 { here = true }) es has refl)
    | inr g ↦ rw (t, g) (own-resent now limit s es n.1 (rw (t, g) at is))
  ]
  | inr f ↦ rw f (elim (cases_Bool (has_id s.id e.1)) [
    | inl k ↦ absurd (owed-has now limit s es (rw f at is) (numbered-later s.id e.1.stage es k n.0))
    | inr k ↦ here-later s.id e (after_resend now limit es) k (own-resent now limit s es n.1 (rw f at is))
  ])
]

own-sent : (id now limit : ℕ) (c : Delivery) (es : Entries) → find_id id es ≡ None → first_waiting now limit es ≡ Some c → Here id (after_send now limit id es)
own-sent id now limit c [] free first = absurd (let bad : None ≡ Some c = first in cc)
own-sent id now limit c (e ∷ es) free first = elim (cases_Bool (waits e.1.stage)) [
  | inl t ↦ elim (cases_Bool (is_sendable now limit e.1.delivery)) [
    | inl g ↦ rw (t, g) (here-first id (e.0, record e.1 { stage = Published id; here = true }) es (eq-eqb id id refl) refl)
    | inr g ↦ rw (t, g) (own-sent id now limit c es (none-tail id e es free) (rw (t, g) at first))
  ]
  | inr t ↦ rw t (here-later id e (after_send now limit id es) (none-head id e es free) (own-sent id now limit c es (none-tail id e es free) (rw t at first)))
]

-- ---- an answer that ends the exchange
pub acknowledged-over : (q : Qos) (s : Stage) (d : Delivery) → d.qos ≡ q → takes_puback q s ≡ true → after_puback (exchange_at s d) ≡ none
acknowledged-over AtMostOnce s d e h = absurd (false≢true h)
acknowledged-over ExactlyOnce s d e h = absurd (false≢true h)
acknowledged-over AtLeastOnce Waiting d e h = absurd (false≢true h)
acknowledged-over AtLeastOnce (Published id) d e h = rw e refl
acknowledged-over AtLeastOnce (Released id order) d e h = absurd (false≢true h)

pub completed-over : (s : Stage) (d : Delivery) → is_released s ≡ true → after_pubcomp (exchange_at s d) ≡ none
completed-over Waiting d h = absurd (false≢true h)
completed-over (Published id) d h = absurd (false≢true h)
completed-over (Released id order) d h = refl

pub received-over : (q : Qos) (s : Stage) (d : Delivery) (reason : ℕ) → d.qos ≡ q → takes_pubrec q s ≡ true → 128 ≤ reason → after_pubrec reason (exchange_at s d) ≡ none
received-over AtMostOnce s d reason e h le = absurd (false≢true h)
received-over AtLeastOnce s d reason e h le = absurd (false≢true h)
received-over ExactlyOnce Waiting d reason e h le = absurd (false≢true h)
received-over ExactlyOnce (Published id) d reason e h le = rw (e, le-ltb reason 128 le) refl
received-over ExactlyOnce (Released id order) d reason e h le = absurd (false≢true h)

was-acked : (x : Exchange) → is_none (after_puback x) ≡ false → is_none x ≡ false
was-acked none h = h
was-acked (published d) h = refl
was-acked released h = refl

was-comped : (x : Exchange) → is_none (after_pubcomp x) ≡ false → is_none x ≡ false
was-comped none h = h
was-comped (published d) h = refl
was-comped released h = refl

was-recd : (reason : ℕ) (x : Exchange) → is_none (after_pubrec reason x) ≡ false → is_none x ≡ false
was-recd reason none h = h
was-recd reason (published d) h = refl
was-recd reason released h = refl

-- ---- the calls
-- an exchange that goes on and that this connection sent is there
abbrev pub Stays : ℕ → Bool → Exchange → Entries → Type 0
Stays id sent x es = sent ≡ true → is_none x ≡ false → Here id es

stays-offer : (id : ℕ) (sent : Bool) (x : Exchange) (old new : Outbox) (c : Delivery) (a : Offer) → OfferStep old c a new → Stays id sent x old.copies → Stays id sent x new.copies
stays-offer id sent x old new c Queued s h = λ t g. rw s.2 (here-pushed id old.next_place c old.copies (h t g))
stays-offer id sent x old new c Full s h = rw s.1 h
stays-offer id sent x old new c AtEnd s h = rw s.2 h

stays-ack : (id i : ℕ) (sent : Bool) (a : Ack) (o : Option Entry) (x : Exchange) (old new : Outbox) → find_id i old.copies ≡ o → EndStep (is_acknowledged o) old i a new → IsTold id x old.copies → Stays id sent x old.copies → Stays id sent (cond (i == id) (after_puback x) x) new.copies
stays-ack id i sent Unknown o x old new is s told h = elim (cases_eq i id) [
  | inl same ↦ rw (s.1, eq-eqb i id same) (λ t g. h t (was-acked x g))
  | inr ne ↦ rw (s.1, ne_eqb i id ne) h
]
stays-ack id i sent Done None x old new is s told h = absurd (false≢true s.0)
stays-ack id i sent Done (Some e) x old new is s told h = elim (cases_eq i id) [
  | inl same ↦
      let over : after_puback x ≡ none = ap after_puback (told e (rw (← same) is)) ∙ acknowledged-over e.delivery.qos e.stage e.delivery refl s.0 in
      rw (eq-eqb i id same, over) (λ t g. absurd (false≢true (sym g)))
  | inr ne ↦ rw (s.1, ne_eqb i id ne) (λ t g. here-dropped id i old.copies ne (h t g))
]

stays-comp : (id i : ℕ) (sent : Bool) (a : Ack) (o : Option Entry) (x : Exchange) (old new : Outbox) → find_id i old.copies ≡ o → EndStep (is_completed o) old i a new → IsTold id x old.copies → Stays id sent x old.copies → Stays id sent (cond (i == id) (after_pubcomp x) x) new.copies
stays-comp id i sent Unknown o x old new is s told h = elim (cases_eq i id) [
  | inl same ↦ rw (s.1, eq-eqb i id same) (λ t g. h t (was-comped x g))
  | inr ne ↦ rw (s.1, ne_eqb i id ne) h
]
stays-comp id i sent Done None x old new is s told h = absurd (false≢true s.0)
stays-comp id i sent Done (Some e) x old new is s told h = elim (cases_eq i id) [
  | inl same ↦
      let over : after_pubcomp x ≡ none = ap after_pubcomp (told e (rw (← same) is)) ∙ completed-over e.stage e.delivery s.0 in
      rw (eq-eqb i id same, over) (λ t g. absurd (false≢true (sym g)))
  | inr ne ↦ rw (s.1, ne_eqb i id ne) (λ t g. here-dropped id i old.copies ne (h t g))
]

-- where the entries keep what is here
stays-rec_on : (id i reason : ℕ) (sent : Bool) (x : Exchange) (es fs : Entries) → (Here id es → Here id fs) → Stays id sent x es → Stays id sent (cond (i == id) (after_pubrec reason x) x) fs
stays-rec_on id i reason sent x es fs f h = elim (cases_eq i id) [
  | inl same ↦ rw (eq-eqb i id same) (λ t g. f (h t (was-recd reason x g)))
  | inr ne ↦ rw (ne_eqb i id ne) (λ t g. f (h t g))
]

stays-rec : (id i reason : ℕ) (sent : Bool) (a : Rec) (o : Option Entry) (x : Exchange) (old new : Outbox) → find_id i old.copies ≡ o → ReceivedIf o old i reason a new → IsTold id x old.copies → Stays id sent x old.copies → Stays id sent (cond (i == id) (after_pubrec reason x) x) new.copies
stays-rec id i reason sent a None x old new is s told h = rw s.1 (stays-rec_on id i reason sent x old.copies old.copies (λ k. k) h)
stays-rec id i reason sent rec.Release (Some e) x old new is (inl s) told h = rw s.3 (stays-rec_on id i reason sent x old.copies (write_id (as_released i old.next_order) i old.copies) (here-written id i old.next_order old.copies) h)
stays-rec id i reason sent rec.Release (Some e) x old new is (inr s) told h = rw s.1 (stays-rec_on id i reason sent x old.copies old.copies (λ k. k) h)
stays-rec id i reason sent rec.Ended (Some e) x old new is s told h = elim (cases_eq i id) [
  | inl same ↦
      let over : after_pubrec reason x ≡ none = ap (after_pubrec reason) (told e (rw (← same) is)) ∙ received-over e.delivery.qos e.stage e.delivery reason refl s.0 s.1 in
      rw (eq-eqb i id same, over) (λ t g. absurd (false≢true (sym g)))
  | inr ne ↦ rw (s.2, ne_eqb i id ne) (λ t g. here-dropped id i old.copies ne (h t g))
]
stays-rec id i reason sent rec.Unknown (Some e) x old new is s told h = rw s.2 (stays-rec_on id i reason sent x old.copies old.copies (λ k. k) h)
stays-rec id i reason sent rec.AtEnd (Some e) x old new is s told h = rw s.3 (stays-rec_on id i reason sent x old.copies old.copies (λ k. k) h)

stays-next : (id now limit : ℕ) (sent : Bool) (a : Option Sent) (x : Exchange) (old new : Outbox) → NextStep now limit old a new → AreNumbered old.copies → Stays id sent x old.copies
    → Stays id (sent_over id sent (call_marks (asked now limit a ∷ []))) (exchange_over id x (call_marks (asked now limit a ∷ []))) new.copies
stays-next id now limit sent None x old new s n h = λ t g. elim s.step [
  | inl u ↦ rw u.1 (h t g)
  | inr u ↦ elim u [
    | inl v ↦ rw v.3 (here-resent id now limit old.copies (h t g))
    | inr v ↦ rw v.3 (here-sent id now limit 0 (after_resend now limit old.copies) (here-resent id now limit old.copies (h t g)))
  ]
]
stays-next id now limit sent (Some y) x old new (inl s) n h = elim (cases_eq y.id id) [
  | inl same ↦ λ _ _. rw (s.left, ← same) (own-resent now limit y old.copies n s.sent)
  | inr ne ↦ rw (s.left, ne_eqb y.id id ne) (λ t g. here-resent id now limit old.copies (h t g))
]
stays-next id now limit sent (Some y) x old new (inr s) n h = elim (cases_eq y.id id) [
  | inl same ↦ λ _ _. rw (s.left, ← same) (own-sent y.id now limit y.copy (after_resend now limit old.copies) s.number.free s.sent)
  | inr ne ↦ rw (s.left, ne_eqb y.id id ne) (λ t g. here-sent id now limit y.id (after_resend now limit old.copies) (here-resent id now limit old.copies (h t g)))
]

pub stays-step : (id : ℕ) (sent : Bool) (x : Exchange) (old new : Outbox) (c : Call) → Takes old c new → AreNumbered old.copies → IsTold id x old.copies → Stays id sent x old.copies → Stays id (sent_over id sent (call_marks (c ∷ []))) (exchange_over id x (call_marks (c ∷ []))) new.copies
stays-step id sent x old new (offered d a) s n told h = stays-offer id sent x old new d a s h
stays-step id sent x old new (acknowledged i a) s n told h = stays-ack id i sent a (find_id i old.copies) x old new refl s told h
stays-step id sent x old new (completed i a) s n told h = stays-comp id i sent a (find_id i old.copies) x old new refl s told h
stays-step id sent x old new (received i reason a) s n told h = stays-rec id i reason sent a (find_id i old.copies) x old new refl s told h
stays-step id sent x old new (resumed maximum) s n told h = λ t. absurd (false≢true t)
stays-step id sent x old new (listed ids) s n told h = rw s.1 h
stays-step id sent x old new (asked now limit a) s n told h = stays-next id now limit sent a x old new s n h
stays-step id sent x old new lost s n told h = λ t. absurd (false≢true t)

-- ---- none appears while resends are sent
pub some-before : (k now limit : ℕ) (es : Entries) → IsSome (find_id k (after_resend now limit es)) → (x : Entry) × (find_id k es ≡ Some x)
some-before k now limit es some = found (find_id k es) refl
  where
    none-resent : (fs : Entries) → NoneHas k fs → NoneHas k (after_resend now limit fs)
    none-resent [] h = refl
    none-resent (e ∷ fs) h = elim (cases_Bool (is_owed e.1)) [
      | inl t ↦ elim (cases_Bool (fits now limit e.1.delivery)) [
        | inl g ↦ rw (t, g) (none-cons k (e.0, record e.1 { here = true }) fs (none-head k e fs h) (none-tail k e fs h))
        | inr g ↦ rw (t, g) (none-resent fs (none-tail k e fs h))
      ]
      | inr f ↦ rw f (none-cons k e (after_resend now limit fs) (none-head k e fs h) (none-resent fs (none-tail k e fs h)))
    ]

    found : (o : Option Entry) → find_id k es ≡ o → (x : Entry) × (o ≡ Some x)
    found None e = absurd (let gone = none-resent es e in (let bad : false ≡ true = rw gone at some in false≢true bad))
    found (Some x) e = (x, refl)
