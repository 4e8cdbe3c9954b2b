-- The quota is kept as it is told.
use Rattle.std.proofs.Common.{◌≡◌, ℕ, ◌≤◌, true, false, List, [], ◌∷◌, Option, Some, None, length, refl, ◌∙◌, ap, inl, inr, arith}
use Rattle.std.specs.List.{AllByRecursion}
use Rattle.std.proofs.lemmas.Bool.{cases_Bool, false≢true, le-ltb}
use Rattle.mqtt_fields.specs.declared.options.Qos.{Qos}
use Rattle.mqtt_fields.specs.declared.options.Qos.TheVariants.{AtMostOnce, AtLeastOnce, ExactlyOnce}
use Rattle.mqtt_message.specs.declared.delivery.Delivery.{Delivery}
use Rattle.qos_handshakes.specs.declared.answers.Ack.{Ack}
use Rattle.qos_handshakes.specs.declared.answers.Ack.TheVariants.{Done, Unknown}
use Rattle.qos_handshakes.specs.declared.answers.Rec.{Rec}
use Rattle.qos_handshakes.specs.declared.answers.Rec.TheVariants as rec
use Rattle.qos_handshakes.specs.declared.copies.Entry.{Entry}
use Rattle.qos_handshakes.specs.declared.copies.Stage.{Stage}
use Rattle.qos_handshakes.specs.declared.copies.Stage.TheVariants.{Waiting, Published, Released}
use Rattle.qos_handshakes.specs.Entries.{Entries, stage_has, find_id}
use Rattle.qos_handshakes.specs.Outbox.{Outbox, EndStep, ReceivedIf, is_acknowledged, is_completed, is_released, takes_puback, takes_pubrec, empty_outbox}
use Rattle.law_handshakes.specs.Runs as low
use Rattle.law_handshakes.specs.Runs.{offered, acknowledged, completed, received, resumed, listed, asked, lost, Takes}
use Rattle.law_handshakes.specs.Numbers.{AreNumbered}
use Rattle.law_handshakes.specs.Quota as low_quota
use Rattle.law_handshakes.proofs.LaidLaws.{AreLaid, laid-step}
use Rattle.law_handshakes.proofs.NumberLaws.{numbered-step}
use Rattle.law_handshakes.proofs.OrderLaws.{WithinQuota, quota-step}
use Rattle.law_handshakes.proofs.QuotaLaws.{here_ids, without-none, flying-step, maximum-step, in_flight-here}
use Rattle.law_handshakes.proofs.ResendLaws.{found-has}
use Rattle.law_sessions.specs.Sends.{Mark, begins, crashes, acks, recs, comps, sends}
use Rattle.law_sessions.specs.Exchanges.{Exchange, none, released, after_puback, after_pubrec, after_pubcomp}
use Rattle.law_sessions.specs.Quota.{is_none, all_after, unless_over, flying_after, maximum_after, FliesWithin, KeepsWithin}
use Rattle.law_sessions.proofs.CallLaws.{Call, call_marks, HasNumbers}
use Rattle.law_sessions.proofs.LiftLaws.{whole}
use Rattle.law_sessions.proofs.ExchangeLaws.{exchange_at, exchange_of, IsTold, told-step, not-acknowledged, not-completed, not-received, received-now, released-exchange}

-- ---- an exchange that goes on
there : (id : ℕ) (s : Stage) (d : Delivery) → stage_has id s ≡ true → is_none (exchange_at s d) ≡ false
there id Waiting d h = absurd (false≢true h)
there id (Published i) d h = refl
there id (Released i order) d h = refl

there-at : (id : ℕ) (e : Entry) (es : Entries) → find_id id es ≡ Some e → is_none (exchange_of e) ≡ false
there-at id e es is = there id e.stage e.delivery (found-has id e es is)

-- what is told leaves the list where no exchange ends
kept : (o : Option Entry) (id : ℕ) (x : Exchange) (es : Entries) → find_id id es ≡ o → ((e : Entry) → o ≡ Some e → is_none x ≡ false) → unless_over x id (here_ids es) ≡ here_ids es
kept None id x es is goes = elim (cases_Bool (is_none x)) [ inl t ↦ rw t (without-none id es is) | inr t ↦ rw t refl ]
kept (Some e) id x es is goes = rw (goes e refl) refl

-- ---- PUBACK
acknowledged-over : (q : Qos) (s : Stage) (d : Delivery) → d.qos ≡ q → takes_puback q s ≡ true → after_puback (exchange_at s d) ≡ none
acknowledged-over AtMostOnce s d e h = absurd (false≢true h)
acknowledged-over ExactlyOnce s d e h = absurd (false≢true h)
acknowledged-over AtLeastOnce Waiting d e h = absurd (false≢true h)
acknowledged-over AtLeastOnce (Published id) d e h = rw e refl
acknowledged-over AtLeastOnce (Released id order) d e h = absurd (false≢true h)

flies-ack : (a : Ack) (o : Option Entry) (id : ℕ) (x : Exchange) (old new : Outbox) → find_id id old.copies ≡ o → EndStep (is_acknowledged o) old id a new → IsTold id x old.copies → unless_over (after_puback x) id (here_ids old.copies) ≡ low_quota.flying_after (here_ids old.copies) (acknowledged id a)
flies-ack Done None id x old new is s told = absurd (false≢true s.0)
flies-ack Done (Some e) id x old new is s told = let over : after_puback x ≡ none = ap after_puback (told e is) ∙ acknowledged-over e.delivery.qos e.stage e.delivery refl s.0 in rw over refl
flies-ack Unknown o id x old new is s told = kept o id (after_puback x) old.copies is (λ e at_e.
    let f : takes_puback e.delivery.qos e.stage ≡ false = rw at_e at s.0 in
    ap is_none (ap after_puback (told e (is ∙ at_e)) ∙ not-acknowledged e.delivery.qos e.stage e.delivery refl f) ∙ there-at id e old.copies (is ∙ at_e))

-- ---- PUBCOMP
completed-over : (s : Stage) (d : Delivery) → is_released s ≡ true → after_pubcomp (exchange_at s d) ≡ none
completed-over Waiting d h = absurd (false≢true h)
completed-over (Published id) d h = absurd (false≢true h)
completed-over (Released id order) d h = refl

flies-comp : (a : Ack) (o : Option Entry) (id : ℕ) (x : Exchange) (old new : Outbox) → find_id id old.copies ≡ o → EndStep (is_completed o) old id a new → IsTold id x old.copies → unless_over (after_pubcomp x) id (here_ids old.copies) ≡ low_quota.flying_after (here_ids old.copies) (completed id a)
flies-comp Done None id x old new is s told = absurd (false≢true s.0)
flies-comp Done (Some e) id x old new is s told = let over : after_pubcomp x ≡ none = ap after_pubcomp (told e is) ∙ completed-over e.stage e.delivery s.0 in rw over refl
flies-comp Unknown o id x old new is s told = kept o id (after_pubcomp x) old.copies is (λ e at_e.
    let f : is_released e.stage ≡ false = rw at_e at s.0 in
    ap is_none (ap after_pubcomp (told e (is ∙ at_e)) ∙ not-completed e.stage e.delivery f) ∙ there-at id e old.copies (is ∙ at_e))

-- ---- PUBREC
received-over : (q : Qos) (s : Stage) (d : Delivery) (reason : ℕ) → d.qos ≡ q → takes_pubrec q s ≡ true → 128 ≤ reason → after_pubrec reason (exchange_at s d) ≡ none
received-over AtMostOnce s d reason e h le = absurd (false≢true h)
received-over AtLeastOnce s d reason e h le = absurd (false≢true h)
received-over ExactlyOnce Waiting d reason e h le = absurd (false≢true h)
received-over ExactlyOnce (Published id) d reason e h le = rw (e, le-ltb reason 128 le) refl
received-over ExactlyOnce (Released id order) d reason e h le = absurd (false≢true h)

flies-rec : (a : Rec) (o : Option Entry) (id reason : ℕ) (x : Exchange) (old new : Outbox) → find_id id old.copies ≡ o → ReceivedIf o old id reason a new → HasNumbers (received id reason a) → IsTold id x old.copies
    → unless_over (after_pubrec reason x) id (here_ids old.copies) ≡ low_quota.flying_after (here_ids old.copies) (received id reason a)
flies-rec a None id reason x old new is s numbers told = rw s.0 (kept None id (after_pubrec reason x) old.copies is (λ e bad. (cc bad)))
flies-rec rec.Release (Some e) id reason x old new is (inl s) numbers told =
    let on : after_pubrec reason x ≡ released = ap (after_pubrec reason) (told e is) ∙ received-now e.delivery.qos e.stage e.delivery reason refl s.0 s.1 in rw on refl
flies-rec rec.Release (Some e) id reason x old new is (inr s) numbers told =
    let on : after_pubrec reason x ≡ released = ap (after_pubrec reason) (told e is ∙ released-exchange e.stage e.delivery s.0) in rw on refl
flies-rec rec.Ended (Some e) id reason x old new is s numbers told =
    let over : after_pubrec reason x ≡ none = ap (after_pubrec reason) (told e is) ∙ received-over e.delivery.qos e.stage e.delivery reason refl s.0 s.1 in rw over refl
flies-rec rec.Unknown (Some e) id reason x old new is s numbers told = kept (Some e) id (after_pubrec reason x) old.copies is (λ f at_f.
    ap is_none (ap (after_pubrec reason) (told e is) ∙ not-received e.delivery.qos e.stage e.delivery reason refl s.0) ∙ there-at id e old.copies is)
flies-rec rec.AtEnd (Some e) id reason x old new is s numbers told = absurd numbers

-- ---- lists of calls
one : (x : ℕ → Exchange) (old new : Outbox) (m : Mark) (rest : List Mark) → flying_after x (here_ids old.copies) m ≡ here_ids new.copies → maximum_after old.maximum m ≡ new.maximum → length (here_ids new.copies) ≤ new.maximum
    → FliesWithin (all_after x m) (here_ids new.copies) new.maximum rest → FliesWithin x (here_ids old.copies) old.maximum (m ∷ rest)
one x old new m rest f g bound h = rw (f, g) (bound, h)

none-of : (x : ℕ → Exchange) (old new : Outbox) (rest : List Mark) → here_ids old.copies ≡ here_ids new.copies → old.maximum ≡ new.maximum → FliesWithin x (here_ids new.copies) new.maximum rest → FliesWithin x (here_ids old.copies) old.maximum rest
none-of x old new rest f g h = rw (f, g) h

within-call : (x : ℕ → Exchange) (old new : Outbox) (c : Call) (cs : List Call) → Takes old c new → HasNumbers c → AreLaid old.copies → AreNumbered old.copies → ((id : ℕ) → IsTold id (x id) old.copies) → length (here_ids new.copies) ≤ new.maximum
    → ((y : ℕ → Exchange) → ((id : ℕ) → IsTold id (y id) new.copies) → FliesWithin y (here_ids new.copies) new.maximum (call_marks cs)) → FliesWithin x (here_ids old.copies) old.maximum (call_marks (c ∷ cs))
within-call x old new (offered d a) cs s numbers laid n told bound rest =
    none-of x old new (call_marks cs) (flying-step old new (offered d a) s laid n) (maximum-step old new (offered d a) s) (rest x (λ id. told-step id (x id) old new (offered d a) s numbers n (told id)))
within-call x old new (listed ids) cs s numbers laid n told bound rest =
    none-of x old new (call_marks cs) (flying-step old new (listed ids) s laid n) (maximum-step old new (listed ids) s) (rest x (λ id. told-step id (x id) old new (listed ids) s numbers n (told id)))
within-call x old new (asked now limit None) cs s numbers laid n told bound rest =
    none-of x old new (call_marks cs) (flying-step old new (asked now limit None) s laid n) (maximum-step old new (asked now limit None) s) (rest x (λ id. told-step id (x id) old new (asked now limit None) s numbers n (told id)))
within-call x old new (asked now limit (Some y)) cs s numbers laid n told bound rest =
    one x old new (sends y) (call_marks cs) (flying-step old new (asked now limit (Some y)) s laid n) (maximum-step old new (asked now limit (Some y)) s) bound (rest (all_after x (sends y)) (λ id. told-step id (x id) old new (asked now limit (Some y)) s numbers n (told id)))
within-call x old new (resumed maximum) cs s numbers laid n told bound rest =
    one x old new (begins maximum) (call_marks cs) (flying-step old new (resumed maximum) s laid n) (maximum-step old new (resumed maximum) s) bound (rest (all_after x (begins maximum)) (λ id. told-step id (x id) old new (resumed maximum) s numbers n (told id)))
within-call x old new lost cs s numbers laid n told bound rest =
    one x old new crashes (call_marks cs) (flying-step old new lost s laid n) (maximum-step old new lost s) bound (rest (all_after x crashes) (λ id. told-step id (x id) old new lost s numbers n (told id)))
within-call x old new (acknowledged i a) cs s numbers laid n told bound rest =
    one x old new (acks i) (call_marks cs) (flies-ack a _ i (x i) old new refl s (told i) ∙ flying-step old new (acknowledged i a) s laid n) (maximum-step old new (acknowledged i a) s) bound (rest (all_after x (acks i)) (λ id. told-step id (x id) old new (acknowledged i a) s numbers n (told id)))
within-call x old new (completed i a) cs s numbers laid n told bound rest =
    one x old new (comps i) (call_marks cs) (flies-comp a _ i (x i) old new refl s (told i) ∙ flying-step old new (completed i a) s laid n) (maximum-step old new (completed i a) s) bound (rest (all_after x (comps i)) (λ id. told-step id (x id) old new (completed i a) s numbers n (told id)))
within-call x old new (received i reason a) cs s numbers laid n told bound rest =
    one x old new (recs i reason) (call_marks cs) (flies-rec a _ i reason (x i) old new refl s numbers (told i) ∙ flying-step old new (received i reason a) s laid n) (maximum-step old new (received i reason a) s) bound
    (rest (all_after x (recs i reason)) (λ id. told-step id (x id) old new (received i reason a) s numbers n (told id)))

within-run : (x : ℕ → Exchange) (start : Outbox) (calls : List Call) (end : Outbox) → low.Run start calls end → AllByRecursion HasNumbers calls → AreLaid start.copies → AreNumbered start.copies → WithinQuota start → ((id : ℕ) → IsTold id (x id) start.copies)
    → FliesWithin x (here_ids start.copies) start.maximum (call_marks calls)
within-run x start [] end r numbers laid n q told = tt
within-run x start (c ∷ cs) end r numbers laid n q told =
    let after = laid-step start r.0 c r.1 laid in
    let within = quota-step start r.0 c r.1 q in
    within-call x start r.0 c cs r.1 numbers.0 laid n told (omega (arith, within, in_flight-here r.0.copies after)) (λ y told'. within-run y r.0 cs end r.2 numbers.1 after (numbered-step start r.0 c r.1 n) within told')

pub keeps_within : KeepsWithin
keeps_within = λ client steps end r.
    let p = whole client steps end r in
    rw (← p.shows.marks) (within-run (λ id. none) empty_outbox p.calls end.outbox p.runs p.shows.numbers tt tt (omega arith) (λ id e bad. (cc bad)))
