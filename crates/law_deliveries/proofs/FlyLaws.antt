-- The quota as the packets tell it is what the session holds.
use Rattle.std.proofs.Common.{◌≡◌, ℕ, false, List, [], ◌∷◌, ◌++◌, Option, Some, None, length, refl, ◌∙◌, ap, inl, inr, arith}
use Rattle.std.specs.Prelude.{is_some}
use Rattle.std.specs.List.{AllByRecursion}
use Rattle.std.proofs.lemmas.Bool.{cases_Bool, false≢true}
use Rattle.mqtt_message.specs.declared.delivery.Delivery.{Delivery}
use Rattle.qos_handshakes.specs.declared.answers.Ack.{Ack}
use Rattle.qos_handshakes.specs.declared.answers.Ack.TheVariants.{Done, Unknown}
use Rattle.qos_handshakes.specs.declared.answers.Rec.{Rec}
use Rattle.qos_handshakes.specs.declared.answers.Rec.TheVariants as rec
use Rattle.qos_handshakes.specs.declared.copies.Entry.{Entry}
use Rattle.qos_handshakes.specs.Entries.{Entries, find_id}
use Rattle.qos_handshakes.specs.Outbox.{Outbox, EndStep, ReceivedIf, is_acknowledged, is_completed, is_released, takes_puback, waiting}
use Rattle.law_handshakes.specs.Numbers.{AreNumbered}
use Rattle.law_handshakes.specs.Quota as low_quota
use Rattle.law_handshakes.specs.Runs as low
use Rattle.law_handshakes.specs.Runs.{offered, acknowledged, completed, received, resumed, listed, asked, lost, Takes}
use Rattle.law_handshakes.proofs.LaidLaws.{AreLaid, laid-step}
use Rattle.law_handshakes.proofs.NumberLaws.{numbered-step}
use Rattle.law_handshakes.proofs.QuotaLaws.{here_ids, without-none, flying-step, maximum-step, in_flight-here}
use Rattle.law_handshakes.proofs.ResendLaws.{found-has}
use Rattle.mqtt_sessions.specs.State.{State, new_session}
use Rattle.law_sessions.specs.Exchanges.{Exchange, none, released, after_puback, after_pubrec, after_pubcomp, exchange_over}
use Rattle.law_sessions.specs.Quota.{all_after, is_none, unless_over, flying_after, maximum_after}
use Rattle.law_sessions.specs.Runs.{Step, Run, limit_after}
use Rattle.law_sessions.specs.Sends.{Mark, marks_of}
use Rattle.law_sessions.proofs.CallLaws.{Call, HasNumbers, call_marks, numbered-calls}
use Rattle.law_sessions.proofs.ExchangeLaws.{IsTold, exchange_of, told-step, not-acknowledged, not-completed, not-received, received-now, released-exchange}
use Rattle.law_sessions.proofs.LiftLaws.{marks-then}
use Rattle.law_sessions.proofs.ProjectLaws.{project}
use Rattle.law_sessions.proofs.QuietLaws.{HasLimit}
use Rattle.law_deliveries.specs.Queue.{HasSpare, HasQuota, KeepsQueueTold, QueueOver, Serves, Told, exchanges_over, flying_over, maximum_over, told_after, told_nothing}
use Rattle.law_deliveries.proofs.HereLaws.{acknowledged-over, completed-over, received-over}
use Rattle.law_deliveries.proofs.NumberLaws.{there}
use Rattle.law_deliveries.proofs.OwnLaws.{laid-calls}
use Rattle.law_deliveries.proofs.QueueLaws.{full-step, serves}
use Rattle.law_deliveries.proofs.ShapeLaws.{shape}

-- ---- an answer, and the exchanges that go on
there-at : (id : ℕ) (e : Entry) (es : Entries) → find_id id es ≡ Some e → is_none (exchange_of e) ≡ false
there-at id e es is = there id e.stage e.delivery (found-has id e es is)

kept : (o : Option Entry) (id : ℕ) (x : Exchange) (es : Entries) → find_id id es ≡ o → ((e : Entry) → o ≡ Some e → is_none x ≡ false) → unless_over x id (here_ids es) ≡ here_ids es
kept None id x es is goes = elim (cases_Bool (is_none x)) [ inl t ↦ rw t (without-none id es is) | inr t ↦ rw t refl ]
kept (Some e) id x es is goes = rw (goes e refl) refl

flies-ack : (a : Ack) (o : Option Entry) (id : ℕ) (x : Exchange) (old new : Outbox) → find_id id old.copies ≡ o → EndStep (is_acknowledged o) old id a new → IsTold id x old.copies → unless_over (after_puback x) id (here_ids old.copies) ≡ low_quota.flying_after (here_ids old.copies) (acknowledged id a)
flies-ack Done None id x old new is s told = absurd (false≢true s.0)
flies-ack Done (Some e) id x old new is s told = let over : after_puback x ≡ none = ap after_puback (told e is) ∙ acknowledged-over e.delivery.qos e.stage e.delivery refl s.0 in rw over refl
flies-ack Unknown o id x old new is s told = kept o id (after_puback x) old.copies is (λ e at_e.
    let f : takes_puback e.delivery.qos e.stage ≡ false = rw at_e at s.0 in
    ap is_none (ap after_puback (told e (is ∙ at_e)) ∙ not-acknowledged e.delivery.qos e.stage e.delivery refl f) ∙ there-at id e old.copies (is ∙ at_e))

flies-comp : (a : Ack) (o : Option Entry) (id : ℕ) (x : Exchange) (old new : Outbox) → find_id id old.copies ≡ o → EndStep (is_completed o) old id a new → IsTold id x old.copies → unless_over (after_pubcomp x) id (here_ids old.copies) ≡ low_quota.flying_after (here_ids old.copies) (completed id a)
flies-comp Done None id x old new is s told = absurd (false≢true s.0)
flies-comp Done (Some e) id x old new is s told = let over : after_pubcomp x ≡ none = ap after_pubcomp (told e is) ∙ completed-over e.stage e.delivery s.0 in rw over refl
flies-comp Unknown o id x old new is s told = kept o id (after_pubcomp x) old.copies is (λ e at_e.
    let f : is_released e.stage ≡ false = rw at_e at s.0 in
    ap is_none (ap after_pubcomp (told e (is ∙ at_e)) ∙ not-completed e.stage e.delivery f) ∙ there-at id e old.copies (is ∙ at_e))

flies-rec : (a : Rec) (o : Option Entry) (id reason : ℕ) (x : Exchange) (old new : Outbox) → find_id id old.copies ≡ o → ReceivedIf o old id reason a new → HasNumbers (received id reason a) → IsTold id x old.copies
    → unless_over (after_pubrec reason x) id (here_ids old.copies) ≡ low_quota.flying_after (here_ids old.copies) (received id reason a)
flies-rec a None id reason x old new is s numbers told = rw s.0 (kept None id (after_pubrec reason x) old.copies is (λ e bad. (cc bad)))
flies-rec rec.Release (Some e) id reason x old new is (inl s) numbers told =
    let on : after_pubrec reason x ≡ released = ap (after_pubrec reason) (told e is) ∙ received-now e.delivery.qos e.stage e.delivery reason refl s.0 s.1 in rw on refl
flies-rec rec.Release (Some e) id reason x old new is (inr s) numbers told =
    let on : after_pubrec reason x ≡ released = ap (after_pubrec reason) (told e is ∙ released-exchange e.stage e.delivery s.0) in rw on refl
flies-rec rec.Ended (Some e) id reason x old new is s numbers told =
    let over : after_pubrec reason x ≡ none = ap (after_pubrec reason) (told e is) ∙ received-over e.delivery.qos e.stage e.delivery reason refl s.0 s.1 in rw over refl
flies-rec rec.Unknown (Some e) id reason x old new is s numbers told = kept (Some e) id (after_pubrec reason x) old.copies is (λ f at_f.
    ap is_none (ap (after_pubrec reason) (told e is) ∙ not-received e.delivery.qos e.stage e.delivery reason refl s.0) ∙ there-at id e old.copies is)
flies-rec rec.AtEnd (Some e) id reason x old new is s numbers told = absurd numbers

-- ---- the calls
fly-call : (x : ℕ → Exchange) (old new : Outbox) (c : Call) → Takes old c new → HasNumbers c → AreLaid old.copies → AreNumbered old.copies → ((id : ℕ) → IsTold id (x id) old.copies) → flying_over x (here_ids old.copies) (call_marks (c ∷ [])) ≡ here_ids new.copies
fly-call x old new (offered d a) s numbers laid n told = flying-step old new (offered d a) s laid n
fly-call x old new (acknowledged i a) s numbers laid n told = flies-ack a (find_id i old.copies) i (x i) old new refl s (told i) ∙ flying-step old new (acknowledged i a) s laid n
fly-call x old new (completed i a) s numbers laid n told = flies-comp a (find_id i old.copies) i (x i) old new refl s (told i) ∙ flying-step old new (completed i a) s laid n
fly-call x old new (received i reason a) s numbers laid n told = flies-rec a (find_id i old.copies) i reason (x i) old new refl s numbers (told i) ∙ flying-step old new (received i reason a) s laid n
fly-call x old new (resumed maximum) s numbers laid n told = flying-step old new (resumed maximum) s laid n
fly-call x old new (listed ids) s numbers laid n told = flying-step old new (listed ids) s laid n
fly-call x old new (asked now limit None) s numbers laid n told = flying-step old new (asked now limit None) s laid n
fly-call x old new (asked now limit (Some y)) s numbers laid n told = flying-step old new (asked now limit (Some y)) s laid n
fly-call x old new lost s numbers laid n told = flying-step old new lost s laid n

most-call : (old new : Outbox) (c : Call) → Takes old c new → maximum_over old.maximum (call_marks (c ∷ [])) ≡ new.maximum
most-call old new (offered d a) s = maximum-step old new (offered d a) s
most-call old new (acknowledged i a) s = maximum-step old new (acknowledged i a) s
most-call old new (completed i a) s = maximum-step old new (completed i a) s
most-call old new (received i reason a) s = maximum-step old new (received i reason a) s
most-call old new (resumed maximum) s = maximum-step old new (resumed maximum) s
most-call old new (listed ids) s = maximum-step old new (listed ids) s
most-call old new (asked now limit None) s = maximum-step old new (asked now limit None) s
most-call old new (asked now limit (Some y)) s = maximum-step old new (asked now limit (Some y)) s
most-call old new lost s = maximum-step old new lost s

-- ---- lists of marks
over-same : (id : ℕ) (x : ℕ → Exchange) (ms : List Mark) → exchanges_over x ms id ≡ exchange_over id (x id) ms
over-same id x [] = refl
over-same id x (m ∷ ms) = over-same id (all_after x m) ms

flying-then : (x : ℕ → Exchange) (flying : List ℕ) (ms ns : List Mark) → flying_over x flying (ms ++ ns) ≡ flying_over (exchanges_over x ms) (flying_over x flying ms) ns
flying-then x flying [] ns = refl
flying-then x flying (m ∷ ms) ns = flying-then (all_after x m) (flying_after x flying m) ms ns

maximum-then : (maximum : ℕ) (ms ns : List Mark) → maximum_over maximum (ms ++ ns) ≡ maximum_over (maximum_over maximum ms) ns
maximum-then maximum [] ns = refl
maximum-then maximum (m ∷ ms) ns = maximum-then (maximum_after maximum m) ms ns

exchanges-then : (id : ℕ) (x : ℕ → Exchange) (ms ns : List Mark) → exchanges_over x (ms ++ ns) id ≡ exchanges_over (exchanges_over x ms) ns id
exchanges-then id x [] ns = refl
exchanges-then id x (m ∷ ms) ns = exchanges-then id (all_after x m) ms ns

record Flies (x : ℕ → Exchange) (start : Outbox) (marks : List Mark) (end : Outbox) : Type 0 where
  pub flying : flying_over x (here_ids start.copies) marks ≡ here_ids end.copies
  pub maximum : maximum_over start.maximum marks ≡ end.maximum
  pub told : (id : ℕ) → IsTold id (exchanges_over x marks id) end.copies

flies-run : (x : ℕ → Exchange) (start : Outbox) (calls : List Call) (end : Outbox) → low.Run start calls end → AllByRecursion HasNumbers calls → AreLaid start.copies → AreNumbered start.copies → ((id : ℕ) → IsTold id (x id) start.copies) → Flies x start (call_marks calls) end
flies-run x start [] end r numbers laid n told = record { flying = rw r refl; maximum = rw r refl; told = λ id. rw r (told id) }
flies-run x start (c ∷ cs) end r numbers laid n told =
    let ms = call_marks (c ∷ []) in
    let k = flies-run (exchanges_over x ms) r.0 cs end r.2 numbers.1 (laid-step start r.0 c r.1 laid) (numbered-step start r.0 c r.1 n) (λ id. rw (over-same id x ms) (told-step id (x id) start r.0 c r.1 numbers.0 n (told id))) in
    let both : call_marks (c ∷ cs) ≡ ms ++ call_marks cs = marks-then (c ∷ []) cs in
    rw both (record {
      flying = flying-then x (here_ids start.copies) ms (call_marks cs) ∙ ap (λ (f : List ℕ). flying_over (exchanges_over x ms) f (call_marks cs)) (fly-call x start r.0 c r.1 numbers.0 laid n told) ∙ k.flying;
      maximum = maximum-then start.maximum ms (call_marks cs) ∙ ap (λ (m : ℕ). maximum_over m (call_marks cs)) (most-call start r.0 c r.1) ∙ k.maximum;
      told = λ id. rw (exchanges-then id x ms (call_marks cs)) (k.told id);
    })

-- ---- the events
-- what is told is what a session holds
pub record Tells (t : Told) (s : State) : Type 0 where
  pub limited : HasLimit t.limit s.link
  pub on : t.on ≡ is_some s.link
  pub numbered : AreNumbered s.outbox.copies
  pub laid : AreLaid s.outbox.copies
  pub exchanges : (id : ℕ) → IsTold id (t.exchanges id) s.outbox.copies
  pub flying : t.flying ≡ here_ids s.outbox.copies
  pub maximum : t.maximum ≡ s.outbox.maximum

with-room : {A B : Type 0} (limit : ℕ) (queue : List Delivery) (s : Step) (rest : List Delivery) → (A → B) → Serves limit queue s A rest → Serves limit queue s B rest
with-room limit queue s rest f k = record { taken = k.taken; late = k.late; splits = k.splits; sent = k.sent; left_out = k.left_out; room = elim k.room [ inl e ↦ inl e | inr h ↦ inr (f h) ] }

pub tells-after : (t : Told) (old : State) (s : Step) (ss : List Step) (end : State) (r : Run old (s ∷ ss) end) → Tells t old → Tells (told_after t s) r.0
tells-after t old s ss end r h =
    let p = project t.on t.limit old r.0 s.event s.reaction h.limited h.on h.numbered r.1 in
    let f = rw p.shows.marks at (flies-run t.exchanges old.outbox p.calls r.0.outbox p.runs p.shows.numbers h.laid h.numbered h.exchanges) in
    record {
      limited = p.limited;
      on = p.connected;
      numbered = numbered-calls old.outbox p.calls r.0.outbox p.runs h.numbered;
      laid = laid-calls old.outbox p.calls r.0.outbox p.runs h.laid;
      exchanges = f.told;
      flying = ap (λ (k : List ℕ). flying_over t.exchanges k (marks_of t.on s)) h.flying ∙ f.flying;
      maximum = ap (λ (m : ℕ). maximum_over m (marks_of t.on s)) h.maximum ∙ f.maximum;
    }

quota-told : (t : Told) (s : State) → Tells t s → HasSpare s → HasQuota t
quota-told t s h k =
    let q = k.quota in
    let same : length t.flying ≡ length (here_ids s.outbox.copies) = ap (λ (xs : List ℕ). length xs) h.flying in
    let most = h.maximum in
    (h.on ∙ k.linked, omega (arith, q, same, most, in_flight-here s.outbox.copies h.laid))

told-run : (t : Told) (old : State) (steps : List Step) (end : State) → Tells t old → Run old steps end → QueueOver t (waiting old.outbox.copies) steps (waiting end.outbox.copies)
told-run t old [] end h r = rw r refl
told-run t old (s ∷ ss) end h r =
    let next = tells-after t old s ss end r h in (
      waiting r.0.outbox.copies,
      full-step old r.0 s.event s.reaction r.1,
      with-room (limit_after t.limit s.event) (waiting old.outbox.copies) s (waiting r.0.outbox.copies) (quota-told (told_after t s) r.0 next) (serves (limit_after t.limit s.event) old.outbox s r.0 (shape t.limit old r.0 s.event s.reaction h.limited h.numbered r.1)),
      told-run (told_after t s) r.0 ss end next r.2,
    )

pub tells-nothing : (client : List ℕ) → Tells told_nothing (new_session client)
tells-nothing client = record { limited = tt; on = refl; numbered = tt; laid = tt; exchanges = λ id e bad. (cc bad); flying = refl; maximum = refl }

pub keeps_queue_told : KeepsQueueTold
keeps_queue_told = λ client steps end r. told-run told_nothing (new_session client) steps end (tells-nothing client) r
