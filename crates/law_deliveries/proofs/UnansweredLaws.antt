-- An exchange ends by its own answer alone: the events.
use Rattle.std.proofs.Common.{◌≡◌, ℕ, suc, ◌⊎◌, Bool, true, false, List, [], ◌∷◌, ◌++◌, Some, None, refl, sym, ◌∙◌, ap, inl, inr, arith}
use Rattle.std.specs.Prelude.{is_some}
use Rattle.std.specs.List.{AllByRecursion}
use Rattle.std.proofs.lemmas.Bool.{both_ways, cases_Bool, eq-eqb, false≢true}
use Rattle.mqtt_packets.specs.declared.packet.Packet.{Packet}
use Rattle.mqtt_packets.specs.declared.packet.Packet.TheVariants as packets
use Rattle.mqtt_message.specs.declared.delivery.Delivery.{Delivery}
use Rattle.qos_handshakes.specs.declared.copies.Entry.{Entry}
use Rattle.qos_handshakes.specs.declared.copies.Stage.{Stage}
use Rattle.qos_handshakes.specs.declared.copies.Stage.TheVariants.{Waiting, Published, Released}
use Rattle.qos_handshakes.specs.Entries.{Entries, find_id, has_id}
use Rattle.qos_handshakes.specs.Outbox.{Outbox, Sent, is_published}
use Rattle.law_handshakes.specs.Numbers.{AreNumbered, IsNumbered}
use Rattle.law_handshakes.specs.Resends as low_resends
use Rattle.law_handshakes.specs.Resends.{SentCopy, AnsweredIn, all_first_sends, all_resends, owed, owed_part, published, published_part}
use Rattle.law_handshakes.specs.Runs as low
use Rattle.law_handshakes.specs.Runs.{resumed}
use Rattle.law_handshakes.proofs.ChosenLaws.{without-more}
use Rattle.law_handshakes.proofs.LaidLaws.{AreLaid}
use Rattle.law_handshakes.proofs.NumberLaws.{numbered-step}
use Rattle.law_handshakes.proofs.OpenLaws.{all-both}
use Rattle.law_handshakes.proofs.QuotaLaws.{numbered-later}
use Rattle.mqtt_sessions.specs.State.{State, new_session}
use Rattle.law_sessions.specs.Exchanges.{Exchange, none, exchange_after, exchange_over}
use Rattle.law_sessions.specs.Order.{firsts}
use Rattle.law_sessions.specs.Quota.{is_none}
use Rattle.law_sessions.specs.Resends.{EndsIt, IsAnsweredBy, StaysConnected}
use Rattle.law_sessions.specs.Runs.{Event, connects, queues, rooms, takes, answers, closes, ticks, finishes, loses, Step, Run, connected_after, limit_after}
use Rattle.law_sessions.specs.Sends.{Mark, marks_by, marks_in, marks_of, sends_of, sent_in}
use Rattle.law_sessions.proofs.CallLaws.{Call, HasNumbers, call_marks, numbered-calls}
use Rattle.law_sessions.proofs.ExchangeLaws.{exchange_at, told-step}
use Rattle.law_sessions.proofs.LiftLaws.{marks-then}
use Rattle.law_sessions.proofs.ProjectLaws.{project}
use Rattle.law_sessions.proofs.QuietLaws.{HasLimit}
use Rattle.law_deliveries.specs.Again.{all_sent_over, sent_after, sent_over}
use Rattle.law_deliveries.specs.Unanswered.{IsAnswerFor, IsAnswered, IsTooLong, IsUnsent, Ends, OpenOver, KeepsOpen}
use Rattle.law_deliveries.proofs.HereLaws.{stays-step}
use Rattle.law_deliveries.proofs.NumberLaws.{AllTold, x_over}
use Rattle.law_deliveries.proofs.OwnLaws.{EndsIn, KeepsKind, AnsweredAmong, all-of, causes, laid-calls, open-calls, sends-marks}

-- ---- why an event ends what was sent
-- an identifier that a packet doesn't have
other : Packet → ℕ
other (packets.Puback a) = suc a.identifier
other (packets.Pubrec a) = suc a.identifier
other p = 0

not-itself : (n : ℕ) → suc n ≡ n → ⊥
not-itself n e = omega (arith, e)

not-answered : (p : Packet) (x : SentCopy) → IsAnsweredBy p (other p, x.1) → ⊥
unfolding other
not-answered (packets.Puback a) x h = not-itself a.identifier h
not-answered (packets.Pubrec a) x h = not-itself a.identifier h
not-answered (packets.Publish p) x h = h
not-answered (packets.Pubrel p) x h = h
not-answered (packets.Pubcomp p) x h = h
not-answered (packets.Subscribe p) x h = h
not-answered (packets.Unsubscribe p) x h = h
not-answered packets.Pingreq x h = h
not-answered (packets.Disconnect p) x h = h
not-answered (packets.Connect p) x h = h
not-answered (packets.Connack p) x h = h
not-answered (packets.Suback p) x h = h
not-answered (packets.Unsuback p) x h = h
not-answered packets.Pingresp x h = h
not-answered (packets.Auth p) x h = h

pub long-ends : (on : Bool) (limit : ℕ) (e : Event) (x : SentCopy) → ((k : ℕ) → EndsIt on limit e (k, x.1)) → IsTooLong on limit e x
long-ends on limit (connects c continued room now) x h = h 0
long-ends on limit (queues d now) x h = h 0
long-ends on limit (rooms bytes now) x h = h 0
long-ends on limit (takes p now room) x h = let k = h (other p) in (k.0, elim k.1 [ inl a ↦ absurd (not-answered p x a) | inr l ↦ l ])
long-ends on limit (answers id codes) x h = h 0
long-ends on limit (closes now) x h = h 0
long-ends on limit (ticks now) x h = h 0
long-ends on limit (finishes now) x h = h 0
long-ends on limit loses x h = h 0

in-packet : (p : Packet) (x : SentCopy) → AnsweredAmong (marks_in p) x → IsAnswerFor p x
in-packet (packets.Puback a) x (inl h) = h
in-packet (packets.Puback a) x (inr h) = absurd h
in-packet (packets.Pubrec a) x (inl h) = h
in-packet (packets.Pubrec a) x (inr h) = absurd h
in-packet (packets.Pubcomp a) x (inl h) = absurd h
in-packet (packets.Pubcomp a) x (inr h) = absurd h
in-packet (packets.Publish p) x h = h
in-packet (packets.Pubrel p) x h = h
in-packet (packets.Subscribe p) x h = h
in-packet (packets.Unsubscribe p) x h = h
in-packet packets.Pingreq x h = h
in-packet (packets.Disconnect p) x h = h
in-packet (packets.Connect p) x h = h
in-packet (packets.Connack p) x h = h
in-packet (packets.Suback p) x h = h
in-packet (packets.Unsuback p) x h = h
in-packet packets.Pingresp x h = h
in-packet (packets.Auth p) x h = h

answer-ends : (on : Bool) (e : Event) (x : SentCopy) → AnsweredAmong (marks_by on e) x → IsAnswered on e x
answer-ends on (connects c continued room now) x (inl h) = absurd h
answer-ends on (connects c continued room now) x (inr h) = absurd h
answer-ends on (queues d now) x h = absurd h
answer-ends on (rooms bytes now) x h = absurd h
answer-ends true (takes p now room) x h = (refl, in-packet p x h)
answer-ends false (takes p now room) x h = absurd h
answer-ends on (answers id codes) x h = h
answer-ends on (closes now) x h = h
answer-ends on (ticks now) x h = h
answer-ends on (finishes now) x h = h
answer-ends on loses x (inl h) = h
answer-ends on loses x (inr h) = h

-- what is sent answers nothing
not-sent : (ss : List Sent) (x : SentCopy) → AnsweredAmong (sends_of ss) x → ⊥
not-sent [] x h = h
not-sent (s ∷ ss) x (inl h) = h
not-sent (s ∷ ss) x (inr h) = not-sent ss x h

among-first : (ms : List Mark) (ss : List Sent) (x : SentCopy) → AnsweredAmong (ms ++ sends_of ss) x → AnsweredAmong ms x
among-first [] ss x h = absurd (not-sent ss x h)
among-first (m ∷ ms) ss x (inl h) = inl h
among-first (m ∷ ms) ss x (inr h) = inr (among-first ms ss x h)

-- its answer, or too long and of the kind that the calls may send again
ends : (Q : SentCopy → Type 0) (on : Bool) (limit : ℕ) (e : Event) (ss : List Sent) (calls : List Call) (x : SentCopy) → call_marks calls ≡ marks_by on e ++ sends_of ss → ((y : SentCopy) → AnsweredIn calls y → EndsIt on limit e y) → EndsIn Q calls x
    → IsAnswered on e x ⊎ (IsTooLong on limit e x × Q x)
ends Q on limit e ss calls x is f h = elim (causes Q calls x h) [
  | inl long ↦ inr (long-ends on limit e x (λ k. f (k, x.1) (long.0 k)), long.1)
  | inr a ↦ inl (answer-ends on e x (among-first (marks_by on e) ss x (rw is at a)))
]

-- ---- what is owed wasn't sent by the connection
record IsFound (es : Entries) (x : SentCopy) : Type 0 where
  pub entry : Entry
  pub at : find_id x.0 es ≡ Some entry
  pub away : entry.here ≡ false
  pub stage : is_published entry.stage ≡ true

found-part : (s : Stage) (here : Bool) (d : Delivery) (place : ℕ) (es : Entries) → AllByRecursion (IsFound ((place, record { stage = s; here = here; delivery = d }) ∷ es)) (owed_part (record { stage = s; here = here; delivery = d }))
found-part Waiting here d place es = tt
found-part (Published id) true d place es = tt
found-part (Published id) false d place es = (record { entry = record { stage = Published id; here = false; delivery = d }; at = rw (eq-eqb id id refl) refl; away = refl; stage = refl }, tt)
found-part (Released id order) here d place es = tt

found-later : (e : ℕ × Entry) (es : Entries) (x : SentCopy) → IsNumbered e.1.stage es → IsFound es x → IsFound (e ∷ es) x
found-later e es x n f = elim (cases_Bool (has_id x.0 e.1)) [
  | inl t ↦ absurd (let bad : None ≡ Some f.entry = sym (numbered-later x.0 e.1.stage es t n) ∙ f.at in cc)
  | inr t ↦ record { entry = f.entry; at = rw t f.at; away = f.away; stage = f.stage }
]

all-weaker : {A : Type 0} (P Q : A → Type 0) → ((x : A) → P x → Q x) → (xs : List A) → AllByRecursion P xs → AllByRecursion Q xs
all-weaker P Q f [] h = tt
all-weaker P Q f (x ∷ xs) h = (f x h.0, all-weaker P Q f xs h.1)

found : (es : Entries) → AreNumbered es → AllByRecursion (IsFound es) (owed es)
found [] n = tt
found (e ∷ es) n =
    all-both (IsFound (e ∷ es)) (owed_part e.1) (owed es) (found-part e.1.stage e.1.here e.1.delivery e.0 es) (all-weaker (IsFound es) (IsFound (e ∷ es)) (λ x f. found-later e es x n.0 f) (owed es) (found es n.1))

published-goes : (s : Stage) (d : Delivery) → is_published s ≡ true → is_none (exchange_at s d) ≡ false
published-goes Waiting d h = absurd (false≢true h)
published-goes (Published id) d h = refl
published-goes (Released id order) d h = absurd (false≢true h)

unsent : (x : ℕ → Exchange) (sent : ℕ → Bool) (es : Entries) → AllTold x sent es → AreNumbered es → AllByRecursion (λ (y : SentCopy). sent y.0 ≡ false) (owed es)
unsent x sent es h n = all-weaker (IsFound es) (λ (y : SentCopy). sent y.0 ≡ false) (λ y f. elim (cases_Bool (sent y.0)) [
  | inl t ↦
      let goes : is_none (x y.0) ≡ false = ap is_none (h.told y.0 f.entry f.at) ∙ published-goes f.entry.stage f.entry.delivery f.stage in
      let k = h.stays y.0 t goes in
      absurd (let both : Some k.entry ≡ Some f.entry = sym k.at ∙ f.at in let same : k.entry ≡ f.entry = cc in both_ways f.entry.here f.away (sym (ap (λ (z : Entry). z.here) same) ∙ k.here))
  | inr t ↦ t
]) (owed es) (found es n)

-- of which kind what is owed is, by the event
owed-kind : (x : ℕ → Exchange) (sent : ℕ → Bool) (e : Event) (es : Entries) → AllTold x sent es → AreNumbered es → AllByRecursion (IsUnsent sent e) (owed es)
owed-kind x sent (connects c continued room now) es h n = all-of (λ y. Unit {0}) (λ y. tt) (owed es)
owed-kind x sent (queues d now) es h n = unsent x sent es h n
owed-kind x sent (rooms bytes now) es h n = unsent x sent es h n
owed-kind x sent (takes p now room) es h n = unsent x sent es h n
owed-kind x sent (answers id codes) es h n = all-of (λ y. Unit {0}) (λ y. tt) (owed es)
owed-kind x sent (closes now) es h n = all-of (λ y. Unit {0}) (λ y. tt) (owed es)
owed-kind x sent (ticks now) es h n = all-of (λ y. Unit {0}) (λ y. tt) (owed es)
owed-kind x sent (finishes now) es h n = all-of (λ y. Unit {0}) (λ y. tt) (owed es)
owed-kind x sent loses es h n = all-of (λ y. Unit {0}) (λ y. tt) (owed es)

any-kind : (calls : List Call) → AllByRecursion (KeepsKind (λ y. Unit {0})) calls
any-kind [] = tt
any-kind (c ∷ cs) = (inr (λ x. tt), any-kind cs)

on-kind : (Q : SentCopy → Type 0) (calls : List Call) → AllByRecursion low_resends.StaysConnected calls → AllByRecursion (KeepsKind Q) calls
on-kind Q [] h = tt
on-kind Q (c ∷ cs) h = (inl h.0, on-kind Q cs h.1)

kinds-kept : (sent : ℕ → Bool) (e : Event) (calls : List Call) → (StaysConnected e → AllByRecursion low_resends.StaysConnected calls) → AllByRecursion (KeepsKind (IsUnsent sent e)) calls
kinds-kept sent (connects c continued room now) calls k = any-kind calls
kinds-kept sent (queues d now) calls k = on-kind (IsUnsent sent (queues d now)) calls (k tt)
kinds-kept sent (rooms bytes now) calls k = on-kind (IsUnsent sent (rooms bytes now)) calls (k tt)
kinds-kept sent (takes p now room) calls k = on-kind (IsUnsent sent (takes p now room)) calls (k tt)
kinds-kept sent (answers id codes) calls k = any-kind calls
kinds-kept sent (closes now) calls k = any-kind calls
kinds-kept sent (ticks now) calls k = any-kind calls
kinds-kept sent (finishes now) calls k = any-kind calls
kinds-kept sent loses calls k = any-kind calls

-- ---- what is told over the calls of an event
sent-then : (id : ℕ) (sent : Bool) (ms ns : List Mark) → sent_over id sent (ms ++ ns) ≡ sent_over id (sent_over id sent ms) ns
sent-then id sent [] ns = refl
sent-then id sent (m ∷ ms) ns = sent-then id (sent_after id sent m) ms ns

exchange-then : (id : ℕ) (x : Exchange) (ms ns : List Mark) → exchange_over id x (ms ++ ns) ≡ exchange_over id (exchange_over id x ms) ns
exchange-then id x [] ns = refl
exchange-then id x (m ∷ ms) ns = exchange-then id (exchange_after id x m) ms ns

pub told-calls : (x : ℕ → Exchange) (sent : ℕ → Bool) (start : Outbox) (calls : List Call) (end : Outbox) → low.Run start calls end → AllByRecursion HasNumbers calls → AreNumbered start.copies → AllTold x sent start.copies → AllTold (x_over x (call_marks calls)) (all_sent_over sent (call_marks calls)) end.copies
told-calls x sent start [] end r numbers n h = rw r h
told-calls x sent start (c ∷ cs) end r numbers n h =
    let ms = call_marks (c ∷ []) in
    let next : AllTold (x_over x ms) (all_sent_over sent ms) r.0.copies = record { told = λ id. told-step id (x id) start r.0 c r.1 numbers.0 n (h.told id); stays = λ id. stays-step id (sent id) (x id) start r.0 c r.1 n (h.told id) (h.stays id) } in
    let k = told-calls (x_over x ms) (all_sent_over sent ms) r.0 cs end r.2 numbers.1 (numbered-step start r.0 c r.1 n) next in
    let both : call_marks (c ∷ cs) ≡ ms ++ call_marks cs = marks-then (c ∷ []) cs in
    rw both (record {
      told = λ id. rw (exchange-then id (x id) ms (call_marks cs)) (k.told id);
      stays = λ id. rw (exchange-then id (x id) ms (call_marks cs), sent-then id (sent id) ms (call_marks cs)) (k.stays id);
    })

-- ---- what goes on, over all events
pub going-run : (on : Bool) (limit : ℕ) (x : ℕ → Exchange) (sent : ℕ → Bool) (old : State) (steps : List Step) (end : State) → HasLimit limit old.link → on ≡ is_some old.link → AreNumbered old.outbox.copies → AreLaid old.outbox.copies → AllTold x sent old.outbox.copies → Run old steps end
    → OpenOver on limit sent (published old.outbox.copies) steps (published end.outbox.copies)
going-run on limit x sent old [] end is opens n h told r = rw r refl
going-run on limit x sent old (s ∷ ss) end is opens n h told r =
    let p = project on limit old r.0 s.event s.reaction is opens n r.1 in
    let Q = IsUnsent sent s.event in
    let these : all_first_sends p.calls ≡ firsts (marks_of on s) = sends-marks p.calls ∙ ap firsts p.shows.marks in
    let step = rw these at (open-calls Q old.outbox p.calls r.0.outbox p.runs h (kinds-kept sent s.event p.calls p.shows.stays) (owed-kind x sent s.event old.outbox.copies told n)) in
    let next = rw p.shows.marks at (told-calls x sent old.outbox p.calls r.0.outbox p.runs p.shows.numbers n told) in (
      published r.0.outbox.copies,
      without-more (EndsIn Q p.calls) (Ends on (limit_after limit s.event) sent s.event) (λ y t. ends Q on (limit_after limit s.event) s.event (sent_in s.reaction.packets) p.calls y p.shows.marks p.shows.answered t) (published old.outbox.copies ++ firsts (marks_of on s)) (published r.0.outbox.copies) step,
      going-run (connected_after on s.event s.reaction) (limit_after limit s.event) (x_over x (marks_of on s)) (all_sent_over sent (marks_of on s)) r.0 ss end p.limited p.connected (numbered-calls old.outbox p.calls r.0.outbox p.runs n) (laid-calls old.outbox p.calls r.0.outbox p.runs h) next r.2,
    )

pub keeps_open : KeepsOpen
keeps_open = λ client steps end r. going-run false 0 (λ id. none) (λ id. false) (new_session client) steps end tt refl tt tt (record { told = λ id e bad. (cc bad); stays = λ id t. absurd (false≢true t) }) r
