-- The calls of the handshakes that an event is made of, and what they show.
use Rattle.std.proofs.Common.{◌≡◌, ℕ, ◌<◌, ◌≤◌, Bool, true, false, List, [], ◌∷◌, ◌++◌, Option, Some, None, refl, ap, inl, inr, arith}
use Rattle.std.specs.Prelude.{◌==◌}
use Rattle.std.specs.List.{AllByRecursion}
use Rattle.std.proofs.lemmas.Bool.{cases_Bool, false≢true, eqb-true, and_parts}
use Rattle.mqtt_message.specs.declared.delivery.Delivery.{Delivery}
use Rattle.qos_handshakes.specs.declared.answers.Rec.TheVariants as rec
use Rattle.qos_handshakes.specs.declared.copies.Stage.{Stage}
use Rattle.qos_handshakes.specs.declared.copies.Stage.TheVariants.{Waiting, Published, Released}
use Rattle.qos_handshakes.specs.Entries.{Entries}
use Rattle.qos_handshakes.specs.Length.{length_of}
use Rattle.qos_handshakes.specs.Outbox.{Outbox, Sent, NextStep, is_owed, is_published, stage_id, fits, resent, after_resend, first_owed, first_waiting, waits, is_sendable}
use Rattle.law_handshakes.specs.Runs as low
use Rattle.law_handshakes.specs.Runs.{offered, acknowledged, completed, received, resumed, listed, asked, lost}
use Rattle.law_handshakes.specs.Numbers.{AreNumbered, IsNumbered}
use Rattle.law_handshakes.specs.Order as low_order
use Rattle.law_handshakes.specs.Order.{all_offers}
use Rattle.law_handshakes.specs.Resends as low_resends
use Rattle.law_handshakes.specs.Resends.{SentCopy, AnsweredIn}
use Rattle.law_handshakes.proofs.NumberLaws.{numbered-step}
use Rattle.mqtt_sessions.specs.declared.reaction.Output.{Output}
use Rattle.mqtt_sessions.specs.Reaction.{publishes_of, pubrels_of, packet_of}
use Rattle.mqtt_sessions.specs.Answers as answer_packets
use Rattle.law_sessions.proofs.LeastLaws.{IsLeast, least-flushed}
use Rattle.law_sessions.proofs.SizeLaws.{publish-length}
use Rattle.mqtt_sessions.specs.Sending.{SendsAll, StopsIf, Flushes}
use Rattle.mqtt_sessions.specs.State.{has_room, room_after, room_less}
use Rattle.law_sessions.specs.Sends.{Mark, begins, crashes, acks, recs, comps, sends, sends_of, sent_in, sent_once_in}
use Rattle.law_sessions.specs.Order.{IsLate}

abbrev pub Call : Type 0
Call = low.Step

-- what a call shows
abbrev pub mark_of : Call → List Mark
mark_of (offered c a) = []
mark_of (acknowledged id a) = acks id ∷ []
mark_of (completed id a) = comps id ∷ []
mark_of (received id reason a) = recs id reason ∷ []
mark_of (resumed maximum) = begins maximum ∷ []
mark_of (listed ids) = []
mark_of (asked now limit None) = []
mark_of (asked now limit (Some s)) = sends s ∷ []
mark_of lost = crashes ∷ []

abbrev pub call_marks : List Call → List Mark
call_marks [] = []
call_marks (c ∷ cs) = mark_of c ++ call_marks cs

-- a session stops where numbers are at their end
abbrev pub HasNumbers : Call → Type 0
HasNumbers (received id reason rec.AtEnd) = ⊥
HasNumbers c = Unit {0}

pub numbered-calls : (start : Outbox) (calls : List Call) (end : Outbox) → low.Run start calls end → AreNumbered start.copies → AreNumbered end.copies
numbered-calls start [] end r h = rw r h
numbered-calls start (s ∷ ss) end r h = numbered-calls r.0 ss end r.2 (numbered-step start r.0 s r.1 h)

-- ---- what is sent has an identifier, and fits
pub record IsSound (now limit : ℕ) (s : Sent) : Type 0 where
  pub numbered : 1 ≤ s.id
  pub short : fits now limit s.copy ≡ true

published-id : (s : Stage) (es : Entries) → is_published s ≡ true → IsNumbered s es → 1 ≤ stage_id s
published-id Waiting es p h = absurd (false≢true p)
published-id (Published id) es p h = h.0
published-id (Released id order) es p h = absurd (false≢true p)

owed-sound : (now limit : ℕ) (s : Sent) (es : Entries) → AreNumbered es → first_owed now limit es ≡ Some s → IsSound now limit s
owed-sound now limit s [] n is = (cc is)
owed-sound now limit s (e ∷ es) n is = elim (cases_Bool (is_owed e.1)) [
  | inl t ↦ elim (cases_Bool (fits now limit e.1.delivery)) [
    | inl f ↦
        let k : Some (resent e.1) ≡ Some s = rw (t, f) at is in
        let same : resent e.1 ≡ s = cc in
        rw (← same) (record { numbered = published-id e.1.stage es (and_parts _ _ t).0 n.0; short = f })
    | inr f ↦ owed-sound now limit s es n.1 (rw (t, f) at is)
  ]
  | inr t ↦ owed-sound now limit s es n.1 (rw t at is)
]

waiting-short : (now limit : ℕ) (d : Delivery) (es : Entries) → first_waiting now limit es ≡ Some d → fits now limit d ≡ true
waiting-short now limit d [] is = (cc is)
waiting-short now limit d (e ∷ es) is = elim (cases_Bool (waits e.1.stage)) [
  | inl w ↦ elim (cases_Bool (is_sendable now limit e.1.delivery)) [
    | inl g ↦
        let k : Some e.1.delivery ≡ Some d = rw (w, g) at is in
        let same : e.1.delivery ≡ d = cc in
        rw (← same) (and_parts _ _ g).1
    | inr g ↦ waiting-short now limit d es (rw (w, g) at is)
  ]
  | inr w ↦ waiting-short now limit d es (rw w at is)
]

next-sound : (now limit : ℕ) (s : Sent) (old new : Outbox) → AreNumbered old.copies → NextStep now limit old (Some s) new → IsSound now limit s
next-sound now limit s old new n (inl h) = owed-sound now limit s old.copies n h.sent
next-sound now limit s old new n (inr h) = record { numbered = h.number.first; short = waiting-short now limit s.copy (after_resend now limit old.copies) h.sent }

sends-sound : (now limit : ℕ) (room : Option ℕ) (old last : Outbox) (sents : List Sent) → AreNumbered old.copies → SendsAll now limit room old sents last → AllByRecursion (IsSound now limit) sents
sends-sound now limit room old last [] n h = tt
sends-sound now limit room old last (s ∷ ss) n h = (next-sound now limit s old h.1 n h.2, sends-sound now limit (room_less now room s.copy) h.1 last ss (numbered-step old h.1 (asked now limit (Some s)) h.2 n) h.3)

-- ---- the PUBLISHes among packets
not-none : (n : ℕ) → 1 ≤ n → (n == 0) ≡ false
not-none n h = elim (cases_Bool (n == 0)) [
  | inl t ↦ absurd (let e = eqb-true n 0 t in omega (arith, h, e))
  | inr f ↦ f
]

pub sent-publishes : (now limit : ℕ) (ss : List Sent) → AllByRecursion (IsSound now limit) ss → sent_in (publishes_of ss) ≡ ss
sent-publishes now limit [] h = refl
sent-publishes now limit (s ∷ ss) h = rw (not-none s.id h.0.numbered) (ap (λ (t : List Sent). s ∷ t) (sent-publishes now limit ss h.1))

pub once-publishes : (now limit : ℕ) (ss : List Sent) → AllByRecursion (IsSound now limit) ss → sent_once_in (publishes_of ss) ≡ []
once-publishes now limit [] h = refl
once-publishes now limit (s ∷ ss) h = rw (not-none s.id h.0.numbered) (once-publishes now limit ss h.1)

pub publishes-fit : (now limit : ℕ) (ss : List Sent) → AllByRecursion (IsSound now limit) ss → AllByRecursion (λ (o : Output). answer_packets.fits limit (packet_of now o) ≡ true) (publishes_of ss)
publishes-fit now limit [] h = tt
publishes-fit now limit (s ∷ ss) h = (rw (publish-length s.copy now s.id s.dup) h.0.short, publishes-fit now limit ss h.1)

pub pubrels-fit : (now limit : ℕ) (ids : List ℕ) (ps : List Output) → ((id : ℕ) → answer_packets.fits limit (answer_packets.pubrel id 0) ≡ true) → AllByRecursion (λ (o : Output). answer_packets.fits limit (packet_of now o) ≡ true) ps
    → AllByRecursion (λ (o : Output). answer_packets.fits limit (packet_of now o) ≡ true) (pubrels_of ids ++ ps)
pubrels-fit now limit [] ps fit h = h
pubrels-fit now limit (id ∷ ids) ps fit h = (fit id, pubrels-fit now limit ids ps fit h)

pub sent-pubrels : (ids : List ℕ) (ps : List Output) → sent_in (pubrels_of ids ++ ps) ≡ sent_in ps
sent-pubrels [] ps = refl
sent-pubrels (id ∷ ids) ps = sent-pubrels ids ps

pub once-pubrels : (ids : List ℕ) (ps : List Output) → sent_once_in (pubrels_of ids ++ ps) ≡ sent_once_in ps
once-pubrels [] ps = refl
once-pubrels (id ∷ ids) ps = once-pubrels ids ps

-- ---- the calls of a flush
-- the last one, where room is left
abbrev stop_call : Bool → ℕ → ℕ → List Call
stop_call false now limit = []
stop_call true now limit = asked now limit None ∷ []

abbrev asks : Bool → ℕ → ℕ → List Sent → List Call
asks more now limit [] = stop_call more now limit
asks more now limit (s ∷ ss) = asked now limit (Some s) ∷ asks more now limit ss

-- calls after the first ones of an event
pub record Follows (now limit : ℕ) (old : Outbox) (sents : List Sent) (new : Outbox) : Type 0 where
  pub calls : List Call
  pub runs : low.Run old calls new
  pub offers : all_offers calls ≡ []
  pub marks : call_marks calls ≡ sends_of sents
  pub left_out : (x : Delivery) → low_order.LeftOutIn calls x → IsLate now limit x
  pub answered : (x : SentCopy) → AnsweredIn calls x → limit < length_of now x.1
  pub stays : AllByRecursion low_resends.StaysConnected calls
  pub numbers : AllByRecursion HasNumbers calls
  pub sound : AllByRecursion (IsSound now limit) sents
  pub least : AllByRecursion (IsLeast new.copies) sents

run-stop : (more : Bool) (now limit : ℕ) (last new : Outbox) → StopsIf more now limit last new → low.Run last (stop_call more now limit) new
run-stop true now limit last new stops = (new, stops, refl)
run-stop false now limit last new stops = stops

run-asks : (more : Bool) (now limit : ℕ) (room : Option ℕ) (old last new : Outbox) (sents : List Sent) → SendsAll now limit room old sents last → StopsIf more now limit last new → low.Run old (asks more now limit sents) new
run-asks more now limit room old last new [] all stops = run-stop more now limit old new (rw all at stops)
run-asks more now limit room old last new (s ∷ ss) all stops = (all.1, all.2, run-asks more now limit (room_less now room s.copy) all.1 last new ss all.3 stops)

offers-asks : (more : Bool) (now limit : ℕ) (sents : List Sent) → all_offers (asks more now limit sents) ≡ []
offers-asks true now limit [] = refl
offers-asks false now limit [] = refl
offers-asks more now limit (s ∷ ss) = offers-asks more now limit ss

marks-asks : (more : Bool) (now limit : ℕ) (sents : List Sent) → call_marks (asks more now limit sents) ≡ sends_of sents
marks-asks true now limit [] = refl
marks-asks false now limit [] = refl
marks-asks more now limit (s ∷ ss) = ap (λ (t : List Mark). sends s ∷ t) (marks-asks more now limit ss)

left-asks : (more : Bool) (now limit : ℕ) (sents : List Sent) (x : Delivery) → low_order.LeftOutIn (asks more now limit sents) x → IsLate now limit x
left-asks true now limit [] x (inl h) = h
left-asks true now limit [] x (inr h) = absurd h
left-asks false now limit [] x h = absurd h
left-asks more now limit (s ∷ ss) x (inl h) = h
left-asks more now limit (s ∷ ss) x (inr h) = left-asks more now limit ss x h

answered-asks : (more : Bool) (now limit : ℕ) (sents : List Sent) (x : SentCopy) → AnsweredIn (asks more now limit sents) x → limit < length_of now x.1
answered-asks true now limit [] x (inl h) = h
answered-asks true now limit [] x (inr h) = absurd h
answered-asks false now limit [] x h = absurd h
answered-asks more now limit (s ∷ ss) x (inl h) = h
answered-asks more now limit (s ∷ ss) x (inr h) = answered-asks more now limit ss x h

stays-asks : (more : Bool) (now limit : ℕ) (sents : List Sent) → AllByRecursion low_resends.StaysConnected (asks more now limit sents)
stays-asks true now limit [] = (tt, tt)
stays-asks false now limit [] = tt
stays-asks more now limit (s ∷ ss) = (tt, stays-asks more now limit ss)

numbers-asks : (more : Bool) (now limit : ℕ) (sents : List Sent) → AllByRecursion HasNumbers (asks more now limit sents)
numbers-asks true now limit [] = (tt, tt)
numbers-asks false now limit [] = tt
numbers-asks more now limit (s ∷ ss) = (tt, numbers-asks more now limit ss)

pub flushed : (now limit : ℕ) (room : Option ℕ) (old new : Outbox) (sents : List Sent) → AreNumbered old.copies → Flushes now limit room old sents new → Follows now limit old sents new
flushed now limit room old new sents n f =
    let more = has_room (room_after now room sents) in
    record {
      calls = asks more now limit sents;
      runs = run-asks more now limit room old f.last new sents f.sends f.stops;
      offers = offers-asks more now limit sents;
      marks = marks-asks more now limit sents;
      left_out = left-asks more now limit sents;
      answered = answered-asks more now limit sents;
      stays = stays-asks more now limit sents;
      numbers = numbers-asks more now limit sents;
      sound = sends-sound now limit room old f.last sents n f.sends;
      least = least-flushed now limit room old new sents f;
    }

abbrev pub unchanged : (now limit : ℕ) (old new : Outbox) (sents : List Sent) → sents ≡ [] → new ≡ old → Follows now limit old sents new
unchanged now limit old new sents none same = record {
  calls = [];
  runs = same;
  offers = refl;
  marks = rw none refl;
  left_out = λ x h. absurd h;
  answered = λ x h. absurd h;
  stays = tt;
  numbers = tt;
  sound = rw none tt;
  least = rw none tt;
}
