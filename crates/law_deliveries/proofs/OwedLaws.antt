-- What is to be sent again leaves in its turn.
use Rattle.std.proofs.Common.{◌≡◌, ◌≢◌, ℕ, ◌<◌, ◌⊎◌, Bool, true, false, List, [], ◌∷◌, ◌++◌, Option, Some, None, IsSome, length, refl, sym, ◌∙◌, ap, subst, inl, inr, arith, append_assoc}
use Rattle.std.specs.Prelude.{is_some, not}
use Rattle.std.specs.List.{AllByRecursion}
use Rattle.std.proofs.lemmas.Bool.{and_parts, cases_Bool, leb-false}
use Rattle.mqtt_packets.specs.declared.connect.Connect.{Connect}
use Rattle.mqtt_packets.specs.declared.packet.Packet.{Packet}
use Rattle.mqtt_packets.specs.declared.packet.Packet.TheVariants as packets
use Rattle.mqtt_message.specs.declared.delivery.Delivery.{Delivery}
use Rattle.qos_handshakes.specs.declared.answers.Ack.{Ack}
use Rattle.qos_handshakes.specs.declared.answers.Ack.TheVariants.{Done, Unknown}
use Rattle.qos_handshakes.specs.declared.answers.Offer.TheVariants.{Queued}
use Rattle.qos_handshakes.specs.declared.answers.Rec.{Rec}
use Rattle.qos_handshakes.specs.declared.answers.Rec.TheVariants as rec
use Rattle.qos_handshakes.specs.declared.copies.Entry.{Entry}
use Rattle.qos_handshakes.specs.Entries.{Entries}
use Rattle.qos_handshakes.specs.Length.{length_of}
use Rattle.qos_handshakes.specs.Outbox as outbox
use Rattle.qos_handshakes.specs.Outbox.{Outbox, Sent, NextStep, ReceivedStep, after_resend, away, first_owed, fits, in_flight, is_owed, is_published, resent}
use Rattle.law_handshakes.specs.Lists.{Without}
use Rattle.law_handshakes.specs.Numbers.{AreNumbered}
use Rattle.law_handshakes.specs.Resends.{SentCopy, owed, owed_part, published, published_part}
use Rattle.law_handshakes.specs.Runs.{offered, acknowledged, completed, received, resumed}
use Rattle.law_handshakes.proofs.ChosenLaws.{append-nil, both-nil, chosen-away, without-more, without-refl, without-same}
use Rattle.law_handshakes.proofs.NumberLaws.{numbered-step}
use Rattle.law_handshakes.proofs.OrderLaws.{resent-dup}
use Rattle.law_handshakes.proofs.QuotaLaws.{here_ids, in_flight-here}
use Rattle.law_handshakes.proofs.ResendLaws.{owed-first}
use Rattle.mqtt_sessions.specs.Answers.{pubrel, connack}
use Rattle.mqtt_sessions.specs.Answers as answer_packets
use Rattle.mqtt_sessions.specs.Connecting.{OpensIf, resumed_by}
use Rattle.mqtt_sessions.specs.Packets.{GoesOnAfter, PubrecBy, PacketIf}
use Rattle.mqtt_sessions.specs.Reaction.{Reaction, publishes_of}
use Rattle.mqtt_sessions.specs.Sending.{SendsAll, StopsIf, Flushes, GoesOn, is_once, once_of, QueueIf, RoomStep, with_room}
use Rattle.mqtt_sessions.specs.State.{State, Link, has_room, heard, limit_in, limit_of, new_session, room_after, room_less, sent_from, with_outbox}
use Rattle.law_sessions.specs.Order.{firsts, first_of, again_of, resends}
use Rattle.law_sessions.specs.Resends.{StaysConnected}
use Rattle.law_sessions.specs.Runs.{Event, connects, queues, rooms, takes, answers, closes, ticks, finishes, loses, Step, Reacts, Run, limit_after}
use Rattle.law_sessions.specs.Sends.{Mark, marks_by, marks_in, marks_of, maximum_in, sends_of, sent_in}
use Rattle.law_sessions.specs.Sizes.{moment_of}
use Rattle.law_sessions.proofs.CallLaws.{flushed, sent-publishes, sent-pubrels}
use Rattle.law_sessions.proofs.ProjectLaws.{comes-quiet, unknown-quiet, heard-limit}
use Rattle.law_sessions.proofs.QuietLaws.{HasLimit, IsHandshake, none-sent, quiet-answer, quiet-tick, kinds}
use Rattle.law_sessions.proofs.SilenceLaws.{run-split}
use Rattle.law_deliveries.specs.Queue.{SentOf, Told, told_after, told_nothing, told_over}
use Rattle.law_deliveries.specs.Unanswered.{IsAnswered, IsTooLong, SendsAgain, OwedOver, KeepsOwed}
use Rattle.law_deliveries.proofs.FlyLaws.{Tells, tells-after, tells-nothing}
use Rattle.law_deliveries.proofs.OwnLaws.{Any, EndsBy, all-of, owes-step}
use Rattle.law_deliveries.proofs.QueueLaws.{flying-unowed, flying-unsent, none-or-some}
use Rattle.law_deliveries.proofs.UnansweredLaws.{keeps_open}

-- ---- a flush
abbrev Long : ℕ → ℕ → SentCopy → Type 0
Long now limit x = limit < length_of now x.1

record Splits (now limit : ℕ) (owes : List SentCopy) (x : SentCopy) (rest : List SentCopy) : Type 0 where
  pub out : List SentCopy
  pub is : owes ≡ out ++ x ∷ rest
  pub long : AllByRecursion (Long now limit) out

split : (now limit : ℕ) (s : Sent) (es : Entries) → first_owed now limit es ≡ Some s → Splits now limit (owed es) (s.id, s.copy) (owed (after_resend now limit es))
split now limit s [] is = (cc is)
split now limit s (e ∷ es) is = elim (cases_Bool (is_owed e.1)) [
  | inl h ↦
      let p = (and_parts (is_published e.1.stage) (not e.1.here) h).0 in
      elim (cases_Bool (fits now limit e.1.delivery)) [
        | inl g ↦
            let f : Some (resent e.1) ≡ Some s = rw (h, g) at is in
            let same : resent e.1 ≡ s = cc in
            rw (h, g, p) (record { out = []; is = ap (λ (z : Sent). (z.id, z.copy) ∷ owed es) same; long = tt })
        | inr g ↦
            let k = split now limit s es (rw (h, g) at is) in
            rw (h, g) (record { out = (outbox.stage_id e.1.stage, e.1.delivery) ∷ k.out; is = ap (λ (xs : List SentCopy). (outbox.stage_id e.1.stage, e.1.delivery) ∷ xs) k.is; long = (leb-false (length_of now e.1.delivery) limit g, k.long) })
      ]
  | inr h ↦ rw (h, h) (split now limit s es (rw h at is))
]

all-long : (now limit : ℕ) (es : Entries) → first_owed now limit es ≡ None → AllByRecursion (Long now limit) (owed es) × (owed (after_resend now limit es) ≡ [])
all-long now limit [] is = (tt, refl)
all-long now limit (e ∷ es) is = elim (cases_Bool (is_owed e.1)) [
  | inl h ↦ elim (cases_Bool (fits now limit e.1.delivery)) [
    | inl g ↦ (let bad : Some (resent e.1) ≡ None = rw (h, g) at is in cc)
    | inr g ↦ let k = all-long now limit es (rw (h, g) at is) in rw (h, g) ((leb-false (length_of now e.1.delivery) limit g, k.0), k.1)
  ]
  | inr h ↦ rw (h, h) (all-long now limit es (rw h at is))
]

record Again (now limit : ℕ) (owes : List SentCopy) (sents : List Sent) (new : Outbox) : Type 0 where
  pub taken : List SentCopy
  pub long : List SentCopy
  pub splits : owes ≡ taken ++ (long ++ owed new.copies)
  pub sent : SentOf (Long now limit) taken (resends (sends_of sents))
  pub left_out : AllByRecursion (Long now limit) long
  pub room : (long ≡ []) ⊎ ((firsts (sends_of sents) ≢ []) ⊎ (in_flight new.copies < new.maximum))

stops-again : (now limit : ℕ) (old new : Outbox) → NextStep now limit old None new → Again now limit (owed old.copies) [] new
stops-again now limit old new s = elim s.step [
  | inl t ↦ rw t.1 (record { taken = []; long = []; splits = refl; sent = refl; left_out = tt; room = inl refl })
  | inr t ↦ elim t [
    | inl u ↦
        let k = all-long now limit old.copies u.1 in
        let a = flying-unowed now limit old.copies u.1 in
        let q = u.0 in
        rw u.3 (record { taken = []; long = owed old.copies; splits = rw k.1 (sym (append-nil (owed old.copies))); sent = refl; left_out = k.0; room = none-or-some (owed old.copies) _ (λ some. inr (omega (arith, a, q))) })
    | inr u ↦
        let es = after_resend now limit old.copies in
        let k = all-long now limit old.copies u.1 in
        let a = flying-unowed now limit old.copies u.1 in
        let b = flying-unsent now limit 0 es u.2 in
        let q = u.0 in
        rw u.3 (record { taken = []; long = owed old.copies; splits = rw (owed-first now limit 0 es, k.1) (sym (append-nil (owed old.copies))); sent = refl; left_out = k.0; room = none-or-some (owed old.copies) _ (λ some. inr (omega (arith, a, b, q))) })
  ]
]

none-taken : (now limit : ℕ) (taken : List SentCopy) (xs : List SentCopy) → taken ≡ [] → SentOf (Long now limit) taken xs → SentOf (Long now limit) [] xs
none-taken now limit taken xs e h = subst (λ (ys : List SentCopy). SentOf (Long now limit) ys xs) e h

stop-again : (more : Bool) (now limit : ℕ) (old new : Outbox) → StopsIf more now limit old new → Again now limit (owed old.copies) [] new
stop-again true now limit old new s = stops-again now limit old new s
stop-again false now limit old new s = rw s (record { taken = []; long = []; splits = refl; sent = refl; left_out = tt; room = inl refl })

flush-again : (more : Bool) (now limit : ℕ) (room : Option ℕ) (old last new : Outbox) (sents : List Sent) → SendsAll now limit room old sents last → StopsIf more now limit last new → Again now limit (owed old.copies) sents new
flush-again more now limit room old last new [] all stops = stop-again more now limit old new (rw all at stops)
flush-again more now limit room old last new (s ∷ ss) all stops =
    let k = flush-again more now limit (room_less now room s.copy) all.1 last new ss all.3 stops in
    elim all.2 [
      | inl n ↦
          let dup : s.dup ≡ true = resent-dup now limit s old.copies n.sent in
          let again : resends (sends_of (s ∷ ss)) ≡ (s.id, s.copy) ∷ resends (sends_of ss) = rw dup refl in
          let first : firsts (sends_of (s ∷ ss)) ≡ firsts (sends_of ss) = rw dup refl in
          let t = split now limit s old.copies n.sent in
          let owes : owed old.copies ≡ t.out ++ (s.id, s.copy) ∷ owed all.1.copies = rw n.left t.is in
          record {
            taken = t.out ++ (s.id, s.copy) ∷ k.taken;
            long = k.long;
            splits = owes ∙ ap (λ (w : List SentCopy). t.out ++ (s.id, s.copy) ∷ w) k.splits ∙ sym (append_assoc t.out ((s.id, s.copy) ∷ k.taken) (k.long ++ owed new.copies));
            sent = rw again (t.out, k.taken, refl, t.long, k.sent);
            left_out = k.left_out;
            room = rw first k.room;
          }
      | inr n ↦
          let a = all-long now limit old.copies n.none_owed in
          let none : owed all.1.copies ≡ [] = rw n.left (owed-first now limit s.id (after_resend now limit old.copies) ∙ a.1) in
          let parts = both-nil k.taken (k.long ++ owed new.copies) (sym k.splits ∙ none) in
          let rest = both-nil k.long (owed new.copies) parts.1 in
          record {
            taken = [];
            long = owed old.copies;
            splits = rw rest.1 (sym (append-nil (owed old.copies)));
            sent = rw n.first (none-taken now limit k.taken (resends (sends_of ss)) parts.0 k.sent);
            left_out = a.0;
            room = inr (inl (rw n.first (λ e. (cc e))));
          }
    ]

-- ---- an event answers some, and then the queue goes on
record Goes (now limit : ℕ) (on : Bool) (e : Event) (mid : Outbox) (r : Reaction) (new : State) : Type 0 where
  pub sents : List Sent
  pub room : Option ℕ
  pub flushes : Flushes now limit room mid sents new.outbox
  pub sent : sent_in r.packets ≡ sents
  pub linked : IsSome new.link
  pub why : (x : SentCopy) → Long now limit x → IsTooLong on limit e x

record Shape (now limit : ℕ) (on : Bool) (e : Event) (start : List SentCopy) (r : Reaction) (new : State) : Type 0 where
  pub mid : Outbox
  pub answers : Without (IsAnswered on e) start (owed mid.copies)
  pub goes : ((new.outbox ≡ mid) × (sent_in r.packets ≡ [])) ⊎ Goes now limit on e mid r new

rests : (now limit : ℕ) (on : Bool) (e : Event) (old : Outbox) (r : Reaction) (new : State) → new.outbox ≡ old → sent_in r.packets ≡ [] → Shape now limit on e (owed old.copies) r new
rests now limit on e old r new same none = record { mid = old; answers = without-refl (IsAnswered on e) (owed old.copies); goes = inl (same, none) }

after-ack : (a : Ack) (now limit : ℕ) (on : Bool) (e : Event) (mid after : Outbox) (sents : List Sent) (s new : State) (r : Reaction) → GoesOnAfter a now limit s.room mid sents after → AreNumbered mid.copies → IsSome s.link → sent_in r.packets ≡ sent_in (publishes_of sents) → new ≡ sent_from s after now sents → ((x : SentCopy) → Long now limit x → IsTooLong on limit e x)
    → ((new.outbox ≡ mid) × (sent_in r.packets ≡ [])) ⊎ Goes now limit on e mid r new
after-ack Done now limit on e mid after sents s new r g n some is left why =
    inr (record { sents = sents; room = s.room; flushes = rw left g; sent = is ∙ sent-publishes now limit sents (flushed now limit s.room mid after sents n g).sound; linked = rw left some; why = why })
after-ack Unknown now limit on e mid after sents s new r g n some is left why = inl (rw left g.1, is ∙ rw g.0 refl)

by-ack : (id : ℕ) (a : Ack) (on : Bool) (k : Packet) (x : SentCopy) → on ≡ true → (EndsBy Any (acknowledged id Done) x → IsAnswered on (takes k 0 true) x) → EndsBy Any (acknowledged id a) x → IsAnswered on (takes k 0 true) x
by-ack id Done on k x is f h = f h
by-ack id Unknown on k x is f h = absurd h

by-rec : (id reason : ℕ) (a : Rec) (on : Bool) (k : Packet) (x : SentCopy) → (EndsBy Any (received id reason rec.Ended) x → IsAnswered on (takes k 0 true) x) → EndsBy Any (received id reason a) x → IsAnswered on (takes k 0 true) x
by-rec id reason rec.Release on k x f h = f h
by-rec id reason rec.Ended on k x f h = f h
by-rec id reason rec.Unknown on k x f h = absurd h
by-rec id reason rec.AtEnd on k x f h = absurd h

pubrec-goes : (a : Rec) (id reason now limit : ℕ) (on : Bool) (e : Event) (s new : State) (mid : Outbox) (r : Reaction) → HasLimit limit s.link → IsSome s.link → AreNumbered mid.copies → ((x : SentCopy) → Long now limit x → IsTooLong on limit e x) → PubrecBy a id reason now limit s mid r new
    → ((new.outbox ≡ mid) × (sent_in r.packets ≡ [])) ⊎ Goes now limit on e mid r new
pubrec-goes rec.Release id reason now limit on e s new mid r is some n why h =
    let q = comes-quiet limit (pubrel id 0) (with_outbox s mid) new r is h in inl (q.same, none-sent limit r.packets q.plain)
pubrec-goes rec.Ended id reason now limit on e s new mid r is some n why h = after-ack Done now limit on e mid h.after h.sents s new r h.flushes n some (rw h.reacts refl) h.left why
pubrec-goes rec.Unknown id reason now limit on e s new mid r is some n why h =
    let q = unknown-quiet id reason limit (with_outbox s mid) new r is h in inl (q.same, none-sent limit r.packets q.plain)
pubrec-goes rec.AtEnd id reason now limit on e s new mid r is some n why h = absurd h

any : (xs : List SentCopy) → AllByRecursion Any xs
any xs = all-of Any (λ x. tt) xs

handshake : (p : Packet) (now limit : ℕ) (room on : Bool) (s new : State) (r : Reaction) → on ≡ true → HasLimit limit s.link → IsSome s.link → AreNumbered s.outbox.copies → IsHandshake p now limit s r new → Shape now limit on (takes p now room) (owed s.outbox.copies) r new
handshake (packets.Puback a) now limit room on s new r opens is some n h =
    let c = acknowledged a.identifier h.answer in record {
      mid = h.mid;
      answers = without-more (EndsBy Any c) (IsAnswered on (takes (packets.Puback a) now room)) (λ x t. by-ack a.identifier h.answer on (packets.Puback a) x opens (λ k. (opens, k)) t) (owed s.outbox.copies) (owed h.mid.copies) (owes-step Any s.outbox h.mid c tt h.takes (any (owed s.outbox.copies)));
      goes = after-ack h.answer now limit on (takes (packets.Puback a) now room) h.mid h.after h.sents s new r h.goes_on (numbered-step s.outbox h.mid c h.takes n) some (rw h.reacts refl) h.left (λ x k. (opens, k));
    }
handshake (packets.Pubrec a) now limit room on s new r opens is some n h =
    let c = received a.identifier a.reason h.answer in record {
      mid = h.mid;
      answers = without-more (EndsBy Any c) (IsAnswered on (takes (packets.Pubrec a) now room)) (λ x t. by-rec a.identifier a.reason h.answer on (packets.Pubrec a) x (λ k. (opens, k)) t) (owed s.outbox.copies) (owed h.mid.copies) (owes-step Any s.outbox h.mid c tt h.takes (any (owed s.outbox.copies)));
      goes = pubrec-goes h.answer a.identifier a.reason now limit on (takes (packets.Pubrec a) now room) s new h.mid r is some (numbered-step s.outbox h.mid c h.takes n) (λ x k. (opens, k)) h.goes_on;
    }
handshake (packets.Pubcomp a) now limit room on s new r opens is some n h =
    let c = completed a.identifier h.answer in record {
      mid = h.mid;
      answers = without-more (EndsBy Any c) (IsAnswered on (takes (packets.Pubcomp a) now room)) (λ x t. absurd t) (owed s.outbox.copies) (owed h.mid.copies) (owes-step Any s.outbox h.mid c tt h.takes (any (owed s.outbox.copies)));
      goes = after-ack h.answer now limit on (takes (packets.Pubcomp a) now room) h.mid h.after h.sents s new r h.goes_on (numbered-step s.outbox h.mid c h.takes n) some (rw h.reacts refl) h.left (λ x k. (opens, k));
    }
handshake p now limit room on s new r opens is some n h = absurd h

packet : (o : Option Link) (limit : ℕ) (on : Bool) (old new : State) (p : Packet) (now : ℕ) (room : Bool) (r : Reaction) → old.link ≡ o → on ≡ is_some o → HasLimit limit o → AreNumbered old.outbox.copies → PacketIf (limit_of o) p now room old r new → Shape now limit on (takes p now room) (owed old.outbox.copies) r new
packet None limit on old new p now room r e opens is n h = rests now limit on (takes p now room) old.outbox r new (rw h.1 refl) (rw h.0 refl)
packet (Some l) limit on old new p now room r e opens is n h =
    let limited = heard-limit limit now l old is e in
    elim (kinds p now room limit (heard old now) r new limited (rw is at h)) [
      | inl q ↦ rests now limit on (takes p now room) old.outbox r new q.0.same (none-sent limit r.packets q.0.plain)
      | inr t ↦ handshake p now limit room on (heard old now) new r opens limited (rw e refl) n t
    ]

none-once : (o : Option ℕ) (now : ℕ) (d : Delivery) → sent_in (once_of o now d) ≡ []
none-once None now d = refl
none-once (Some limit) now d = elim (cases_Bool (outbox.fits now limit d)) [ inl h ↦ rw h refl | inr h ↦ rw h refl ]

goes-on : (o : Option Link) (now limit : ℕ) (on : Bool) (e : Event) (mid after : Outbox) (sents : List Sent) (s new : State) (r : Reaction) → s.link ≡ o → on ≡ is_some o → HasLimit limit o → GoesOn (limit_of o) now s.room mid sents after → AreNumbered mid.copies → sent_in r.packets ≡ sent_in (publishes_of sents) → new ≡ sent_from s after now sents → (on ≡ true → (x : SentCopy) → Long now limit x → IsTooLong on limit e x)
    → ((new.outbox ≡ mid) × (sent_in r.packets ≡ [])) ⊎ Goes now limit on e mid r new
goes-on None now limit on e mid after sents s new r is opens has g n sent left why = inl (rw left g.1, sent ∙ rw g.0 refl)
goes-on (Some l) now limit on e mid after sents s new r is opens has g n sent left why =
    let f = rw has at g in
    inr (record { sents = sents; room = s.room; flushes = rw left f; sent = sent ∙ sent-publishes now limit sents (flushed now limit s.room mid after sents n f).sound; linked = rw (left, is) refl; why = why opens })

queue : (b : Bool) (limit : ℕ) (on : Bool) (old new : State) (d : Delivery) (now : ℕ) (r : Reaction) → on ≡ is_some old.link → HasLimit limit old.link → AreNumbered old.outbox.copies → QueueIf b old d now r new → Shape now limit on (queues d now) (owed old.outbox.copies) r new
queue true limit on old new d now r opens is n q = rests now limit on (queues d now) old.outbox r new (rw q.1 refl) (rw q.0 (none-once (limit_of old.link) now d))
queue false limit on old new d now r opens is n (inl q) =
    let c = offered d Queued in record {
      mid = q.mid;
      answers = without-more (EndsBy Any c) (IsAnswered on (queues d now)) (λ x t. absurd t) (owed old.outbox.copies) (owed q.mid.copies) (owes-step Any old.outbox q.mid c tt q.offers (any (owed old.outbox.copies)));
      goes = goes-on old.link now limit on (queues d now) q.mid q.after q.sents old new r refl opens is q.goes_on (numbered-step old.outbox q.mid c q.offers n) (rw q.reacts refl) q.left (λ t x k. (t, k));
    }
queue false limit on old new d now r opens is n (inr q) = rests now limit on (queues d now) old.outbox r new (rw q.left refl) (rw q.reacts refl)

room-goes : (limit : ℕ) (on : Bool) (old new : State) (bytes now : ℕ) (r : Reaction) → on ≡ is_some old.link → HasLimit limit old.link → AreNumbered old.outbox.copies → RoomStep bytes now old r new → Shape now limit on (rooms bytes now) (owed old.outbox.copies) r new
room-goes limit on old new bytes now r opens is n q = record {
  mid = old.outbox;
  answers = without-refl (IsAnswered on (rooms bytes now)) (owed old.outbox.copies);
  goes = goes-on old.link now limit on (rooms bytes now) old.outbox q.after q.sents (with_room old bytes) new r refl opens is q.goes_on n (rw q.reacts refl) q.left (λ t x k. (t, k));
}

owed-away : (x : Entry) → owed_part (record x { here = false }) ≡ published_part x
owed-away x = elim (cases_Bool (is_published x.stage)) [ inl h ↦ rw h refl | inr h ↦ rw h refl ]

opens-shape : (b : Bool) (on : Bool) (old new : State) (c : Connect) (p : Packet) (continued : Bool) (room : Option ℕ) (now : ℕ) (r : Reaction) → AreNumbered old.outbox.copies → OpensIf b old c p room now r new → Shape now (limit_in c.properties) on (connects c continued room now) (published old.outbox.copies) r new
opens-shape true on old new c p continued room now r n h =
    let mid = resumed_by old.outbox c in
    let numbered = numbered-step old.outbox mid (resumed (maximum_in c)) refl n in
    record {
      mid = mid;
      answers = without-same (IsAnswered on (connects c continued room now)) (published old.outbox.copies) (owed (away old.outbox.copies)) (chosen-away owed_part published_part owed-away old.outbox.copies);
      goes = inr (record {
        sents = h.sents;
        room = room;
        flushes = rw h.left h.flushes;
        sent = rw (h.reacts, sent-pubrels h.ids (publishes_of h.sents)) (sent-publishes now (limit_in c.properties) h.sents (flushed now (limit_in c.properties) room mid h.after h.sents numbered h.flushes).sound);
        linked = rw h.left refl;
        why = λ x k. k;
      });
    }
opens-shape false on old new c p continued room now r n h = record {
  mid = resumed_by old.outbox c;
  answers = without-same (IsAnswered on (connects c continued room now)) (published old.outbox.copies) (owed (away old.outbox.copies)) (chosen-away owed_part published_part owed-away old.outbox.copies);
  goes = inl (rw h.1 refl, rw h.0 refl);
}

-- an event on a connection that goes on
shape : (limit : ℕ) (on : Bool) (old new : State) (e : Event) (r : Reaction) → StaysConnected e → on ≡ is_some old.link → HasLimit limit old.link → AreNumbered old.outbox.copies → Reacts old e r new → Shape (moment_of e) (limit_after limit e) on e (owed old.outbox.copies) r new
shape limit on old new (connects c continued room now) r k opens is n h = absurd k
shape limit on old new (queues d now) r k opens is n h = queue (is_once d.qos) limit on old new d now r opens is n h
shape limit on old new (rooms bytes now) r k opens is n h = room-goes limit on old new bytes now r opens is n h
shape limit on old new (takes p now room) r k opens is n h = packet old.link limit on old new p now room r refl opens is n h
shape limit on old new (answers id codes) r k opens is n h = let q = quiet-answer old.link limit id codes old r new refl is h in rests 0 limit on (answers id codes) old.outbox r new q.same (none-sent limit r.packets q.plain)
shape limit on old new (closes now) r k opens is n h = rests now limit on (closes now) old.outbox r new (rw h.1 refl) (rw h.0 refl)
shape limit on old new (ticks now) r k opens is n h = let q = quiet-tick limit now old r new is h in rests now limit on (ticks now) old.outbox r new q.same (none-sent limit r.packets q.plain)
shape limit on old new (finishes now) r k opens is n h = rests now limit on (finishes now) old.outbox r new (rw h.1 refl) (rw h.0 refl)
shape limit on old new loses r k opens is n h = absurd k

-- ---- marks that come send nothing
abbrev IsPlain : Mark → Type 0
IsPlain m = (first_of m ≡ []) × (again_of m ≡ [])

plain-in : (p : Packet) → AllByRecursion IsPlain (marks_in p)
plain-in (packets.Puback a) = ((refl, refl), tt)
plain-in (packets.Pubrec a) = ((refl, refl), tt)
plain-in (packets.Pubcomp a) = ((refl, refl), tt)
plain-in (packets.Publish p) = tt
plain-in (packets.Pubrel p) = tt
plain-in (packets.Subscribe p) = tt
plain-in (packets.Unsubscribe p) = tt
plain-in packets.Pingreq = tt
plain-in (packets.Disconnect p) = tt
plain-in (packets.Connect p) = tt
plain-in (packets.Connack p) = tt
plain-in (packets.Suback p) = tt
plain-in (packets.Unsuback p) = tt
plain-in packets.Pingresp = tt
plain-in (packets.Auth p) = tt

plain-by : (on : Bool) (e : Event) → AllByRecursion IsPlain (marks_by on e)
plain-by on (connects c continued room now) = ((refl, refl), tt)
plain-by on (queues d now) = tt
plain-by on (rooms bytes now) = tt
plain-by true (takes p now room) = plain-in p
plain-by false (takes p now room) = tt
plain-by on (answers id codes) = tt
plain-by on (closes now) = tt
plain-by on (ticks now) = tt
plain-by on (finishes now) = tt
plain-by on loses = ((refl, refl), tt)

resends-plain : (ms ns : List Mark) → AllByRecursion IsPlain ms → resends (ms ++ ns) ≡ resends ns
resends-plain [] ns h = refl
resends-plain (m ∷ ms) ns h = rw h.0.1 (resends-plain ms ns h.1)

firsts-plain : (ms ns : List Mark) → AllByRecursion IsPlain ms → firsts (ms ++ ns) ≡ firsts ns
firsts-plain [] ns h = refl
firsts-plain (m ∷ ms) ns h = rw h.0.0 (firsts-plain ms ns h.1)

-- ---- the events
all-weaker : {A : Type 0} (P Q : A → Type 0) → ((x : A) → P x → Q x) → (xs : List A) → AllByRecursion P xs → AllByRecursion Q xs
all-weaker P Q f [] h = tt
all-weaker P Q f (x ∷ xs) h = (f x h.0, all-weaker P Q f xs h.1)

sent-weaker : {A : Type 0} (P Q : A → Type 0) → ((x : A) → P x → Q x) → (taken xs : List A) → SentOf P taken xs → SentOf Q taken xs
sent-weaker P Q f taken [] h = h
sent-weaker P Q f taken (x ∷ xs) h = (h.0, h.1, h.2, all-weaker P Q f h.0 h.3, sent-weaker P Q f h.1 xs h.4)

sends-again : (on : Bool) (t : Told) (start : List SentCopy) (s : Step) (new : State) → Tells t new → Shape (moment_of s.event) t.limit on s.event start s.reaction new → SendsAgain on t start s (owed new.outbox.copies)
sends-again on t start s new h k =
    let again : resends (marks_of on s) ≡ resends (sends_of (sent_in s.reaction.packets)) = resends-plain (marks_by on s.event) (sends_of (sent_in s.reaction.packets)) (plain-by on s.event) in
    let first : firsts (marks_of on s) ≡ firsts (sends_of (sent_in s.reaction.packets)) = firsts-plain (marks_by on s.event) (sends_of (sent_in s.reaction.packets)) (plain-by on s.event) in
    elim k.goes [
      | inl g ↦ record {
        unanswered = owed k.mid.copies;
        taken = [];
        long = [];
        answers = k.answers;
        splits = ap (λ (o : Outbox). owed o.copies) (sym g.0);
        sent = rw (again, g.1) refl;
        left_out = tt;
        room = inl refl;
      }
      | inr g ↦
          let f = flush-again (has_room (room_after (moment_of s.event) g.room g.sents)) (moment_of s.event) t.limit g.room k.mid g.flushes.last new.outbox g.sents g.flushes.sends g.flushes.stops in
          record {
            unanswered = owed k.mid.copies;
            taken = f.taken;
            long = f.long;
            answers = k.answers;
            splits = f.splits;
            sent = rw (again, g.sent) (sent-weaker (Long (moment_of s.event) t.limit) (IsTooLong on t.limit s.event) g.why f.taken (resends (sends_of g.sents)) f.sent);
            left_out = all-weaker (Long (moment_of s.event) t.limit) (IsTooLong on t.limit s.event) g.why f.long f.left_out;
            room = rw (first, g.sent) (elim f.room [
              | inl e ↦ inl e
              | inr m ↦ elim m [
                | inl some ↦ inr (inl some)
                | inr q ↦
                    let same : length t.flying ≡ length (here_ids new.outbox.copies) = ap (λ (xs : List ℕ). length xs) h.flying in
                    let most = h.maximum in
                    inr (inr (h.on ∙ g.linked, omega (arith, q, same, most, in_flight-here new.outbox.copies h.laid)))
              ]
            ]);
          }
    ]

owed-run : (t : Told) (old : State) (steps : List Step) (end : State) → Tells t old → AllByRecursion (λ (s : Step). StaysConnected s.event) steps → Run old steps end → OwedOver t (owed old.outbox.copies) steps (owed end.outbox.copies)
owed-run t old [] end h k r = rw r refl
owed-run t old (s ∷ ss) end h k r =
    let next = tells-after t old s ss end r h in (
      owed r.0.outbox.copies,
      sends-again t.on (told_after t s) (owed old.outbox.copies) s r.0 next (shape t.limit t.on old r.0 s.event s.reaction k.0 h.on h.limited h.numbered r.1),
      owed-run (told_after t s) r.0 ss end next k.1 r.2,
    )

pub tells-over : (t : Told) (old : State) (steps : List Step) (end : State) → Tells t old → Run old steps end → Tells (told_over t steps) end
tells-over t old [] end h r = rw r h
tells-over t old (s ∷ ss) end h r = tells-over (told_after t s) r.0 ss end (tells-after t old s ss end r h) r.2

pub keeps_owed : KeepsOwed
keeps_owed = λ client before here c continued room now r end stay run.
    let first : Step = record { event = connects c continued room now; reaction = r } in
    let t = run-split (new_session client) before (first ∷ here) end run in
    let told = told_over told_nothing before in
    let h = tells-over told_nothing (new_session client) before t.0 (tells-nothing client) t.1 in
    let next = tells-after told t.0 first here end t.2 h in
    let p = connack continued c.client t.0.kept.client in
    record {
      going = published t.0.outbox.copies;
      was = keeps_open client before t.0 t.1;
      is = (
        owed t.2.0.outbox.copies,
        sends-again told.on (told_after told first) (published t.0.outbox.copies) first t.2.0 next (opens-shape (answer_packets.fits (limit_in c.properties) p) told.on t.0 t.2.0 c p continued room now r h.numbered t.2.1.1),
        owed-run (told_after told first) t.2.0 here end next stay t.2.2,
      );
    }
