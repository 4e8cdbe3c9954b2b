-- An event leaves the queue, or the queue goes on.
use Rattle.std.proofs.Common.{◌≡◌, ℕ, ◌⊎◌, Bool, true, false, cond, List, [], ◌∷◌, ◌++◌, Option, Some, None, IsSome, refl, sym, ◌∙◌, ap, inl, inr}
use Rattle.std.proofs.lemmas.Bool.{cases_Bool}
use Rattle.mqtt_packets.specs.declared.connect.Connect.{Connect}
use Rattle.mqtt_packets.specs.declared.packet.Packet.{Packet}
use Rattle.mqtt_packets.specs.declared.packet.Packet.TheVariants as packets
use Rattle.mqtt_message.specs.declared.delivery.Delivery.{Delivery}
use Rattle.qos_handshakes.specs.declared.answers.Ack.{Ack}
use Rattle.qos_handshakes.specs.declared.answers.Ack.TheVariants.{Done, Unknown}
use Rattle.qos_handshakes.specs.declared.answers.Offer.TheVariants.{Queued}
use Rattle.qos_handshakes.specs.declared.answers.Rec.{Rec}
use Rattle.qos_handshakes.specs.declared.answers.Rec.TheVariants as rec
use Rattle.qos_handshakes.specs.declared.copies.Entry.{Entry}
use Rattle.qos_handshakes.specs.Entries.{Entries, as_released, find_id}
use Rattle.qos_handshakes.specs.Outbox as outbox
use Rattle.qos_handshakes.specs.Outbox.{Outbox, Sent, EndStep, ReceivedIf, ReceivedStep, away, waiting, waiting_entry, waits}
use Rattle.law_handshakes.specs.Numbers.{AreNumbered}
use Rattle.law_handshakes.specs.Runs.{offered, acknowledged, completed, received, resumed}
use Rattle.law_handshakes.proofs.ChosenLaws.{append-nil}
use Rattle.law_handshakes.proofs.NumberLaws.{numbered-step}
use Rattle.law_handshakes.proofs.OrderLaws.{waiting-append, waiting-drop_id, waiting-write_id}
use Rattle.mqtt_sessions.specs.Answers.{pubrel, connack, fits}
use Rattle.mqtt_sessions.specs.Connecting.{OpensIf, resumed_by}
use Rattle.mqtt_sessions.specs.Packets.{GoesOnAfter, PubrecBy, PacketIf}
use Rattle.mqtt_sessions.specs.Reaction.{Reaction, publishes_of}
use Rattle.mqtt_sessions.specs.Sending.{Flushes, GoesOn, is_once, once_of, QueueIf, RoomStep, with_room}
use Rattle.mqtt_sessions.specs.State.{State, Link, heard, limit_in, limit_of, sent_from, with_outbox}
use Rattle.law_sessions.specs.Order.{queued_by}
use Rattle.law_sessions.specs.Runs.{Event, connects, queues, rooms, takes, answers, closes, ticks, finishes, loses, Reacts, limit_after}
use Rattle.law_sessions.specs.Sends.{sent_in, maximum_in}
use Rattle.law_sessions.specs.Sizes.{moment_of}
use Rattle.law_sessions.proofs.CallLaws.{flushed, sent-publishes, sent-pubrels}
use Rattle.law_sessions.proofs.ProjectLaws.{comes-quiet, unknown-quiet, heard-limit}
use Rattle.law_sessions.proofs.QuietLaws.{HasLimit, IsHandshake, none-sent, quiet-answer, quiet-tick, kinds}
use Rattle.law_deliveries.specs.Queue.{joins_by}

-- nothing is sent at QoS 1 or 2, and what waits stays, with what is added
pub record Rests (old : Outbox) (joins : List Delivery) (r : Reaction) (new : State) : Type 0 where
  pub queue : waiting new.outbox.copies ≡ waiting old.copies ++ joins
  pub sent : sent_in r.packets ≡ []

-- the queue goes on, with what is added
pub record Flows (now limit : ℕ) (old : Outbox) (joins : List Delivery) (r : Reaction) (new : State) : Type 0 where
  pub mid : Outbox
  pub sents : List Sent
  pub queue : waiting mid.copies ≡ waiting old.copies ++ joins
  pub room : Option ℕ
  pub flushes : Flushes now limit room mid sents new.outbox
  pub sent : sent_in r.packets ≡ sents
  pub linked : IsSome new.link
  pub numbered : AreNumbered mid.copies

abbrev pub Shape : ℕ → ℕ → Outbox → List Delivery → Reaction → State → Type 0
Shape now limit old joins r new = Rests old joins r new ⊎ Flows now limit old joins r new

pub waiting-away : (es : Entries) → waiting (away es) ≡ waiting es
waiting-away [] = refl
waiting-away (e ∷ es) = ap (λ (t : List Delivery). cond (waits e.1.stage) (e.1.delivery ∷ t) t) (waiting-away es)

with-none : (old new : Entries) → waiting new ≡ waiting old → waiting new ≡ waiting old ++ []
with-none old new e = e ∙ sym (append-nil (waiting old))

rests : (now limit : ℕ) (old : Outbox) (r : Reaction) (new : State) → waiting new.outbox.copies ≡ waiting old.copies → sent_in r.packets ≡ [] → Shape now limit old [] r new
rests now limit old r new e none = inl (record { queue = with-none old.copies new.outbox.copies e; sent = none })

rests-on : (now limit : ℕ) (old : Outbox) (r : Reaction) (new : State) → new.outbox ≡ old → sent_in r.packets ≡ [] → Shape now limit old [] r new
rests-on now limit old r new e none = rests now limit old r new (ap (λ (o : Outbox). waiting o.copies) e) none

-- ---- PUBACK, PUBCOMP and PUBREC
queue-ended : (ends : Bool) (old mid : Outbox) (id : ℕ) (a : Ack) → EndStep ends old id a mid → waiting mid.copies ≡ waiting old.copies
queue-ended ends old mid id Done s = rw s.1 (waiting-drop_id id old.copies)
queue-ended ends old mid id Unknown s = rw s.1 refl

after-shape : (a : Ack) (now limit : ℕ) (old mid after : Outbox) (sents : List Sent) (s new : State) (r : Reaction) → GoesOnAfter a now limit s.room mid sents after → waiting mid.copies ≡ waiting old.copies → AreNumbered mid.copies → IsSome s.link → sent_in r.packets ≡ sent_in (publishes_of sents) → new ≡ sent_from s after now sents
    → Shape now limit old [] r new
after-shape Done now limit old mid after sents s new r g e n some is left =
    inr (record { mid = mid; sents = sents; queue = with-none old.copies mid.copies e; room = s.room; flushes = rw left g; sent = is ∙ sent-publishes now limit sents (flushed now limit s.room mid after sents n g).sound; linked = rw left some; numbered = n })
after-shape Unknown now limit old mid after sents s new r g e n some is left = rests now limit old r new (rw (left, g.1) e) (is ∙ rw g.0 refl)

queue-received : (o : Option Entry) (old mid : Outbox) (id reason : ℕ) (a : Rec) → ReceivedIf o old id reason a mid → waiting mid.copies ≡ waiting old.copies
queue-received None old mid id reason a s = rw s.1 refl
queue-received (Some x) old mid id reason rec.Release (inl s) = rw s.3 (waiting-write_id (as_released id old.next_order) (λ _. refl) id old.copies)
queue-received (Some x) old mid id reason rec.Release (inr s) = rw s.1 refl
queue-received (Some x) old mid id reason rec.Ended s = rw s.2 (waiting-drop_id id old.copies)
queue-received (Some x) old mid id reason rec.Unknown s = rw s.2 refl
queue-received (Some x) old mid id reason rec.AtEnd s = rw s.3 refl

pubrec-shape : (a : Rec) (id reason now limit : ℕ) (s new : State) (mid : Outbox) (r : Reaction) → HasLimit limit s.link → IsSome s.link → waiting mid.copies ≡ waiting s.outbox.copies → AreNumbered mid.copies → PubrecBy a id reason now limit s mid r new → Shape now limit s.outbox [] r new
pubrec-shape rec.Release id reason now limit s new mid r is some e n h =
    let q = comes-quiet limit (pubrel id 0) (with_outbox s mid) new r is h in rests now limit s.outbox r new (ap (λ (o : Outbox). waiting o.copies) q.same ∙ e) (none-sent limit r.packets q.plain)
pubrec-shape rec.Ended id reason now limit s new mid r is some e n h = after-shape Done now limit s.outbox mid h.after h.sents s new r h.flushes e n some (rw h.reacts refl) h.left
pubrec-shape rec.Unknown id reason now limit s new mid r is some e n h =
    let q = unknown-quiet id reason limit (with_outbox s mid) new r is h in rests now limit s.outbox r new (ap (λ (o : Outbox). waiting o.copies) q.same ∙ e) (none-sent limit r.packets q.plain)
pubrec-shape rec.AtEnd id reason now limit s new mid r is some e n h = absurd h

handshake-shape : (p : Packet) (now limit : ℕ) (s new : State) (r : Reaction) → HasLimit limit s.link → IsSome s.link → AreNumbered s.outbox.copies → IsHandshake p now limit s r new → Shape now limit s.outbox [] r new
handshake-shape (packets.Puback a) now limit s new r is some n h =
    after-shape h.answer now limit s.outbox h.mid h.after h.sents s new r h.goes_on (queue-ended _ s.outbox h.mid a.identifier h.answer h.takes) (numbered-step s.outbox h.mid (acknowledged a.identifier h.answer) h.takes n) some (rw h.reacts refl) h.left
handshake-shape (packets.Pubrec a) now limit s new r is some n h =
    pubrec-shape h.answer a.identifier a.reason now limit s new h.mid r is some (queue-received (find_id a.identifier s.outbox.copies) s.outbox h.mid a.identifier a.reason h.answer h.takes) (numbered-step s.outbox h.mid (received a.identifier a.reason h.answer) h.takes n) h.goes_on
handshake-shape (packets.Pubcomp a) now limit s new r is some n h =
    after-shape h.answer now limit s.outbox h.mid h.after h.sents s new r h.goes_on (queue-ended _ s.outbox h.mid a.identifier h.answer h.takes) (numbered-step s.outbox h.mid (completed a.identifier h.answer) h.takes n) some (rw h.reacts refl) h.left
handshake-shape p now limit s new r is some n h = absurd h

packet-shape : (o : Option Link) (limit : ℕ) (old new : State) (p : Packet) (now : ℕ) (room : Bool) (r : Reaction) → old.link ≡ o → HasLimit limit o → AreNumbered old.outbox.copies → PacketIf (limit_of o) p now room old r new → Shape now limit old.outbox [] r new
packet-shape None limit old new p now room r e is n h = rests-on now limit old.outbox r new (rw h.1 refl) (rw h.0 refl)
packet-shape (Some l) limit old new p now room r e is n h =
    let limited = heard-limit limit now l old is e in
    elim (kinds p now room limit (heard old now) r new limited (rw is at h)) [
      | inl q ↦ rests-on now limit old.outbox r new q.0.same (none-sent limit r.packets q.0.plain)
      | inr t ↦ handshake-shape p now limit (heard old now) new r limited (rw e refl) n t
    ]

-- ---- the others
opens-shape : (b : Bool) (old new : State) (c : Connect) (p : Packet) (room : Option ℕ) (now : ℕ) (r : Reaction) → AreNumbered old.outbox.copies → OpensIf b old c p room now r new → Shape now (limit_in c.properties) old.outbox [] r new
opens-shape true old new c p room now r n h =
    let mid = resumed_by old.outbox c in
    let numbered = numbered-step old.outbox mid (resumed (maximum_in c)) refl n in
    inr (record {
      mid = mid;
      sents = h.sents;
      queue = with-none old.outbox.copies (away old.outbox.copies) (waiting-away old.outbox.copies);
      room = room;
      flushes = rw h.left h.flushes;
      sent = rw (h.reacts, sent-pubrels h.ids (publishes_of h.sents)) (sent-publishes now (limit_in c.properties) h.sents (flushed now (limit_in c.properties) room mid h.after h.sents numbered h.flushes).sound);
      linked = rw h.left refl;
      numbered = numbered;
    })
opens-shape false old new c p room now r n h = rests now (limit_in c.properties) old.outbox r new (rw h.1 (waiting-away old.outbox.copies)) (rw h.0 refl)

none-once : (o : Option ℕ) (now : ℕ) (d : Delivery) → sent_in (once_of o now d) ≡ []
none-once None now d = refl
none-once (Some limit) now d = elim (cases_Bool (outbox.fits now limit d)) [ inl h ↦ rw h refl | inr h ↦ rw h refl ]

goes-shape : (o : Option Link) (now limit : ℕ) (old mid after : Outbox) (sents : List Sent) (joins : List Delivery) (s new : State) (r : Reaction) → s.link ≡ o → HasLimit limit o → GoesOn (limit_of o) now s.room mid sents after → waiting mid.copies ≡ waiting old.copies ++ joins → AreNumbered mid.copies → sent_in r.packets ≡ sent_in (publishes_of sents) → new ≡ sent_from s after now sents
    → Shape now limit old joins r new
goes-shape None now limit old mid after sents joins s new r e is g q n sent left = inl (record { queue = rw (left, g.1) q; sent = sent ∙ rw g.0 refl })
goes-shape (Some l) now limit old mid after sents joins s new r e is g q n sent left =
    let f = rw is at g in
    inr (record { mid = mid; sents = sents; queue = q; room = s.room; flushes = rw left f; sent = sent ∙ sent-publishes now limit sents (flushed now limit s.room mid after sents n f).sound; linked = rw (left, e) refl; numbered = n })

queue-shape : (b : Bool) (limit : ℕ) (old new : State) (d : Delivery) (now : ℕ) (r : Reaction) → is_once d.qos ≡ b → HasLimit limit old.link → AreNumbered old.outbox.copies → QueueIf b old d now r new → Shape now limit old.outbox (joins_by (queues d now) r) r new
queue-shape true limit old new d now r once is n q = rw (q.0, once) (rests now limit old.outbox _ new (rw q.1 refl) (none-once (limit_of old.link) now d))
queue-shape false limit old new d now r once is n (inl q) =
    let join : waiting q.mid.copies ≡ waiting old.outbox.copies ++ d ∷ [] = rw q.offers.2 (waiting-append old.outbox.copies ((old.outbox.next_place, waiting_entry d) ∷ [])) in
    let shape = goes-shape old.link now limit old.outbox q.mid q.after q.sents (d ∷ []) old new r refl is q.goes_on join (numbered-step old.outbox q.mid (offered d Queued) q.offers n) (rw q.reacts refl) q.left in
    let full : r.full ≡ false = rw q.reacts refl in
    let joins : joins_by (queues d now) r ≡ d ∷ [] = rw (full, once) refl in
    rw joins shape
queue-shape false limit old new d now r once is n (inr q) =
    let full : r.full ≡ true = rw q.reacts refl in
    let joins : joins_by (queues d now) r ≡ [] = rw full refl in
    rw joins (rests now limit old.outbox r new (rw q.left refl) (rw q.reacts refl))

room-shape : (limit : ℕ) (old new : State) (bytes now : ℕ) (r : Reaction) → HasLimit limit old.link → AreNumbered old.outbox.copies → RoomStep bytes now old r new → Shape now limit old.outbox [] r new
room-shape limit old new bytes now r is n q =
    goes-shape old.link now limit old.outbox old.outbox q.after q.sents [] (with_room old bytes) new r refl is q.goes_on (with-none old.outbox.copies old.outbox.copies refl) n (rw q.reacts refl) q.left

-- an event other than a queued delivery adds nothing
adds-none : (now limit : ℕ) (old : Outbox) (e : Event) (r : Reaction) (new : State) → queued_by e ≡ [] → Shape now limit old [] r new → Shape now limit old (joins_by e r) r new
adds-none now limit old e r new none h = let same : joins_by e r ≡ [] = elim (cases_Bool r.full) [ inl t ↦ rw t refl | inr t ↦ rw t none ] in rw same h

pub shape : (limit : ℕ) (old new : State) (e : Event) (r : Reaction) → HasLimit limit old.link → AreNumbered old.outbox.copies → Reacts old e r new → Shape (moment_of e) (limit_after limit e) old.outbox (joins_by e r) r new
shape limit old new (connects c continued room now) r is n h = adds-none now (limit_in c.properties) old.outbox (connects c continued room now) r new refl (opens-shape (fits (limit_in c.properties) (connack continued c.client old.kept.client)) old new c (connack continued c.client old.kept.client) room now r n h.1)
shape limit old new (queues d now) r is n h = queue-shape (is_once d.qos) limit old new d now r refl is n h
shape limit old new (rooms bytes now) r is n h = adds-none now limit old.outbox (rooms bytes now) r new refl (room-shape limit old new bytes now r is n h)
shape limit old new (takes p now room) r is n h = adds-none now limit old.outbox (takes p now room) r new refl (packet-shape old.link limit old new p now room r refl is n h)
shape limit old new (answers id codes) r is n h =
    let q = quiet-answer old.link limit id codes old r new refl is h in adds-none 0 limit old.outbox (answers id codes) r new refl (rests-on 0 limit old.outbox r new q.same (none-sent limit r.packets q.plain))
shape limit old new (closes now) r is n h = adds-none now limit old.outbox (closes now) r new refl (rests-on now limit old.outbox r new (rw h.1 refl) (rw h.0 refl))
shape limit old new (ticks now) r is n h =
    let q = quiet-tick limit now old r new is h in adds-none now limit old.outbox (ticks now) r new refl (rests-on now limit old.outbox r new q.same (none-sent limit r.packets q.plain))
shape limit old new (finishes now) r is n h = adds-none now limit old.outbox (finishes now) r new refl (rests-on now limit old.outbox r new (rw h.1 refl) (rw h.0 refl))
shape limit old new loses r is n h = adds-none 0 limit old.outbox loses r new refl (rests 0 limit old.outbox r new (rw h.outbox (waiting-away old.outbox.copies)) (rw h.quiet refl))
