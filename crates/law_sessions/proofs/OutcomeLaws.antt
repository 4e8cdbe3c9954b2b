-- Each event has one outcome.
use Rattle.std.proofs.Common.{◌≡◌, ℕ, Bool, true, false, List, ◌∷◌, ◌++◌, Option, Some, None, sym, ap, ◌∙◌, inl, inr, arith}
use Rattle.mqtt_message.specs.declared.delivery.Delivery.{Delivery}
use Rattle.mqtt_packets.specs.declared.connect.Connect.{Connect}
use Rattle.mqtt_packets.specs.declared.packet.Packet.{Packet}
use Rattle.mqtt_packets.specs.declared.packet.Packet.TheVariants as packets
use Rattle.mqtt_packets.specs.declared.subscribe.Subscribe.{Subscribe}
use Rattle.qos_handshakes.specs.declared.answers.Ack.{Ack}
use Rattle.qos_handshakes.specs.declared.answers.Ack.TheVariants.{Done, Unknown}
use Rattle.qos_handshakes.specs.declared.answers.Offer.TheVariants.{Queued, Full, AtEnd}
use Rattle.qos_handshakes.specs.declared.answers.Rec.{Rec}
use Rattle.qos_handshakes.specs.declared.answers.Rec.TheVariants as rec
use Rattle.qos_handshakes.specs.Entries.{find_id}
use Rattle.qos_handshakes.specs.Incoming.{Received}
use Rattle.qos_handshakes.specs.Outbox.{Outbox, Sent, OfferStep, ReceivedStep, is_acknowledged, is_completed}
use Rattle.mqtt_sessions.specs.declared.reaction.Output.TheVariants.{Answer}
use Rattle.mqtt_sessions.specs.Answers.{connack, fits}
use Rattle.mqtt_sessions.specs.Asking.{SubscribeStep}
use Rattle.mqtt_sessions.specs.Connecting.{Opens, OpensIf, begun, resumed_by}
use Rattle.mqtt_sessions.specs.Packets.{GoesOnAfter, KindStep, PacketEndsIf, PacketIf, PubackStep, PubcompStep, PubrecStep, PubrecBy, EndsExchange, SaysUnknown}
use Rattle.mqtt_sessions.specs.Reaction.{Reaction, says, publishes_of, pubrels_of}
use Rattle.mqtt_sessions.specs.Sending.{GoesOn, Queues, QueueIf, RoomStep, is_once, with_room}
use Rattle.mqtt_sessions.specs.State.{Kept, Link, State, limit_in, limit_of, heard, sent_from, with_outbox}
use Rattle.law_sessions.specs.Outcomes.{OneOutcome, EndsOrReacts}
use Rattle.law_sessions.specs.Runs.{connects, queues, rooms, takes, answers, closes, ticks, finishes, loses, LostStep}
use Rattle.law_sessions.proofs.StepLaws.{offer-once, end-once, received-once, flushes-once}

abbrev Same : Reaction → State → Reaction → State → Type 0
Same r new r' new' = (r ≡ r') × (new ≡ new')

-- what the queue sends, and what is left of it
same-from : (s : State) (now : ℕ) (after after' : Outbox) (ss ts : List Sent) → (ss ≡ ts) × (after ≡ after') → sent_from s after now ss ≡ sent_from s after' now ts
same-from s now after after' ss ts same = ap (λ (o : Outbox). sent_from s o now ss) same.1 ∙ ap (λ (sents : List Sent). sent_from s after' now sents) same.0

goes-same : (s : State) (now : ℕ) (after after' : Outbox) (ss ts : List Sent) (r r' : Reaction) (new new' : State) → (ss ≡ ts) × (after ≡ after') → r ≡ says (publishes_of ss) → r' ≡ says (publishes_of ts) → new ≡ sent_from s after now ss → new' ≡ sent_from s after' now ts → Same r new r' new'
goes-same s now after after' ss ts r r' new new' same is is' left left' =
    (is ∙ ap (λ (sents : List Sent). says (publishes_of sents)) same.0 ∙ sym is', left ∙ same-from s now after after' ss ts same ∙ sym left')

-- ---- connect
opens-once : (old : State) (c : Connect) (answer : Packet) (room : Option ℕ) (now : ℕ) (r r' : Reaction) (new new' : State) → Opens old c answer room now r new → Opens old c answer room now r' new' → Same r new r' new'
opens-once old c answer room now r r' new new' h g =
    let ids : h.ids ≡ g.ids = h.lists.0 ∙ sym g.lists.0 in
    let same = flushes-once now (limit_in c.properties) room (resumed_by old.outbox c) h.after g.after h.sents g.sents h.flushes g.flushes in (
      h.reacts ∙ ap (λ (is : List ℕ). says (Answer answer ∷ pubrels_of is ++ publishes_of h.sents)) ids ∙ ap (λ (sents : List Sent). says (Answer answer ∷ pubrels_of g.ids ++ publishes_of sents)) same.0 ∙ sym g.reacts,
      h.left ∙ same-from (begun old c room now) now h.after g.after h.sents g.sents same ∙ sym g.left,
    )

opens-if-once : (b : Bool) (old : State) (c : Connect) (answer : Packet) (room : Option ℕ) (now : ℕ) (r r' : Reaction) (new new' : State) → OpensIf b old c answer room now r new → OpensIf b old c answer room now r' new' → Same r new r' new'
opens-if-once true old c answer room now r r' new new' h g = opens-once old c answer room now r r' new new' h g
opens-if-once false old c answer room now r r' new new' h g = (h.0 ∙ sym g.0, h.1 ∙ sym g.1)

-- ---- queue
goes-once : (limit : Option ℕ) (now : ℕ) (room : Option ℕ) (old new new' : Outbox) (ss ts : List Sent) → GoesOn limit now room old ss new → GoesOn limit now room old ts new' → (ss ≡ ts) × (new ≡ new')
goes-once None now room old new new' ss ts h g = (h.0 ∙ sym g.0, h.1 ∙ sym g.1)
goes-once (Some limit) now room old new new' ss ts h g = flushes-once now limit room old new new' ss ts h g

queues-once : (old : State) (d : Delivery) (now : ℕ) (r r' : Reaction) (new new' : State) → Queues old d now r new → Queues old d now r' new' → Same r new r' new'
queues-once old d now r r' new new' h g =
    let mid = (offer-once old.outbox h.mid g.mid d Queued Queued h.offers g.offers).1 in
    goes-same old now h.after g.after h.sents g.sents r r' new new' (goes-once (limit_of old.link) now old.room h.mid h.after g.after h.sents g.sents h.goes_on (rw (← mid) at g.goes_on)) h.reacts g.reacts h.left g.left

queue-if-once : (b : Bool) (old : State) (d : Delivery) (now : ℕ) (r r' : Reaction) (new new' : State) → QueueIf b old d now r new → QueueIf b old d now r' new' → Same r new r' new'
queue-if-once true old d now r r' new new' h g = (h.0 ∙ sym g.0, h.1 ∙ sym g.1)
queue-if-once false old d now r r' new new' (inl h) (inl g) = queues-once old d now r r' new new' h g
queue-if-once false old d now r r' new new' (inr h) (inr g) = (h.reacts ∙ sym g.reacts, h.left ∙ sym g.left)
queue-if-once false old d now r r' new new' (inl h) (inr g) = absurd (let bad = (offer-once old.outbox h.mid old.outbox d Queued Full h.offers g.offers).0 in cc)
queue-if-once false old d now r r' new new' (inr h) (inl g) = absurd (let bad = (offer-once old.outbox old.outbox g.mid d Full Queued h.offers g.offers).0 in cc)

-- ---- room
room-once : (old : State) (bytes now : ℕ) (r r' : Reaction) (new new' : State) → RoomStep bytes now old r new → RoomStep bytes now old r' new' → Same r new r' new'
room-once old bytes now r r' new new' h g =
    goes-same (with_room old bytes) now h.after g.after h.sents g.sents r r' new new' (goes-once (limit_of old.link) now (Some bytes) old.outbox h.after g.after h.sents g.sents h.goes_on g.goes_on) h.reacts g.reacts h.left g.left

-- ---- packets
after-once : (a : Ack) (now limit : ℕ) (room : Option ℕ) (old new new' : Outbox) (ss ts : List Sent) → GoesOnAfter a now limit room old ss new → GoesOnAfter a now limit room old ts new' → (ss ≡ ts) × (new ≡ new')
after-once Done now limit room old new new' ss ts h g = flushes-once now limit room old new new' ss ts h g
after-once Unknown now limit room old new new' ss ts h g = (h.0 ∙ sym g.0, h.1 ∙ sym g.1)

puback-once : (id now limit : ℕ) (s : State) (r r' : Reaction) (new new' : State) → PubackStep id now limit s r new → PubackStep id now limit s r' new' → Same r new r' new'
puback-once id now limit s r r' new new' h g =
    let same = end-once (is_acknowledged (find_id id s.outbox.copies)) s.outbox h.mid g.mid id h.answer g.answer h.takes g.takes in
    goes-same s now h.after g.after h.sents g.sents r r' new new' (after-once h.answer now limit s.room h.mid h.after g.after h.sents g.sents h.goes_on (rw (← same.0, ← same.1) at g.goes_on)) h.reacts g.reacts h.left g.left

pubcomp-once : (id now limit : ℕ) (s : State) (r r' : Reaction) (new new' : State) → PubcompStep id now limit s r new → PubcompStep id now limit s r' new' → Same r new r' new'
pubcomp-once id now limit s r r' new new' h g =
    let same = end-once (is_completed (find_id id s.outbox.copies)) s.outbox h.mid g.mid id h.answer g.answer h.takes g.takes in
    goes-same s now h.after g.after h.sents g.sents r r' new new' (after-once h.answer now limit s.room h.mid h.after g.after h.sents g.sents h.goes_on (rw (← same.0, ← same.1) at g.goes_on)) h.reacts g.reacts h.left g.left

ends-once : (now limit : ℕ) (s : State) (mid : Outbox) (r r' : Reaction) (new new' : State) → EndsExchange now limit s mid r new → EndsExchange now limit s mid r' new' → Same r new r' new'
ends-once now limit s mid r r' new new' h g = goes-same s now h.after g.after h.sents g.sents r r' new new' (flushes-once now limit s.room mid h.after g.after h.sents g.sents h.flushes g.flushes) h.reacts g.reacts h.left g.left

unknown-once : (id reason limit : ℕ) (s : State) (r r' : Reaction) (new new' : State) → SaysUnknown id reason limit s r new → SaysUnknown id reason limit s r' new' → Same r new r' new'
unknown-once id reason limit s r r' new new' (inl h) (inl g) = (h.1.0 ∙ sym g.1.0, h.1.1 ∙ sym g.1.1)
unknown-once id reason limit s r r' new new' (inr h) (inr g) = (h.1 ∙ sym g.1, h.2 ∙ sym g.2)
unknown-once id reason limit s r r' new new' (inl h) (inr g) = absurd (omega (arith, h.0, g.0))
unknown-once id reason limit s r r' new new' (inr h) (inl g) = absurd (omega (arith, h.0, g.0))

pubrec-by-once : (a : Rec) (id reason now limit : ℕ) (s : State) (mid : Outbox) (r r' : Reaction) (new new' : State) → PubrecBy a id reason now limit s mid r new → PubrecBy a id reason now limit s mid r' new' → Same r new r' new'
pubrec-by-once rec.Release id reason now limit s mid r r' new new' h g = (h.0 ∙ sym g.0, h.1 ∙ sym g.1)
pubrec-by-once rec.Ended id reason now limit s mid r r' new new' h g = ends-once now limit s mid r r' new new' h g
pubrec-by-once rec.Unknown id reason now limit s mid r r' new new' h g = unknown-once id reason limit (with_outbox s mid) r r' new new' h g
pubrec-by-once rec.AtEnd id reason now limit s mid r r' new new' h g = absurd h

pubrec-once : (id reason now limit : ℕ) (s : State) (r r' : Reaction) (new new' : State) → PubrecStep id reason now limit s r new → PubrecStep id reason now limit s r' new' → Same r new r' new'
pubrec-once id reason now limit s r r' new new' h g =
    let same = received-once (find_id id s.outbox.copies) s.outbox h.mid g.mid id reason h.answer g.answer h.takes g.takes in
    pubrec-by-once h.answer id reason now limit s h.mid r r' new new' h.goes_on (rw (← same.0, ← same.1) at g.goes_on)

subscribe-once : (p : Subscribe) (limit : ℕ) (s : State) (r r' : Reaction) (new new' : State) → SubscribeStep p limit s r new → SubscribeStep p limit s r' new' → Same r new r' new'
subscribe-once p limit s r r' new new' (inl h) (inl g) = (h.1.0 ∙ sym g.1.0, h.1.1 ∙ sym g.1.1)
subscribe-once p limit s r r' new new' (inr h) (inr g) = (h.1.0 ∙ sym g.1.0, h.1.1 ∙ sym g.1.1)
subscribe-once p limit s r r' new new' (inl h) (inr g) = absurd (g.0 h.0)
subscribe-once p limit s r r' new new' (inr h) (inl g) = absurd (h.0 g.0)

kind-once : (p : Packet) (now : ℕ) (room : Bool) (limit : ℕ) (s : State) (r r' : Reaction) (new new' : State) → KindStep p now room limit s r new → KindStep p now room limit s r' new' → Same r new r' new'
kind-once (packets.Publish p) now room limit s r r' new new' h g = (h.0 ∙ sym g.0, h.1 ∙ sym g.1)
kind-once (packets.Puback a) now room limit s r r' new new' h g = puback-once a.identifier now limit s r r' new new' h g
kind-once (packets.Pubrec a) now room limit s r r' new new' h g = pubrec-once a.identifier a.reason now limit s r r' new new' h g
kind-once (packets.Pubrel a) now room limit s r r' new new' h g = (h.0 ∙ sym g.0, h.1 ∙ sym g.1)
kind-once (packets.Pubcomp a) now room limit s r r' new new' h g = pubcomp-once a.identifier now limit s r r' new new' h g
kind-once (packets.Subscribe p) now room limit s r r' new new' h g = subscribe-once p limit s r r' new new' h g
kind-once (packets.Unsubscribe p) now room limit s r r' new new' h g = (h.0 ∙ sym g.0, h.1 ∙ sym g.1)
kind-once packets.Pingreq now room limit s r r' new new' h g = (h.0 ∙ sym g.0, h.1 ∙ sym g.1)
kind-once (packets.Disconnect p) now room limit s r r' new new' h g = (h.0 ∙ sym g.0, h.1 ∙ sym g.1)
kind-once (packets.Connect p) now room limit s r r' new new' h g = (h.0 ∙ sym g.0, h.1 ∙ sym g.1)
kind-once (packets.Connack p) now room limit s r r' new new' h g = (h.0 ∙ sym g.0, h.1 ∙ sym g.1)
kind-once (packets.Suback p) now room limit s r r' new new' h g = (h.0 ∙ sym g.0, h.1 ∙ sym g.1)
kind-once (packets.Unsuback p) now room limit s r r' new new' h g = (h.0 ∙ sym g.0, h.1 ∙ sym g.1)
kind-once packets.Pingresp now room limit s r r' new new' h g = (h.0 ∙ sym g.0, h.1 ∙ sym g.1)
kind-once (packets.Auth p) now room limit s r r' new new' h g = (h.0 ∙ sym g.0, h.1 ∙ sym g.1)

packet-once : (o : Option ℕ) (p : Packet) (now : ℕ) (room : Bool) (s : State) (r r' : Reaction) (new new' : State) → PacketIf o p now room s r new → PacketIf o p now room s r' new' → Same r new r' new'
packet-once None p now room s r r' new new' h g = (h.0 ∙ sym g.0, h.1 ∙ sym g.1)
packet-once (Some limit) p now room s r r' new new' h g = kind-once p now room limit (heard s now) r r' new new' h g

-- ---- a crash
lost-once : (old : State) (r r' : Reaction) (new new' : State) → LostStep old r new → LostStep old r' new' → Same r new r' new'
lost-once old r r' new new' h g = (h.quiet ∙ sym g.quiet, lost-is new h.kept h.outbox h.incoming h.link h.room ∙ sym (lost-is new' g.kept g.outbox g.incoming g.link g.room))
  where
    lost-is : (s : State) {k : Kept} {o : Outbox} {i : Received} {l : Option Link} {m : Option ℕ} → s.kept ≡ k → s.outbox ≡ o → s.incoming ≡ i → s.link ≡ l → s.room ≡ m → s ≡ record { kept = k; outbox = o; incoming = i; link = l; room = m }
    lost-is s {k} {o} {i} {l} {m} a b c d e =
        ap (λ (x : Kept). record s { kept = x }) a ∙ ap (λ (x : Outbox). record { kept = k; outbox = x; incoming = s.incoming; link = s.link; room = s.room }) b
        ∙ ap (λ (x : Received). record { kept = k; outbox = o; incoming = x; link = s.link; room = s.room }) c ∙ ap (λ (x : Option Link). record { kept = k; outbox = o; incoming = i; link = x; room = s.room }) d
        ∙ ap (λ (x : Option ℕ). record { kept = k; outbox = o; incoming = i; link = l; room = x }) e

-- ---- the laws
pub one_outcome : OneOutcome
one_outcome (connects c continued room now) old r r' new new' h g =
    let answer = connack continued c.client old.kept.client in
    opens-if-once (fits (limit_in c.properties) answer) old c answer room now r r' new new' h.1 g.1
one_outcome (queues d now) old r r' new new' h g = queue-if-once (is_once d.qos) old d now r r' new new' h g
one_outcome (rooms bytes now) old r r' new new' h g = room-once old bytes now r r' new new' h g
one_outcome (takes p now room) old r r' new new' h g = packet-once (limit_of old.link) p now room old r r' new new' h g
one_outcome (answers id codes) old r r' new new' h g = (h.0 ∙ sym g.0, h.1 ∙ sym g.1)
one_outcome (closes now) old r r' new new' h g = (h.0 ∙ sym g.0, h.1 ∙ sym g.1)
one_outcome (ticks now) old r r' new new' h g = (h.0 ∙ sym g.0, h.1 ∙ sym g.1)
one_outcome (finishes now) old r r' new new' h g = (h.0 ∙ sym g.0, h.1 ∙ sym g.1)
one_outcome loses old r r' new new' h g = lost-once old r r' new new' h g

-- ---- where a number is at its end
full-ends : (b : Bool) (old new : State) (d : Delivery) (now : ℕ) (r : Reaction) → b ≡ false → OfferStep old.outbox d AtEnd old.outbox → QueueIf b old d now r new → ⊥
full-ends true old new d now r not ends h = cc
full-ends false old new d now r not ends (inl h) = let bad = (offer-once old.outbox old.outbox h.mid d AtEnd Queued ends h.offers).0 in cc
full-ends false old new d now r not ends (inr h) = let bad = (offer-once old.outbox old.outbox old.outbox d AtEnd Full ends h.offers).0 in cc

pubrec-ends : (id reason now limit : ℕ) (s new : State) (r : Reaction) → ReceivedStep s.outbox id reason rec.AtEnd s.outbox → PubrecStep id reason now limit s r new → ⊥
pubrec-ends id reason now limit s new r ends h =
    let same : rec.AtEnd ≡ h.answer = (received-once (find_id id s.outbox.copies) s.outbox s.outbox h.mid id reason rec.AtEnd h.answer ends h.takes).0 in
    rw (← same) at h.goes_on

packet-ends : (o : Option ℕ) (p : Packet) (now : ℕ) (room : Bool) (old new : State) (r : Reaction) → PacketEndsIf o p old → PacketIf o p now room old r new → ⊥
packet-ends None p now room old new r ends h = ends
packet-ends (Some limit) (packets.Pubrec a) now room old new r ends h = pubrec-ends a.identifier a.reason now limit (heard old now) new r ends h
packet-ends (Some limit) (packets.Publish p) now room old new r ends h = ends
packet-ends (Some limit) (packets.Puback a) now room old new r ends h = ends
packet-ends (Some limit) (packets.Pubrel a) now room old new r ends h = ends
packet-ends (Some limit) (packets.Pubcomp a) now room old new r ends h = ends
packet-ends (Some limit) (packets.Subscribe p) now room old new r ends h = ends
packet-ends (Some limit) (packets.Unsubscribe p) now room old new r ends h = ends
packet-ends (Some limit) packets.Pingreq now room old new r ends h = ends
packet-ends (Some limit) (packets.Disconnect p) now room old new r ends h = ends
packet-ends (Some limit) (packets.Connect p) now room old new r ends h = ends
packet-ends (Some limit) (packets.Connack p) now room old new r ends h = ends
packet-ends (Some limit) (packets.Suback p) now room old new r ends h = ends
packet-ends (Some limit) (packets.Unsuback p) now room old new r ends h = ends
packet-ends (Some limit) packets.Pingresp now room old new r ends h = ends
packet-ends (Some limit) (packets.Auth p) now room old new r ends h = ends

pub ends_or_reacts : EndsOrReacts
ends_or_reacts (queues d now) old new r ends h = full-ends (is_once d.qos) old new d now r ends.0 ends.1 h
ends_or_reacts (takes p now room) old new r ends h = packet-ends (limit_of old.link) p now room old new r ends h
ends_or_reacts (connects c continued room now) old new r ends h = ends
ends_or_reacts (rooms bytes now) old new r ends h = ends
ends_or_reacts (answers id codes) old new r ends h = ends
ends_or_reacts (closes now) old new r ends h = ends
ends_or_reacts (ticks now) old new r ends h = ends
ends_or_reacts (finishes now) old new r ends h = ends
ends_or_reacts loses old new r ends h = ends
