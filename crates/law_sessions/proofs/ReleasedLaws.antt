-- Which exchanges are released, in order.
use Rattle.std.proofs.Common.{◌≡◌, ℕ, Bool, true, false, cond, List, [], ◌∷◌, ◌++◌, Option, Some, None, refl, sym, ◌∙◌, ap, inl, inr}
use Rattle.std.specs.Prelude.{◌&&◌, is_some, nat_lt}
use Rattle.std.specs.Map.{values_of}
use Rattle.std.proofs.lemmas.Bool.{false≢true, lt-ltb, le-ltb}
use Rattle.mqtt_packets.specs.declared.connect.Connect.{Connect}
use Rattle.mqtt_packets.specs.declared.packet.Packet.{Packet}
use Rattle.mqtt_packets.specs.declared.packet.Packet.TheVariants as packets
use Rattle.mqtt_message.specs.declared.delivery.Delivery.{Delivery}
use Rattle.qos_handshakes.specs.declared.answers.Ack.{Ack as Ended}
use Rattle.qos_handshakes.specs.declared.answers.Ack.TheVariants.{Done, Unknown}
use Rattle.qos_handshakes.specs.declared.answers.Offer.TheVariants.{Queued}
use Rattle.qos_handshakes.specs.declared.answers.Rec.{Rec}
use Rattle.qos_handshakes.specs.declared.answers.Rec.TheVariants as rec
use Rattle.qos_handshakes.specs.declared.copies.Entry.{Entry}
use Rattle.qos_handshakes.specs.declared.copies.Stage.{Stage}
use Rattle.qos_handshakes.specs.declared.copies.Stage.TheVariants.{Waiting, Published, Released}
use Rattle.mqtt_fields.specs.declared.options.Qos.{Qos}
use Rattle.mqtt_fields.specs.declared.options.Qos.TheVariants.{AtMostOnce, AtLeastOnce, ExactlyOnce}
use Rattle.qos_handshakes.specs.Entries.{find_id}
use Rattle.qos_handshakes.specs.Outbox.{Outbox, Sent, EndStep, ReceivedIf, is_completed, is_released, takes_pubrec, stage_pair, released_pair, chosen, sorted, by_release}
use Rattle.qos_handshakes.specs.Touched.{is_in}
use Rattle.law_handshakes.specs.Lists.{without}
use Rattle.law_handshakes.specs.Numbers.{AreNumbered}
use Rattle.law_handshakes.specs.Runs.{offered, acknowledged, completed, received, resumed, asked, lost}
use Rattle.law_handshakes.specs.Releases.{pubrecs_after}
use Rattle.law_handshakes.proofs.ChosenLaws.{chosen-away}
use Rattle.law_handshakes.proofs.NumberLaws.{numbered-step}
use Rattle.law_handshakes.proofs.ReleaseLaws.{IsKnown, all-sorted, has-none, has-released, not-released, known-step}
use Rattle.mqtt_sessions.specs.Answers.{pubrel, connack, fits}
use Rattle.mqtt_sessions.specs.Connecting.{OpensIf, resumed_by}
use Rattle.mqtt_sessions.specs.Packets.{GoesOnAfter, PubrecBy, KindStep, PacketIf}
use Rattle.mqtt_sessions.specs.declared.reaction.Output.TheVariants.{Answer}
use Rattle.mqtt_sessions.specs.Reaction.{Reaction, publishes_of, pubrels_of}
use Rattle.mqtt_sessions.specs.Sending.{SendsAll, StopsIf, Flushes, GoesOn, is_once, QueueIf}
use Rattle.mqtt_sessions.specs.State.{State, Link, has_room, heard, limit_in, limit_of, room_after, room_less, with_outbox, new_session}
use Rattle.law_sessions.specs.Runs.{Event, connects, queues, rooms, takes, answers, closes, ticks, finishes, loses, Step, Reacts, Run}
use Rattle.law_sessions.specs.Sends.{maximum_in}
use Rattle.law_sessions.specs.Releases.{released_ids, is_unreleased, released_after, KeepsReleased, KeepsReleasesFirst}
use Rattle.law_sessions.proofs.QuietLaws.{HasLimit, IsHandshake, quiet-answer, quiet-tick, kinds}
use Rattle.law_sessions.proofs.SilenceLaws.{own}
use Rattle.law_sessions.proofs.CallLaws.{HasNumbers}
use Rattle.law_sessions.proofs.LiftLaws.{keeps_numbers}
use Rattle.law_sessions.proofs.ProjectLaws.{comes-quiet, unknown-quiet, heard-limit}

-- ---- flushes
stop-known : (K : List ℕ) (more : Bool) (now limit : ℕ) (old new : Outbox) → StopsIf more now limit old new → AreNumbered old.copies → IsKnown K old → IsKnown K new
stop-known K true now limit old new stops n k = (known-step K old new (asked now limit None) stops n k).1
stop-known K false now limit old new stops n k = rw stops k

flush-known : (K : List ℕ) (more : Bool) (now limit : ℕ) (room : Option ℕ) (old last new : Outbox) (sents : List Sent) → SendsAll now limit room old sents last → StopsIf more now limit last new → AreNumbered old.copies → IsKnown K old → IsKnown K new
flush-known K more now limit room old last new [] all stops n k = stop-known K more now limit old new (rw all at stops) n k
flush-known K more now limit room old last new (s ∷ ss) all stops n k =
    flush-known K more now limit (room_less now room s.copy) all.1 last new ss all.3 stops (numbered-step old all.1 (asked now limit (Some s)) all.2 n) (known-step K old all.1 (asked now limit (Some s)) all.2 n k).1

flushes-known : (K : List ℕ) (now limit : ℕ) (room : Option ℕ) (old new : Outbox) (sents : List Sent) → Flushes now limit room old sents new → AreNumbered old.copies → IsKnown K old → IsKnown K new
flushes-known K now limit room old new sents f n k = flush-known K (has_room (room_after now room sents)) now limit room old f.last new sents f.sends f.stops n k

same-known : (K : List ℕ) (old new : Outbox) → new ≡ old → IsKnown K old → IsKnown K new
same-known K old new same k = rw same k

goes-known : (K : List ℕ) (o : Option ℕ) (now : ℕ) (room : Option ℕ) (old new : Outbox) (sents : List Sent) → GoesOn o now room old sents new → AreNumbered old.copies → IsKnown K old → IsKnown K new
goes-known K None now room old new sents g n k = same-known K old new g.1 k
goes-known K (Some limit) now room old new sents g n k = flushes-known K now limit room old new sents g n k

queue-known : (K : List ℕ) (b : Bool) (old new : State) (d : Delivery) (now : ℕ) (r : Reaction) → QueueIf b old d now r new → AreNumbered old.outbox.copies → IsKnown K old.outbox → IsKnown K new.outbox
queue-known K true old new d now r q n k = rw q.1 k
queue-known K false old new d now r (inl q) n k =
    rw q.left (goes-known K (limit_of old.link) now old.room q.mid q.after q.sents q.goes_on (numbered-step old.outbox q.mid (offered d Queued) q.offers n) (known-step K old.outbox q.mid (offered d Queued) q.offers n k).1)
queue-known K false old new d now r (inr q) n k = rw q.left k

opens-known : (K : List ℕ) (b : Bool) (old new : State) (c : Connect) (p : Packet) (room : Option ℕ) (now : ℕ) (r : Reaction) → OpensIf b old c p room now r new → AreNumbered old.outbox.copies → IsKnown K old.outbox → IsKnown K new.outbox
opens-known K true old new c p room now r h n k =
    let mid = resumed_by old.outbox c in
    rw h.left (flushes-known K now (limit_in c.properties) room mid h.after h.sents h.flushes (numbered-step old.outbox mid (resumed (maximum_in c)) refl n) (known-step K old.outbox mid (resumed (maximum_in c)) refl n k).1)
opens-known K false old new c p room now r h n k = rw h.1 (known-step K old.outbox (resumed_by old.outbox c) (resumed (maximum_in c)) refl n k).1

-- ---- PUBACK, PUBCOMP and PUBREC
after-known : (K : List ℕ) (a : Ended) (now limit : ℕ) (room : Option ℕ) (old new : Outbox) (sents : List Sent) → GoesOnAfter a now limit room old sents new → AreNumbered old.copies → IsKnown K old → IsKnown K new
after-known K Done now limit room old new sents g n k = flushes-known K now limit room old new sents g n k
after-known K Unknown now limit room old new sents g n k = same-known K old new g.1 k

completed-list : (K : List ℕ) (id : ℕ) (a : Ended) (ends : Bool) (old mid : Outbox) → EndStep ends old id a mid → pubrecs_after K (completed id a) ≡ cond ends (without id K) K
completed-list K id Done ends old mid s = rw s.0 refl
completed-list K id Unknown ends old mid s = rw s.0 refl

pair-unreleased : (q : Qos) (s : Stage) → takes_pubrec q s ≡ true → stage_pair s ≡ []
pair-unreleased AtMostOnce s h = absurd (false≢true h)
pair-unreleased AtLeastOnce s h = absurd (false≢true h)
pair-unreleased ExactlyOnce Waiting h = absurd (false≢true h)
pair-unreleased ExactlyOnce (Published id) h = refl
pair-unreleased ExactlyOnce (Released id order) h = absurd (false≢true h)

released-not : (q : Qos) (s : Stage) → is_released s ≡ true → takes_pubrec q s ≡ false
released-not q Waiting h = absurd (false≢true h)
released-not q (Published id) h = absurd (false≢true h)
released-not AtMostOnce (Released id order) h = refl
released-not AtLeastOnce (Released id order) h = refl
released-not ExactlyOnce (Released id order) h = refl

-- the list that a PUBREC leaves
received-list : (a : Rec) (o : Option Entry) (id reason : ℕ) (old mid : Outbox) (K : List ℕ) → find_id id old.copies ≡ o → ReceivedIf o old id reason a mid → HasNumbers (received id reason a) → AreNumbered old.copies → IsKnown K old
    → pubrecs_after K (received id reason a) ≡ cond (is_unreleased o && nat_lt reason 128) (K ++ id ∷ []) K
received-list a None id reason old mid K is s numbers n k = rw s.0 refl
received-list rec.Release (Some x) id reason old mid K is (inl s) numbers n k =
    let others = not-released id x old.copies n is (pair-unreleased x.delivery.qos x.stage s.0) in
    let free : is_in id K ≡ false = ap (is_in id) k.is ∙ has-none id (by_release old.copies) (all-sorted (λ y. y.1 ≡ id → ⊥) (chosen released_pair old.copies) others) in
    rw (s.0, free, lt-ltb reason 128 s.1) refl
received-list rec.Release (Some x) id reason old mid K is (inr s) numbers n k =
    let there = has-released id x old.copies k.distinct is s.0 in
    let known : is_in id K ≡ true = ap (is_in id) k.is ∙ there in
    rw (released-not x.delivery.qos x.stage s.0, known) refl
received-list rec.Ended (Some x) id reason old mid K is s numbers n k = rw (s.0, le-ltb reason 128 s.1) refl
received-list rec.Unknown (Some x) id reason old mid K is s numbers n k = rw s.0 refl
received-list rec.AtEnd (Some x) id reason old mid K is s numbers n k = absurd numbers

pubrec-known : (K : List ℕ) (a : Rec) (id reason now limit : ℕ) (s new : State) (mid : Outbox) (r : Reaction) → HasLimit limit s.link → PubrecBy a id reason now limit s mid r new → AreNumbered mid.copies → IsKnown K mid → IsKnown K new.outbox
pubrec-known K rec.Release id reason now limit s new mid r is h n k = same-known K mid new.outbox (comes-quiet limit (pubrel id 0) (with_outbox s mid) new r is h).same k
pubrec-known K rec.Ended id reason now limit s new mid r is h n k = rw h.left (flushes-known K now limit s.room mid h.after h.sents h.flushes n k)
pubrec-known K rec.Unknown id reason now limit s new mid r is h n k = same-known K mid new.outbox (unknown-quiet id reason limit (with_outbox s mid) new r is h).same k
pubrec-known K rec.AtEnd id reason now limit s new mid r is h n k = absurd h

-- ---- packets
quiet-known : (K : List ℕ) (p : Packet) (now : ℕ) (room : Bool) (limit : ℕ) (s : State) (r : Reaction) (new : State) → HasLimit limit s.link → KindStep p now room limit s r new → (IsHandshake p now limit s r new → ⊥) → IsKnown K s.outbox → IsKnown K new.outbox
quiet-known K p now room limit s r new is h none k = elim (kinds p now room limit s r new is h) [
  | inl q ↦ same-known K s.outbox new.outbox q.0.same k
  | inr t ↦ absurd (none t)
]

-- the list that an event leaves is known of what the session holds after it
abbrev IsNext : State → Event → State → Type 0
IsNext old e new = IsKnown (released_after old e) new.outbox

pubrec-numbers : (a : Rec) (id reason now limit : ℕ) (s new : State) (mid : Outbox) (r : Reaction) → PubrecBy a id reason now limit s mid r new → HasNumbers (received id reason a)
pubrec-numbers rec.Release id reason now limit s new mid r h = tt
pubrec-numbers rec.Ended id reason now limit s new mid r h = tt
pubrec-numbers rec.Unknown id reason now limit s new mid r h = tt
pubrec-numbers rec.AtEnd id reason now limit s new mid r h = absurd h

kind-known : (p : Packet) (now : ℕ) (room : Bool) (limit : ℕ) (old : State) (r : Reaction) (new : State) → HasLimit limit (heard old now).link → is_some old.link ≡ true → KindStep p now room limit (heard old now) r new → AreNumbered old.outbox.copies → IsKnown (released_ids old) old.outbox → IsNext old (takes p now room) new
kind-known (packets.Puback a) now room limit old r new is opens h n k =
    rw h.left (after-known (released_ids old) h.answer now limit old.room h.mid h.after h.sents h.goes_on (numbered-step old.outbox h.mid (acknowledged a.identifier h.answer) h.takes n) (known-step (released_ids old) old.outbox h.mid (acknowledged a.identifier h.answer) h.takes n k).1)
kind-known (packets.Pubcomp a) now room limit old r new is opens h n k =
    let list = completed-list (released_ids old) a.identifier h.answer (is_completed (find_id a.identifier old.outbox.copies)) old.outbox h.mid h.takes in
    let mid = rw list at (known-step (released_ids old) old.outbox h.mid (completed a.identifier h.answer) h.takes n k).1 in
    rw (opens, h.left) (after-known _ h.answer now limit old.room h.mid h.after h.sents h.goes_on (numbered-step old.outbox h.mid (completed a.identifier h.answer) h.takes n) mid)
kind-known (packets.Pubrec a) now room limit old r new is opens h n k =
    let list = received-list h.answer (find_id a.identifier old.outbox.copies) a.identifier a.reason old.outbox h.mid (released_ids old) refl h.takes (pubrec-numbers h.answer a.identifier a.reason now limit (heard old now) new h.mid r h.goes_on) n k in
    let mid = rw list at (known-step (released_ids old) old.outbox h.mid (received a.identifier a.reason h.answer) h.takes n k).1 in
    rw opens (pubrec-known _ h.answer a.identifier a.reason now limit (heard old now) new h.mid r is h.goes_on (numbered-step old.outbox h.mid (received a.identifier a.reason h.answer) h.takes n) mid)
kind-known (packets.Publish p) now room limit old r new is opens h n k = quiet-known (released_ids old) (packets.Publish p) now room limit (heard old now) r new is h (λ t. t) k
kind-known (packets.Pubrel p) now room limit old r new is opens h n k = quiet-known (released_ids old) (packets.Pubrel p) now room limit (heard old now) r new is h (λ t. t) k
kind-known (packets.Subscribe p) now room limit old r new is opens h n k = quiet-known (released_ids old) (packets.Subscribe p) now room limit (heard old now) r new is h (λ t. t) k
kind-known (packets.Unsubscribe p) now room limit old r new is opens h n k = quiet-known (released_ids old) (packets.Unsubscribe p) now room limit (heard old now) r new is h (λ t. t) k
kind-known packets.Pingreq now room limit old r new is opens h n k = quiet-known (released_ids old) packets.Pingreq now room limit (heard old now) r new is h (λ t. t) k
kind-known (packets.Disconnect p) now room limit old r new is opens h n k = quiet-known (released_ids old) (packets.Disconnect p) now room limit (heard old now) r new is h (λ t. t) k
kind-known (packets.Connect p) now room limit old r new is opens h n k = quiet-known (released_ids old) (packets.Connect p) now room limit (heard old now) r new is h (λ t. t) k
kind-known (packets.Connack p) now room limit old r new is opens h n k = quiet-known (released_ids old) (packets.Connack p) now room limit (heard old now) r new is h (λ t. t) k
kind-known (packets.Suback p) now room limit old r new is opens h n k = quiet-known (released_ids old) (packets.Suback p) now room limit (heard old now) r new is h (λ t. t) k
kind-known (packets.Unsuback p) now room limit old r new is opens h n k = quiet-known (released_ids old) (packets.Unsuback p) now room limit (heard old now) r new is h (λ t. t) k
kind-known packets.Pingresp now room limit old r new is opens h n k = quiet-known (released_ids old) packets.Pingresp now room limit (heard old now) r new is h (λ t. t) k
kind-known (packets.Auth p) now room limit old r new is opens h n k = quiet-known (released_ids old) (packets.Auth p) now room limit (heard old now) r new is h (λ t. t) k

-- without a connection nothing changes
unheard-list : (p : Packet) (now : ℕ) (room : Bool) (s : State) → is_some s.link ≡ false → released_after s (takes p now room) ≡ released_ids s
unheard-list (packets.Pubrec a) now room s none = rw none refl
unheard-list (packets.Pubcomp a) now room s none = rw none refl
unheard-list (packets.Publish p) now room s none = refl
unheard-list (packets.Puback a) now room s none = refl
unheard-list (packets.Pubrel a) now room s none = refl
unheard-list (packets.Subscribe p) now room s none = refl
unheard-list (packets.Unsubscribe p) now room s none = refl
unheard-list packets.Pingreq now room s none = refl
unheard-list (packets.Disconnect p) now room s none = refl
unheard-list (packets.Connect p) now room s none = refl
unheard-list (packets.Connack p) now room s none = refl
unheard-list (packets.Suback p) now room s none = refl
unheard-list (packets.Unsuback p) now room s none = refl
unheard-list packets.Pingresp now room s none = refl
unheard-list (packets.Auth p) now room s none = refl

packet-known : (o : Option Link) (old new : State) (p : Packet) (now : ℕ) (room : Bool) (r : Reaction) → old.link ≡ o → PacketIf (limit_of o) p now room old r new → AreNumbered old.outbox.copies → IsKnown (released_ids old) old.outbox → IsNext old (takes p now room) new
packet-known None old new p now room r e h n k = rw (unheard-list p now room old (rw e refl), h.1) k
packet-known (Some l) old new p now room r e h n k = kind-known p now room l.limit old r new (heard-limit l.limit now l old refl e) (rw e refl) h n k

known : (old new : State) (e : Event) (r : Reaction) → Reacts old e r new → AreNumbered old.outbox.copies → IsKnown (released_ids old) old.outbox → IsNext old e new
known old new (connects c continued room now) r h n k = opens-known (released_ids old) (fits (limit_in c.properties) (connack continued c.client old.kept.client)) old new c _ room now r h.1 n k
known old new (queues d now) r h n k = queue-known (released_ids old) (is_once d.qos) old new d now r h n k
known old new (rooms bytes now) r h n k = rw h.left (goes-known (released_ids old) (limit_of old.link) now (Some bytes) old.outbox h.after h.sents h.goes_on n k)
known old new (takes p now room) r h n k = packet-known old.link old new p now room r refl h n k
known old new (answers id codes) r h n k = let w = own old.link in same-known (released_ids old) old.outbox new.outbox (quiet-answer old.link w.0 id codes old r new refl w.1 h).same k
known old new (closes now) r h n k = rw h.1 k
known old new (ticks now) r h n k = let w = own old.link in same-known (released_ids old) old.outbox new.outbox (quiet-tick w.0 now old r new w.1 h).same k
known old new (finishes now) r h n k = rw h.1 k
known old new loses r h n k = (known-step (released_ids old) old.outbox new.outbox lost h.outbox n k).1

-- what is known is what the session holds
own-list : (K : List ℕ) (s : State) → IsKnown K s.outbox → IsKnown (released_ids s) s.outbox
own-list K s k = rw k.is at k

run-more : (start old new : State) (before : List Step) (s : Step) → Run start before old → Reacts old s.event s.reaction new → Run start (before ++ s ∷ []) new
run-more start old new [] s r step = (new, rw r at step, refl)
run-more start old new (t ∷ ts) s r step = (r.0, r.1, run-more r.0 old new ts s r.2 step)

known-run : (client : List ℕ) (old : State) (before : List Step) (after : List Step) (mid : State) → Run (new_session client) before old → Run old after mid → IsKnown (released_ids old) old.outbox → IsKnown (released_ids mid) mid.outbox
known-run client old before [] mid start r k = rw r k
known-run client old before (s ∷ ss) mid start r k =
    known-run client r.0 (before ++ s ∷ []) ss mid (run-more (new_session client) old r.0 before s start r.1) r.2 (own-list (released_after old s.event) r.0 (known old r.0 s.event s.reaction r.1 (keeps_numbers client before old start) k))

pub keeps_released : KeepsReleased
keeps_released = λ client before s mid end run step.
    let k = known-run client (new_session client) [] before mid refl run (record { is = refl; distinct = tt; below = tt }) in
    sym (known mid end s.event s.reaction step (keeps_numbers client before mid run) k).is

-- ---- the beginning of a connection
opens-first : (b : Bool) (old new : State) (c : Connect) (p : Packet) (room : Option ℕ) (now : ℕ) (r : Reaction) → OpensIf b old c p room now r new → r.end ≡ None → (sents : List Sent) × (r.packets ≡ Answer p ∷ pubrels_of (released_ids old) ++ publishes_of sents)
opens-first false old new c p room now r h e = (let bad : ◌≡◌ {A = Option ℕ} (Some 0) None = rw h.0 at e in cc)
opens-first true old new c p room now r h e =
    let same : h.ids ≡ released_ids old = h.lists.0 ∙ ap (λ (xs : List (ℕ × ℕ)). values_of (sorted xs)) (chosen-away released_pair released_pair (λ x. refl) old.outbox.copies) in
    (h.sents, rw (h.reacts, same) refl)

pub keeps_releases_first : KeepsReleasesFirst
keeps_releases_first = λ old new c continued room now r h e. opens-first (fits (limit_in c.properties) (connack continued c.client old.kept.client)) old new c (connack continued c.client old.kept.client) room now r h.1 e
