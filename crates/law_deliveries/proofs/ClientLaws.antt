-- A session stays its client's, event by event.
use Rattle.std.proofs.Common.{◌≡◌, ℕ, Bool, true, false, cond, List, Option, Some, None, refl, ap, inl, inr}
use Rattle.std.specs.Prelude.{◌==◌, ◌&&◌, is_some, not}
use Rattle.std.proofs.lemmas.Bool.{cases_Bool}
use Rattle.mqtt_fields.specs.declared.options.Qos.{Qos}
use Rattle.mqtt_fields.specs.declared.options.Qos.TheVariants.{AtMostOnce, AtLeastOnce, ExactlyOnce}
use Rattle.mqtt_fields.specs.Properties.{first_four}
use Rattle.mqtt_packets.specs.declared.connect.Connect.{Connect}
use Rattle.mqtt_packets.specs.declared.ended.Ended.{Ended}
use Rattle.mqtt_packets.specs.declared.packet.Packet.{Packet}
use Rattle.mqtt_packets.specs.declared.packet.Packet.TheVariants as packets
use Rattle.mqtt_packets.specs.declared.publish.Publish.{Publish}
use Rattle.mqtt_packets.specs.declared.subscribe.Subscribe.{Subscribe}
use Rattle.mqtt_message.specs.declared.delivery.Delivery.{Delivery}
use Rattle.mqtt_message.specs.declared.message.Message.{Message}
use Rattle.qos_handshakes.specs.declared.answers.In.{In}
use Rattle.qos_handshakes.specs.declared.answers.In.TheVariants.{New, Repeat, InUse, OverMaximum}
use Rattle.qos_handshakes.specs.declared.answers.Rec.{Rec}
use Rattle.qos_handshakes.specs.declared.answers.Rec.TheVariants as rec
use Rattle.qos_handshakes.specs.Incoming.{opened}
use Rattle.qos_handshakes.specs.Outbox.{Outbox}
use Rattle.mqtt_sessions.specs.declared.link.Asked.{Asked}
use Rattle.mqtt_sessions.specs.declared.reaction.Ask.{Ask}
use Rattle.mqtt_sessions.specs.Answers.{pubrel, connack, fits}
use Rattle.mqtt_sessions.specs.Arriving.{refusal, message_in, setting, is_unwelcome, arrival_once, arrival_twice, once_by, passes_by, publish_by, twice_by}
use Rattle.mqtt_sessions.specs.Asking.{SubscribeStep, answer_by, answer_on}
use Rattle.mqtt_sessions.specs.Connecting.{OpensIf}
use Rattle.mqtt_sessions.specs.Ending.{disconnected_by, timed_out, ticked_if}
use Rattle.mqtt_sessions.specs.Packets.{PubrecBy, SaysUnknown, KindStep, PacketIf}
use Rattle.mqtt_sessions.specs.Reaction.{Reaction, Comes, answered}
use Rattle.mqtt_sessions.specs.Sending.{is_once, QueueIf}
use Rattle.mqtt_sessions.specs.State.{Kept, State, Link, aliases_of, heard, limit_in, limit_of}
use Rattle.law_sessions.specs.Runs.{Event, connects, queues, rooms, takes, answers, closes, ticks, finishes, loses, Reacts}

-- ---- what each call leaves
abbrev Leaves : State → State → Type 0
Leaves old new = new.kept.client ≡ old.kept.client

answered-client : (limit : ℕ) (p : Packet) (ask : Option Ask) (s : State) → (answered limit p ask s).left.kept.client ≡ s.kept.client
answered-client limit p ask s = elim (cases_Bool (fits limit p)) [ inl f ↦ rw f refl | inr f ↦ rw f refl ]

comes-client : (limit : ℕ) (p : Packet) (ask : Option Ask) (s : State) (r : Reaction) (new : State) → Comes (answered limit p ask s) r new → Leaves s new
comes-client limit p ask s r new c = rw c.1 (answered-client limit p ask s)

opens-client : (b : Bool) (old new : State) (c : Connect) (p : Packet) (room : Option ℕ) (now : ℕ) (r : Reaction) → OpensIf b old c p room now r new → new.kept.client ≡ old.kept.client
opens-client true old new c p room now r h = rw h.left refl
opens-client false old new c p room now r h = rw h.1 refl

queue-client : (b : Bool) (old new : State) (d : Delivery) (now : ℕ) (r : Reaction) → QueueIf b old d now r new → Leaves old new
queue-client true old new d now r q = rw q.1 refl
queue-client false old new d now r (inl q) = rw q.left refl
queue-client false old new d now r (inr q) = rw q.left refl

unknown-client : (id reason limit : ℕ) (s new : State) (r : Reaction) → SaysUnknown id reason limit s r new → Leaves s new
unknown-client id reason limit s new r (inl h) = comes-client limit (pubrel id 146) None s r new h.1
unknown-client id reason limit s new r (inr h) = rw h.2 refl

pubrec-client : (a : Rec) (id reason now limit : ℕ) (s new : State) (mid : Outbox) (r : Reaction) → PubrecBy a id reason now limit s mid r new → Leaves s new
pubrec-client rec.Release id reason now limit s new mid r h = comes-client limit (pubrel id 0) None _ r new h
pubrec-client rec.Ended id reason now limit s new mid r h = rw h.left refl
pubrec-client rec.Unknown id reason now limit s new mid r h = unknown-client id reason limit _ new r h
pubrec-client rec.AtEnd id reason now limit s new mid r h = absurd h

asks-client : (b : Bool) (limit : ℕ) (p : Packet) (s t : State) (w : Reaction) → Leaves s t → (cond b (answered limit p None s) (record { reaction = w; left = t })).left.kept.client ≡ s.kept.client
asks-client true limit p s t w e = answered-client limit p None s
asks-client false limit p s t w e = e

subscribe-client : (p : Subscribe) (limit : ℕ) (s new : State) (r : Reaction) → SubscribeStep p limit s r new → Leaves s new
subscribe-client p limit s new r (inl h) = rw h.1.1 refl
subscribe-client p limit s new r (inr h) = rw h.1.1 (asks-client (is_some (opened p.identifier s.incoming)) limit _ s _ _ refl)

disconnect-client : (o : Option ℕ) (p : Ended) (limit : ℕ) (s : State) → (disconnected_by o p limit s).left.kept.client ≡ s.kept.client
disconnect-client None p limit s = refl
disconnect-client (Some new) p limit s = elim (cases_Bool ((s.kept.expiry == 0) && not (new == 0))) [ inl h ↦ rw h refl | inr h ↦ rw h refl ]

codes-client : (a : Option Asked) (limit id : ℕ) (codes : List ℕ) (s : State) → (answer_by a limit id codes s).left.kept.client ≡ s.kept.client
codes-client None limit id codes s = refl
codes-client (Some a) limit id codes s = answered-client limit _ None _

answer-client : (o : Option Link) (id : ℕ) (codes : List ℕ) (s : State) → (answer_on o id codes s).left.kept.client ≡ s.kept.client
answer-client None id codes s = refl
answer-client (Some l) id codes s = codes-client l.asked l.limit id codes s

timed-client : (o : Option Link) (s : State) → (timed_out o s).left.kept.client ≡ s.kept.client
timed-client None s = refl
timed-client (Some l) s = refl

tick-client : (a b c : Bool) (now : ℕ) (s : State) → (ticked_if a b c now s).left.kept.client ≡ s.kept.client
tick-client true b c now s = timed-client s.link s
tick-client false true c now s = refl
tick-client false false c now s = refl

once-client : (a : In) (unwelcome : Bool) (limit id : ℕ) (m : Message) (s : State) → (once_by a unwelcome limit id m s).left.kept.client ≡ s.kept.client
once-client OverMaximum unwelcome limit id m s = refl
once-client InUse unwelcome limit id m s = answered-client limit _ None s
once-client Repeat unwelcome limit id m s = answered-client limit _ None s
once-client New true limit id m s = answered-client limit _ None s
once-client New false limit id m s = answered-client limit _ _ s

twice-client : (a : In) (unwelcome : Bool) (limit id : ℕ) (m : Message) (s : State) → (twice_by a unwelcome limit id m s).left.kept.client ≡ s.kept.client
twice-client OverMaximum unwelcome limit id m s = refl
twice-client InUse unwelcome limit id m s = answered-client limit _ None s
twice-client Repeat unwelcome limit id m s = answered-client limit _ None s
twice-client New true limit id m s = answered-client limit _ None s
twice-client New false limit id m s = answered-client limit _ _ s

passes-client : (q : Qos) (p : Publish) (unwelcome : Bool) (limit : ℕ) (m : Message) (s : State) → (passes_by q p unwelcome limit m s).left.kept.client ≡ s.kept.client
passes-client AtMostOnce p unwelcome limit m s = refl
passes-client AtLeastOnce p unwelcome limit m s = once-client (arrival_once s.incoming p.identifier) unwelcome limit p.identifier m s
passes-client ExactlyOnce p unwelcome limit m s = twice-client (arrival_twice s.incoming p.identifier) unwelcome limit p.identifier m _

publish-client : (x : Option ℕ) (p : Publish) (now : ℕ) (room : Bool) (limit : ℕ) (s : State) → (publish_by x p now room limit s).left.kept.client ≡ s.kept.client
publish-client (Some code) p now room limit s = refl
publish-client None p now room limit s = passes-client p.qos p (is_unwelcome p room) limit (message_in p now (setting p s)) (setting p s)

kind-client : (p : Packet) (now : ℕ) (room : Bool) (limit : ℕ) (s new : State) (r : Reaction) → KindStep p now room limit s r new → Leaves s new
kind-client (packets.Publish p) now room limit s new r h = rw h.1 (publish-client (refusal (aliases_of s.link) p) p now room limit s)
kind-client (packets.Puback a) now room limit s new r h = rw h.left refl
kind-client (packets.Pubrec a) now room limit s new r h = pubrec-client h.answer a.identifier a.reason now limit s new h.mid r h.goes_on
kind-client (packets.Pubrel a) now room limit s new r h = rw h.1 (answered-client limit _ None _)
kind-client (packets.Pubcomp a) now room limit s new r h = rw h.left refl
kind-client (packets.Subscribe p) now room limit s new r h = subscribe-client p limit s new r h
kind-client (packets.Unsubscribe p) now room limit s new r h = rw h.1 (asks-client (is_some (opened p.identifier s.incoming)) limit _ s _ _ refl)
kind-client packets.Pingreq now room limit s new r h = comes-client limit _ None s r new h
kind-client (packets.Disconnect p) now room limit s new r h = rw h.1 (disconnect-client (first_four 17 p.properties) p limit s)
kind-client (packets.Connect p) now room limit s new r h = rw h.1 refl
kind-client (packets.Connack p) now room limit s new r h = rw h.1 refl
kind-client (packets.Suback p) now room limit s new r h = rw h.1 refl
kind-client (packets.Unsuback p) now room limit s new r h = rw h.1 refl
kind-client packets.Pingresp now room limit s new r h = rw h.1 refl
kind-client (packets.Auth p) now room limit s new r h = rw h.1 refl

packet-client : (x : Option ℕ) (p : Packet) (now : ℕ) (room : Bool) (old new : State) (r : Reaction) → PacketIf x p now room old r new → Leaves old new
packet-client None p now room old new r h = rw h.1 refl
packet-client (Some limit) p now room old new r h = kind-client p now room limit (heard old now) new r h

-- a session stays its client's
pub event-client : (old new : State) (e : Event) (r : Reaction) → Reacts old e r new → new.kept.client ≡ old.kept.client
event-client old new (connects c continued room now) r h = opens-client (fits (limit_in c.properties) (connack continued c.client old.kept.client)) old new c _ room now r h.1
event-client old new (queues d now) r h = queue-client (is_once d.qos) old new d now r h
event-client old new (rooms bytes now) r h = rw h.left refl
event-client old new (takes p now room) r h = packet-client (limit_of old.link) p now room old new r h
event-client old new (answers i codes) r h = rw h.1 (answer-client old.link i codes old)
event-client old new (closes now) r h = rw h.1 refl
event-client old new (ticks now) r h = rw h.1 (tick-client _ _ _ now old)
event-client old new (finishes now) r h = rw h.1 refl
event-client old new loses r h = ap (λ (k : Kept). k.client) h.kept
