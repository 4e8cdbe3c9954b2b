-- A session that is connected stays so, but for a close; a connection that begins makes it so.
use Rattle.std.proofs.Common.{◌≡◌, inl, inr, ℕ, ◌==◌, ◌&&◌, not, is_some, length, replicate, Bool, true, false, cond, List, Option, Some, None, refl, ap, ◌∙◌}
use Rattle.mqtt_fields.specs.declared.options.Qos.{Qos}
use Rattle.mqtt_fields.specs.declared.options.Qos.TheVariants.{AtMostOnce, AtLeastOnce, ExactlyOnce}
use Rattle.mqtt_fields.specs.Properties.{first_four}
use Rattle.mqtt_packets.specs.declared.connect.Connect.{Connect}
use Rattle.mqtt_packets.specs.declared.ended.Ended.{Ended}
use Rattle.mqtt_packets.specs.declared.packet.Packet.{Packet}
use Rattle.mqtt_packets.specs.declared.packet.Packet.TheVariants as packets
use Rattle.mqtt_packets.specs.declared.publish.Publish.{Publish}
use Rattle.mqtt_packets.specs.declared.subscribe.Subscribe.{Subscribe}
use Rattle.mqtt_message.specs.declared.delivery.Delivery.{Delivery}
use Rattle.mqtt_message.specs.declared.message.Message.{Message}
use Rattle.qos_handshakes.specs.declared.answers.In.{In}
use Rattle.qos_handshakes.specs.declared.answers.In.TheVariants.{New, Repeat, InUse, OverMaximum}
use Rattle.qos_handshakes.specs.declared.answers.Rec.{Rec}
use Rattle.qos_handshakes.specs.declared.answers.Rec.TheVariants as rec
use Rattle.qos_handshakes.specs.Incoming.{opened}
use Rattle.qos_handshakes.specs.Outbox.{Outbox}
use Rattle.mqtt_sessions.specs.declared.kept.Phase.{Phase}
use Rattle.mqtt_sessions.specs.declared.kept.Phase.TheVariants.{Connected}
use Rattle.mqtt_sessions.specs.declared.link.Asked.{Asked}
use Rattle.mqtt_sessions.specs.declared.reaction.Ask.{Ask}
use Rattle.mqtt_sessions.specs.Answers.{connack, fits, pubcomp, pubrel}
use Rattle.mqtt_sessions.specs.Arriving.{after_release, arrival_once, arrival_twice, is_unwelcome, message_in, once_by, passes_by, publish_by, refusal, release_code, setting, twice_by}
use Rattle.mqtt_sessions.specs.Asking.{SubscribeStep, answer_by, answer_of, answer_on, subscribed, unsubscribed, waiting_for}
use Rattle.mqtt_sessions.specs.Connecting.{OpensIf}
use Rattle.mqtt_sessions.specs.Ending.{disconnected_by, end_due, has_run_out, is_due, ticked_if, timed_out, will_due}
use Rattle.mqtt_sessions.specs.Packets.{KindStep, PacketIf, PubrecBy, SaysUnknown}
use Rattle.mqtt_sessions.specs.Reaction.{Comes, Outcome, Reaction, answered}
use Rattle.mqtt_sessions.specs.Sending.{QueueIf, is_once}
use Rattle.mqtt_sessions.specs.State.{Link, State, aliases_of, heard, limit_in, limit_of}
use Rattle.law_sessions.specs.Runs.{Event, connects, queues, rooms, takes, answers, closes, ticks, finishes, loses, Reacts}
use Rattle.law_steps.proofs.Gentle.{IsSteady}

either : (b : Bool) (x y : Outcome) (f : Phase) → x.left.kept.phase ≡ f → y.left.kept.phase ≡ f → (cond b x y).left.kept.phase ≡ f
either true x y f a c = a
either false x y f a c = c

came : (o : Outcome) (s new : State) (r : Reaction) → o.left.kept.phase ≡ s.kept.phase → Comes o r new → new.kept.phase ≡ s.kept.phase
came o s new r e c = ap (λ (v : State). v.kept.phase) c.1 ∙ e

left_as : (t s new : State) → t.kept.phase ≡ s.kept.phase → new ≡ t → new.kept.phase ≡ s.kept.phase
left_as t s new e is = ap (λ (v : State). v.kept.phase) is ∙ e

-- ---- what a packet leaves
answered_phase : (limit : ℕ) (p : Packet) (ask : Option Ask) (s : State) → (answered limit p ask s).left.kept.phase ≡ s.kept.phase
answered_phase limit p ask s = either (fits limit p) _ _ s.kept.phase refl refl

once_phase : (a : In) (unwelcome : Bool) (limit id : ℕ) (m : Message) (s : State) → (once_by a unwelcome limit id m s).left.kept.phase ≡ s.kept.phase
once_phase OverMaximum unwelcome limit id m s = refl
once_phase InUse unwelcome limit id m s = answered_phase limit _ None s
once_phase Repeat unwelcome limit id m s = answered_phase limit _ None s
once_phase New true limit id m s = answered_phase limit _ None s
once_phase New false limit id m s = answered_phase limit _ _ s

twice_phase : (a : In) (unwelcome : Bool) (limit id : ℕ) (m : Message) (s : State) → (twice_by a unwelcome limit id m s).left.kept.phase ≡ s.kept.phase
twice_phase OverMaximum unwelcome limit id m s = refl
twice_phase InUse unwelcome limit id m s = answered_phase limit _ None s
twice_phase Repeat unwelcome limit id m s = answered_phase limit _ None s
twice_phase New true limit id m s = answered_phase limit _ None s
twice_phase New false limit id m s = answered_phase limit _ _ s

passes_phase : (q : Qos) (p : Publish) (unwelcome : Bool) (limit : ℕ) (m : Message) (s : State) → (passes_by q p unwelcome limit m s).left.kept.phase ≡ s.kept.phase
passes_phase AtMostOnce p unwelcome limit m s = refl
passes_phase AtLeastOnce p unwelcome limit m s = once_phase (arrival_once s.incoming p.identifier) unwelcome limit p.identifier m s
passes_phase ExactlyOnce p unwelcome limit m s = twice_phase (arrival_twice s.incoming p.identifier) unwelcome limit p.identifier m _

publish_phase : (why : Option ℕ) (p : Publish) (now : ℕ) (room : Bool) (limit : ℕ) (s : State) → (publish_by why p now room limit s).left.kept.phase ≡ s.kept.phase
publish_phase (Some code) p now room limit s = refl
publish_phase None p now room limit s = passes_phase p.qos p (is_unwelcome p room) limit (message_in p now (setting p s)) (setting p s)

unknown_phase : (id reason limit : ℕ) (s new : State) (r : Reaction) → SaysUnknown id reason limit s r new → new.kept.phase ≡ s.kept.phase
unknown_phase id reason limit s new r (inl h) = came (answered limit (pubrel id 146) None s) s new r (answered_phase limit (pubrel id 146) None s) h.1
unknown_phase id reason limit s new r (inr h) = left_as s s new refl h.2

pubrec_phase : (a : Rec) (id reason now limit : ℕ) (s new : State) (mid : Outbox) (r : Reaction) → PubrecBy a id reason now limit s mid r new → new.kept.phase ≡ s.kept.phase
pubrec_phase rec.Release id reason now limit s new mid r h = came _ s new r (answered_phase limit (pubrel id 0) None _) h
pubrec_phase rec.Ended id reason now limit s new mid r h = left_as _ s new refl h.left
pubrec_phase rec.Unknown id reason now limit s new mid r h = unknown_phase id reason limit _ new r h
pubrec_phase rec.AtEnd id reason now limit s new mid r h = absurd h

subscribe_phase : (p : Subscribe) (limit : ℕ) (s new : State) (r : Reaction) → SubscribeStep p limit s r new → new.kept.phase ≡ s.kept.phase
subscribe_phase p limit s new r (inl h) = left_as _ s new refl h.1.1
subscribe_phase p limit s new r (inr h) = came (subscribed p limit s) s new r (either (is_some (opened p.identifier s.incoming)) _ _ s.kept.phase (answered_phase limit _ None s) refl) h.1

disconnect_phase : (o : Option ℕ) (p : Ended) (limit : ℕ) (s : State) → (disconnected_by o p limit s).left.kept.phase ≡ s.kept.phase
disconnect_phase None p limit s = refl
disconnect_phase (Some new) p limit s = either ((s.kept.expiry == 0) && not (new == 0)) _ _ s.kept.phase refl refl

kind_phase : (p : Packet) (now : ℕ) (room : Bool) (limit : ℕ) (s new : State) (r : Reaction) → KindStep p now room limit s r new → new.kept.phase ≡ s.kept.phase
kind_phase (packets.Publish p) now room limit s new r h = came _ s new r (publish_phase (refusal (aliases_of s.link) p) p now room limit s) h
kind_phase (packets.Puback k) now room limit s new r h = left_as _ s new refl h.left
kind_phase (packets.Pubrec k) now room limit s new r h = pubrec_phase h.answer k.identifier k.reason now limit s new h.mid r h.goes_on
kind_phase (packets.Pubrel k) now room limit s new r h =
    came _ s new r (answered_phase limit (pubcomp k.identifier (release_code s.incoming k.identifier)) None (record s { incoming = after_release s.incoming k.identifier })) h
kind_phase (packets.Pubcomp k) now room limit s new r h = left_as _ s new refl h.left
kind_phase (packets.Subscribe p) now room limit s new r h = subscribe_phase p limit s new r h
kind_phase (packets.Unsubscribe p) now room limit s new r h = came (unsubscribed p limit s) s new r (either (is_some (opened p.identifier s.incoming)) _ _ s.kept.phase (answered_phase limit _ None s) refl) h
kind_phase packets.Pingreq now room limit s new r h = came _ s new r (answered_phase limit packets.Pingresp None s) h
kind_phase (packets.Disconnect p) now room limit s new r h = came _ s new r (disconnect_phase (first_four 17 p.properties) p limit s) h
kind_phase (packets.Connect p) now room limit s new r h = left_as _ s new refl h.1
kind_phase (packets.Connack p) now room limit s new r h = left_as _ s new refl h.1
kind_phase (packets.Suback p) now room limit s new r h = left_as _ s new refl h.1
kind_phase (packets.Unsuback p) now room limit s new r h = left_as _ s new refl h.1
kind_phase packets.Pingresp now room limit s new r h = left_as _ s new refl h.1
kind_phase (packets.Auth p) now room limit s new r h = left_as _ s new refl h.1

packet_phase : (o : Option Link) (p : Packet) (now : ℕ) (room : Bool) (old new : State) (r : Reaction) → PacketIf (limit_of o) p now room old r new → new.kept.phase ≡ old.kept.phase
packet_phase None p now room old new r h = left_as old old new refl h.1
packet_phase (Some l) p now room old new r h = kind_phase p now room l.limit (heard old now) new r h

-- ---- any other event
queue_phase : (b : Bool) (old new : State) (d : Delivery) (now : ℕ) (r : Reaction) → QueueIf b old d now r new → new.kept.phase ≡ old.kept.phase
queue_phase true old new d now r q = left_as old old new refl q.1
queue_phase false old new d now r (inl q) = left_as _ old new refl q.left
queue_phase false old new d now r (inr q) = left_as old old new refl q.left

codes_phase : (a : Option Asked) (limit id : ℕ) (codes : List ℕ) (s : State) → (answer_by a limit id codes s).left.kept.phase ≡ s.kept.phase
codes_phase None limit id codes s = refl
codes_phase (Some a) limit id codes s = answered_phase limit (answer_of a id codes) None (waiting_for None s)

answer_phase : (o : Option Link) (id : ℕ) (codes : List ℕ) (s : State) → (answer_on o id codes s).left.kept.phase ≡ s.kept.phase
answer_phase None id codes s = refl
answer_phase (Some l) id codes s = codes_phase l.asked l.limit id codes s

timed_phase : (o : Option Link) (s : State) → (timed_out o s).left.kept.phase ≡ s.kept.phase
timed_phase None s = refl
timed_phase (Some l) s = refl

tick_phase : (a b c : Bool) (now : ℕ) (s : State) → (ticked_if a b c now s).left.kept.phase ≡ s.kept.phase
tick_phase true b c now s = timed_phase s.link s
tick_phase false true c now s = refl
tick_phase false false c now s = refl

pub steady_phase : (old new : State) (e : Event) (r : Reaction) → IsSteady e → Reacts old e r new → new.kept.phase ≡ old.kept.phase
steady_phase old new (connects c continued room now) r steady h = absurd steady
steady_phase old new (queues d now) r steady h = queue_phase (is_once d.qos) old new d now r h
steady_phase old new (rooms bytes now) r steady h = left_as _ old new refl h.left
steady_phase old new (takes p now room) r steady h = packet_phase old.link p now room old new r h
steady_phase old new (answers id codes) r steady h = came _ old new r (answer_phase old.link id codes old) h
steady_phase old new (closes now) r steady h = absurd steady
steady_phase old new (ticks now) r steady h = came _ old new r (tick_phase (has_run_out old.link now) (is_due (will_due old.kept) now) (is_due (end_due old.kept) now) now old) h
steady_phase old new (finishes now) r steady h = left_as _ old new refl h.1
steady_phase old new loses r steady h = absurd steady

-- ---- a connection begins
opens_phase : (fitting : Bool) (old new : State) (c : Connect) (p : Packet) (room : Option ℕ) (now : ℕ) (r : Reaction) → OpensIf fitting old c p room now r new → new.kept.phase ≡ Connected
opens_phase true old new c p room now r h = ap (λ (v : State). v.kept.phase) h.left
opens_phase false old new c p room now r h = ap (λ (v : State). v.kept.phase) h.1

pub connected : (old new : State) (c : Connect) (continued : Bool) (room : Option ℕ) (now : ℕ) (r : Reaction) → Reacts old (connects c continued room now) r new → new.kept.phase ≡ Connected
connected old new c continued room now r h =
    let answer = connack continued c.client old.kept.client in opens_phase (fits (limit_in c.properties) answer) old new c answer room now r h.1
