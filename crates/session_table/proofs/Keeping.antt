-- Calls that leave the rows of a session as they are.
use Rattle.std.proofs.Common.{◌≡◌, ℕ, Bool, true, false, cond, List, Option, Some, None, inl, inr, refl, sym, ap, subst, ◌∙◌}
use Rattle.std.specs.Prelude.{◌||◌, not, is_some, length, replicate}
use Rattle.std.proofs.lemmas.Bool.{false≢true}
use Rattle.mqtt_fields.specs.declared.options.Qos.{Qos}
use Rattle.mqtt_fields.specs.declared.options.Qos.TheVariants.{AtMostOnce, AtLeastOnce, ExactlyOnce}
use Rattle.mqtt_message.specs.declared.delivery.Delivery.{Delivery}
use Rattle.mqtt_message.specs.declared.message.Message.{Message}
use Rattle.mqtt_packets.specs.declared.connect.Will.{Will}
use Rattle.mqtt_packets.specs.declared.packet.Packet.{Packet}
use Rattle.mqtt_packets.specs.declared.packet.Packet.TheVariants as packets
use Rattle.mqtt_packets.specs.declared.publish.Publish.{Publish}
use Rattle.mqtt_packets.specs.declared.subscribe.Subscribe.{Subscribe}
use Rattle.qos_handshakes.specs.declared.answers.In.{In}
use Rattle.qos_handshakes.specs.declared.answers.In.TheVariants.{New, Repeat, InUse, OverMaximum}
use Rattle.qos_handshakes.specs.Incoming.{opened}
use Rattle.mqtt_sessions.specs.declared.link.Asked.{Asked}
use Rattle.mqtt_sessions.specs.declared.reaction.Ask.{Ask}
use Rattle.mqtt_sessions.specs.Answers.{fits, puback, suback, unsuback}
use Rattle.mqtt_sessions.specs.Arriving.{refusal, message_in, setting, publish_by, passes_by, once_by, arrival_once, is_unwelcome}
use Rattle.mqtt_sessions.specs.Asking.{SubscribeStep, answer_by, answer_of, answer_on, waiting_for}
use Rattle.mqtt_sessions.specs.Ending.{ask_of, end_due, finished, has_run_out, is_due, message_of, passes_will, ticked, ticked_if, timed_out, will_due}
use Rattle.mqtt_sessions.specs.Packets.{KindStep, PacketIf}
use Rattle.mqtt_sessions.specs.Reaction.{Reaction, Outcome, answered}
use Rattle.mqtt_sessions.specs.Saved.{durable_of, is_single}
use Rattle.mqtt_sessions.specs.Sending.{QueueIf, is_once}
use Rattle.mqtt_sessions.specs.State.{State, Link, aliases_of, cut, heard, limit_of}
use Rattle.law_sessions.specs.Runs.{Event, connects, queues, rooms, takes, answers, closes, ticks, finishes, loses, Reacts}
use Rattle.session_table.specs.Wants.{is_unexpected, keeps_durable, leaves_rows}

-- an outcome that leaves what outlives connections
abbrev Keeps : State → Outcome → Type 0
Keeps s o = durable_of o.left ≡ durable_of s

either_keeps : (b : Bool) (s : State) (x y : Outcome) → Keeps s x → Keeps s y → Keeps s (cond b x y)
either_keeps true s x y p q = p
either_keeps false s x y p q = q

answered_keeps : (limit : ℕ) (p : Packet) (ask : Option Ask) (s : State) → Keeps s (answered limit p ask s)
answered_keeps limit p ask s = either_keeps (fits limit p) s _ _ refl refl

-- ---- packets
once_keeps : (a : In) (unwelcome : Bool) (limit id : ℕ) (m : Message) (s : State) → Keeps s (once_by a unwelcome limit id m s)
once_keeps OverMaximum unwelcome limit id m s = refl
once_keeps InUse unwelcome limit id m s = answered_keeps limit (puback id 145) _ s
once_keeps Repeat unwelcome limit id m s = answered_keeps limit (puback id 145) _ s
once_keeps New true limit id m s = answered_keeps limit (puback id 151) _ s
once_keeps New false limit id m s = answered_keeps limit (puback id 0) _ s

passes_keeps : (q : Qos) (p : Publish) (unwelcome : Bool) (limit : ℕ) (m : Message) (s : State) → is_single q ≡ true → Keeps s (passes_by q p unwelcome limit m s)
passes_keeps AtMostOnce p unwelcome limit m s is = refl
passes_keeps AtLeastOnce p unwelcome limit m s is = once_keeps (arrival_once s.incoming p.identifier) unwelcome limit p.identifier m s
passes_keeps ExactlyOnce p unwelcome limit m s is = absurd (false≢true is)

publish_keeps : (why : Option ℕ) (p : Publish) (now : ℕ) (room : Bool) (limit : ℕ) (s : State) → is_single p.qos ≡ true → Keeps s (publish_by why p now room limit s)
publish_keeps (Some code) p now room limit s is = refl
publish_keeps None p now room limit s is = passes_keeps p.qos p (is_unwelcome p room) limit (message_in p now (setting p s)) (setting p s) is

subscribe_keeps : (p : Subscribe) (limit : ℕ) (s : State) (r : Reaction) (new : State) → SubscribeStep p limit s r new → durable_of new ≡ durable_of s
subscribe_keeps p limit s r new (inl breaks) = ap durable_of breaks.1.1
subscribe_keeps p limit s r new (inr keeps) =
    ap durable_of keeps.1.1 ∙ either_keeps (is_some (opened p.identifier s.incoming)) s _ _ (answered_keeps limit (suback p.identifier (replicate (length p.filters) 145)) _ s) refl

kind_keeps : (p : Packet) (now : ℕ) (room : Bool) (limit : ℕ) (s : State) (r : Reaction) (new : State) → keeps_durable p ≡ true → KindStep p now room limit s r new → durable_of new ≡ durable_of s
kind_keeps (packets.Publish p) now room limit s r new is step = ap durable_of step.1 ∙ publish_keeps (refusal (aliases_of s.link) p) p now room limit s is
kind_keeps (packets.Subscribe p) now room limit s r new is step = subscribe_keeps p limit s r new step
kind_keeps (packets.Unsubscribe p) now room limit s r new is step =
    ap durable_of step.1 ∙ either_keeps (is_some (opened p.identifier s.incoming)) s _ _ (answered_keeps limit (unsuback p.identifier (replicate (length p.filters) 145)) _ s) refl
kind_keeps packets.Pingreq now room limit s r new is step = ap durable_of step.1 ∙ answered_keeps limit packets.Pingresp None s
kind_keeps (packets.Connect p) now room limit s r new is step = absurd (false≢true is)
kind_keeps (packets.Connack p) now room limit s r new is step = absurd (false≢true is)
kind_keeps (packets.Puback p) now room limit s r new is step = absurd (false≢true is)
kind_keeps (packets.Pubrec p) now room limit s r new is step = absurd (false≢true is)
kind_keeps (packets.Pubrel p) now room limit s r new is step = absurd (false≢true is)
kind_keeps (packets.Pubcomp p) now room limit s r new is step = absurd (false≢true is)
kind_keeps (packets.Suback p) now room limit s r new is step = absurd (false≢true is)
kind_keeps (packets.Unsuback p) now room limit s r new is step = absurd (false≢true is)
kind_keeps packets.Pingresp now room limit s r new is step = absurd (false≢true is)
kind_keeps (packets.Disconnect p) now room limit s r new is step = absurd (false≢true is)
kind_keeps (packets.Auth p) now room limit s r new is step = absurd (false≢true is)

or_none : (b : Bool) → (b || false) ≡ true → b ≡ true
or_none true is = refl
or_none false is = is

-- what is unexpected cuts the connection
unexpected_keeps : (p : Packet) (now : ℕ) (room : Bool) (limit : ℕ) (s : State) (r : Reaction) (new : State) → is_unexpected p ≡ true → KindStep p now room limit s r new → durable_of new ≡ durable_of s
unexpected_keeps (packets.Connect p) now room limit s r new is step = ap durable_of step.1
unexpected_keeps (packets.Connack p) now room limit s r new is step = ap durable_of step.1
unexpected_keeps (packets.Suback p) now room limit s r new is step = ap durable_of step.1
unexpected_keeps (packets.Unsuback p) now room limit s r new is step = ap durable_of step.1
unexpected_keeps packets.Pingresp now room limit s r new is step = ap durable_of step.1
unexpected_keeps (packets.Auth p) now room limit s r new is step = ap durable_of step.1
unexpected_keeps (packets.Publish p) now room limit s r new is step = absurd (false≢true is)
unexpected_keeps (packets.Puback p) now room limit s r new is step = absurd (false≢true is)
unexpected_keeps (packets.Pubrec p) now room limit s r new is step = absurd (false≢true is)
unexpected_keeps (packets.Pubrel p) now room limit s r new is step = absurd (false≢true is)
unexpected_keeps (packets.Pubcomp p) now room limit s r new is step = absurd (false≢true is)
unexpected_keeps (packets.Subscribe p) now room limit s r new is step = absurd (false≢true is)
unexpected_keeps (packets.Unsubscribe p) now room limit s r new is step = absurd (false≢true is)
unexpected_keeps packets.Pingreq now room limit s r new is step = absurd (false≢true is)
unexpected_keeps (packets.Disconnect p) now room limit s r new is step = absurd (false≢true is)

either_kind : (keeps unexpected : Bool) (A : Type 0) → (keeps || unexpected) ≡ true → (keeps ≡ true → A) → (unexpected ≡ true → A) → A
either_kind true unexpected A is f g = f refl
either_kind false unexpected A is f g = g is

packet_keeps : (l : Option ℕ) (p : Packet) (now : ℕ) (room : Bool) (s : State) (r : Reaction) (new : State) → (not (is_some l) || (keeps_durable p || is_unexpected p)) ≡ true → PacketIf l p now room s r new → durable_of new ≡ durable_of s
packet_keeps None p now room s r new is step = ap durable_of step.1
packet_keeps (Some limit) p now room s r new is step =
    either_kind (keeps_durable p) (is_unexpected p) (durable_of new ≡ durable_of s) is (λ i. kind_keeps p now room limit (heard s now) r new i step) (λ i. unexpected_keeps p now room limit (heard s now) r new i step)

-- ---- codes
codes_keep : (a : Option Asked) (limit id : ℕ) (codes : List ℕ) (s : State) → Keeps s (answer_by a limit id codes s)
codes_keep None limit id codes s = refl
codes_keep (Some asked) limit id codes s = answered_keeps limit (answer_of asked id codes) None (waiting_for None s)

answer_keeps : (o : Option Link) (id : ℕ) (codes : List ℕ) (s : State) → Keeps s (answer_on o id codes s)
answer_keeps None id codes s = refl
answer_keeps (Some l) id codes s = codes_keep l.asked l.limit id codes s

-- ---- copies
queue_keeps : (once : Bool) (d : Delivery) (now : ℕ) (s : State) (r : Reaction) (new : State) → (once || r.full) ≡ true → QueueIf once s d now r new → durable_of new ≡ durable_of s
queue_keeps true d now s r new is step = ap durable_of step.1
queue_keeps false d now s r new is (inl joins) = absurd (false≢true (sym (ap (λ (x : Reaction). x.full) joins.reacts) ∙ is))
queue_keeps false d now s r new is (inr overflows) = ap durable_of overflows.left

-- ---- wills
no_message : (w : Option Will) (client : List ℕ) (now : ℕ) → not (is_some (ask_of (message_of w client now))) ≡ true → w ≡ None
no_message None client now is = refl
no_message (Some w) client now is = absurd (false≢true is)

no_will : (now : ℕ) (over : Bool) (s : State) → not (is_some (passes_will now over s).reaction.ask) ≡ true → Keeps s (passes_will now over s)
no_will now over s is = ap (λ (w : Option Will). durable_of (record s { kept = record s.kept { will = w } })) (sym (no_message s.kept.will s.kept.client now is))

timed_keeps : (l : Option Link) (s : State) → Keeps s (timed_out l s)
timed_keeps None s = refl
timed_keeps (Some l) s = refl

tick_keeps : (out will end : Bool) (now : ℕ) (s : State) → not (is_some (ticked_if out will end now s).reaction.ask) ≡ true → Keeps s (ticked_if out will end now s)
tick_keeps true will end now s is = timed_keeps s.link s
tick_keeps false true end now s is = no_will now false s is
tick_keeps false false end now s is = refl

asks_none : (r given : Reaction) → r ≡ given → (not (is_some r.ask) || false) ≡ true → not (is_some given.ask) ≡ true
asks_none r given same is = subst (λ (x : Reaction). not (is_some x.ask) ≡ true) same (or_none _ is)

-- ---- any call
pub event_still : (e : Event) (s : State) (r : Reaction) (new : State) → leaves_rows e s r ≡ true → Reacts s e r new → durable_of new ≡ durable_of s
event_still (connects c continued room now) s r new is step = absurd (false≢true is)
event_still (queues d now) s r new is step = queue_keeps (is_once d.qos) d now s r new is step
event_still (rooms bytes now) s r new is step = absurd (false≢true is)
event_still (takes p now room) s r new is step = packet_keeps (limit_of s.link) p now room s r new (or_none _ is) step
event_still (answers id codes) s r new is step = ap durable_of step.1 ∙ answer_keeps s.link id codes s
event_still (closes now) s r new is step = absurd (false≢true is)
event_still (ticks now) s r new is step =
    ap durable_of step.1 ∙ tick_keeps (has_run_out s.link now) (is_due (will_due s.kept) now) (is_due (end_due s.kept) now) now s (asks_none r (ticked now s).reaction step.0 is)
event_still (finishes now) s r new is step = ap durable_of step.1 ∙ no_will now true (cut s) (asks_none r (finished now s).reaction step.0 is)
event_still loses s r new is step = absurd (false≢true is)
