-- What outlives a connection is what events tell of it.
use Rattle.std.proofs.Common.{◌≡◌, ℕ, ◌≤◌, Bool, true, false, cond, List, [], ◌∷◌, Option, Some, None, refl, ap, inl, inr}
use Rattle.std.specs.Prelude.{◌==◌, ◌&&◌, not, is_some, length, replicate}
use Rattle.std.proofs.lemmas.Bool.{cases_Bool, leb-true, false≢true}
use Rattle.mqtt_fields.specs.declared.options.Qos.{Qos}
use Rattle.mqtt_fields.specs.declared.options.Qos.TheVariants.{AtMostOnce, AtLeastOnce, ExactlyOnce}
use Rattle.mqtt_fields.specs.Properties.{first_four}
use Rattle.mqtt_packets.specs.declared.connect.Connect.{Connect}
use Rattle.mqtt_packets.specs.declared.connect.Will.{Will}
use Rattle.mqtt_packets.specs.declared.ended.Ended.{Ended}
use Rattle.mqtt_packets.specs.declared.packet.Packet.{Packet}
use Rattle.mqtt_packets.specs.declared.packet.Packet.TheVariants as packets
use Rattle.mqtt_packets.specs.declared.publish.Publish.{Publish}
use Rattle.mqtt_packets.specs.declared.subscribe.Subscribe.{Subscribe}
use Rattle.mqtt_message.specs.Accepted.{accepted_will}
use Rattle.mqtt_message.specs.Expiry.{due_of}
use Rattle.mqtt_message.specs.declared.delivery.Delivery.{Delivery}
use Rattle.mqtt_message.specs.declared.message.Message.{Message}
use Rattle.qos_handshakes.specs.declared.answers.In.{In}
use Rattle.qos_handshakes.specs.declared.answers.In.TheVariants.{New, Repeat, InUse, OverMaximum}
use Rattle.qos_handshakes.specs.declared.answers.Rec.{Rec}
use Rattle.qos_handshakes.specs.declared.answers.Rec.TheVariants as rec
use Rattle.qos_handshakes.specs.Incoming.{opened}
use Rattle.qos_handshakes.specs.Outbox.{Outbox}
use Rattle.law_handshakes.specs.Numbers.{AreNumbered}
use Rattle.mqtt_sessions.specs.declared.kept.Phase.{Phase}
use Rattle.mqtt_sessions.specs.declared.kept.Phase.TheVariants.{Connected, Closed}
use Rattle.mqtt_sessions.specs.declared.link.Asked.{Asked}
use Rattle.mqtt_sessions.specs.declared.link.Asked.TheVariants.{Subscribing, Unsubscribing}
use Rattle.mqtt_sessions.specs.declared.reaction.Ask.{Ask}
use Rattle.mqtt_sessions.specs.declared.reaction.Ask.TheVariants.{Pass}
use Rattle.mqtt_sessions.specs.Answers.{connack, fits, pubcomp, pubrel, suback, unsuback}
use Rattle.mqtt_sessions.specs.Arriving.{after_release, arrival_once, arrival_twice, is_unwelcome, message_in, once_by, passes_by, publish_by, refusal, release_code, setting, twice_by}
use Rattle.mqtt_sessions.specs.Asking.{SubscribeStep, answer_by, answer_of, answer_on, waiting_for}
use Rattle.mqtt_sessions.specs.Connecting.{OpensIf}
use Rattle.mqtt_sessions.specs.Ending.{ask_of, disconnected_by, end_due, has_run_out, is_due, message_of, ticked_if, timed_out, will_by, will_due}
use Rattle.mqtt_sessions.specs.Packets.{KindStep, PacketIf, PubrecBy, SaysUnknown}
use Rattle.mqtt_sessions.specs.Reaction.{Reaction, Comes, answered}
use Rattle.mqtt_sessions.specs.Sending.{QueueIf, is_once}
use Rattle.mqtt_sessions.specs.State.{Kept, Link, State, aliases_of, heard, limit_in, limit_of, new_session}
use Rattle.law_sessions.specs.Runs.{Event, connects, queues, rooms, takes, answers, closes, ticks, finishes, loses, Step, Reacts, Run, connected_after, limit_after}
use Rattle.law_sessions.proofs.CallLaws.{numbered-calls}
use Rattle.law_sessions.proofs.ProjectLaws.{project}
use Rattle.law_sessions.proofs.QuietLaws.{HasLimit}
use Rattle.law_deliveries.specs.Wills.{after_disconnect, after_packet, kept_after, WillBy, AllWills, KeepsWills}

-- ---- what a packet leaves
answered-kept : (limit : ℕ) (p : Packet) (ask : Option Ask) (s : State) → (answered limit p ask s).left.kept ≡ s.kept
answered-kept limit p ask s = elim (cases_Bool (fits limit p)) [ inl f ↦ rw f refl | inr f ↦ rw f refl ]

comes-kept : (limit : ℕ) (p : Packet) (ask : Option Ask) (s new : State) (r : Reaction) → Comes (answered limit p ask s) r new → new.kept ≡ s.kept
comes-kept limit p ask s new r c = rw c.1 (answered-kept limit p ask s)

once-kept : (a : In) (unwelcome : Bool) (limit id : ℕ) (m : Message) (s : State) → (once_by a unwelcome limit id m s).left.kept ≡ s.kept
once-kept OverMaximum unwelcome limit id m s = refl
once-kept InUse unwelcome limit id m s = answered-kept limit _ None s
once-kept Repeat unwelcome limit id m s = answered-kept limit _ None s
once-kept New true limit id m s = answered-kept limit _ None s
once-kept New false limit id m s = answered-kept limit _ _ s

twice-kept : (a : In) (unwelcome : Bool) (limit id : ℕ) (m : Message) (s : State) → (twice_by a unwelcome limit id m s).left.kept ≡ s.kept
twice-kept OverMaximum unwelcome limit id m s = refl
twice-kept InUse unwelcome limit id m s = answered-kept limit _ None s
twice-kept Repeat unwelcome limit id m s = answered-kept limit _ None s
twice-kept New true limit id m s = answered-kept limit _ None s
twice-kept New false limit id m s = answered-kept limit _ _ s

passes-kept : (q : Qos) (p : Publish) (unwelcome : Bool) (limit : ℕ) (m : Message) (s : State) → (passes_by q p unwelcome limit m s).left.kept ≡ s.kept
passes-kept AtMostOnce p unwelcome limit m s = refl
passes-kept AtLeastOnce p unwelcome limit m s = once-kept (arrival_once s.incoming p.identifier) unwelcome limit p.identifier m s
passes-kept ExactlyOnce p unwelcome limit m s = twice-kept (arrival_twice s.incoming p.identifier) unwelcome limit p.identifier m _

publish-kept : (why : Option ℕ) (p : Publish) (now : ℕ) (room : Bool) (limit : ℕ) (s : State) → (publish_by why p now room limit s).left.kept ≡ s.kept
publish-kept (Some code) p now room limit s = refl
publish-kept None p now room limit s = passes-kept p.qos p (is_unwelcome p room) limit (message_in p now (setting p s)) (setting p s)

unknown-kept : (id reason limit : ℕ) (s new : State) (r : Reaction) → SaysUnknown id reason limit s r new → new.kept ≡ s.kept
unknown-kept id reason limit s new r (inl h) = comes-kept limit (pubrel id 146) None s new r h.1
unknown-kept id reason limit s new r (inr h) = rw h.2 refl

pubrec-kept : (a : Rec) (id reason now limit : ℕ) (s new : State) (mid : Outbox) (r : Reaction) → PubrecBy a id reason now limit s mid r new → new.kept ≡ s.kept
pubrec-kept rec.Release id reason now limit s new mid r h = comes-kept limit (pubrel id 0) None _ new r h
pubrec-kept rec.Ended id reason now limit s new mid r h = rw h.left refl
pubrec-kept rec.Unknown id reason now limit s new mid r h = unknown-kept id reason limit _ new r h
pubrec-kept rec.AtEnd id reason now limit s new mid r h = absurd h

asks-kept : (b : Bool) (limit : ℕ) (p : Packet) (s t : State) (w : Reaction) → t.kept ≡ s.kept → (cond b (answered limit p None s) (record { reaction = w; left = t })).left.kept ≡ s.kept
asks-kept true limit p s t w k = answered-kept limit p None s
asks-kept false limit p s t w k = k

subscribe-kept : (p : Subscribe) (limit : ℕ) (s new : State) (r : Reaction) → SubscribeStep p limit s r new → new.kept ≡ s.kept
subscribe-kept p limit s new r (inl h) = rw h.1.1 refl
subscribe-kept p limit s new r (inr h) = rw h.1.1 (asks-kept (is_some (opened p.identifier s.incoming)) limit (suback p.identifier (replicate (length p.filters) 145)) s (waiting_for (Some Subscribing) s) _ refl)

disconnect-kept : (o : Option ℕ) (p : Ended) (limit : ℕ) (s : State) → (disconnected_by o p limit s).left.kept ≡ after_disconnect o p.reason s.kept
disconnect-kept None p limit s = refl
disconnect-kept (Some new) p limit s = elim (cases_Bool ((s.kept.expiry == 0) && not (new == 0))) [ inl h ↦ rw h refl | inr h ↦ rw h refl ]

kind-kept : (p : Packet) (now : ℕ) (room : Bool) (limit : ℕ) (s new : State) (r : Reaction) → KindStep p now room limit s r new → new.kept ≡ after_packet p s.kept
kind-kept (packets.Publish p) now room limit s new r h = rw h.1 (publish-kept (refusal (aliases_of s.link) p) p now room limit s)
kind-kept (packets.Puback k) now room limit s new r h = rw h.left refl
kind-kept (packets.Pubrec k) now room limit s new r h = pubrec-kept h.answer k.identifier k.reason now limit s new h.mid r h.goes_on
kind-kept (packets.Pubrel k) now room limit s new r h = comes-kept limit (pubcomp k.identifier (release_code s.incoming k.identifier)) None (record s { incoming = after_release s.incoming k.identifier }) new r h
kind-kept (packets.Pubcomp k) now room limit s new r h = rw h.left refl
kind-kept (packets.Subscribe p) now room limit s new r h = subscribe-kept p limit s new r h
kind-kept (packets.Unsubscribe p) now room limit s new r h = rw h.1 (asks-kept (is_some (opened p.identifier s.incoming)) limit (unsuback p.identifier (replicate (length p.filters) 145)) s (waiting_for (Some Unsubscribing) s) _ refl)
kind-kept packets.Pingreq now room limit s new r h = comes-kept limit packets.Pingresp None s new r h
kind-kept (packets.Disconnect p) now room limit s new r h = rw h.1 (disconnect-kept (first_four 17 p.properties) p limit s)
kind-kept (packets.Connect p) now room limit s new r h = rw h.1 refl
kind-kept (packets.Connack p) now room limit s new r h = rw h.1 refl
kind-kept (packets.Suback p) now room limit s new r h = rw h.1 refl
kind-kept (packets.Unsuback p) now room limit s new r h = rw h.1 refl
kind-kept packets.Pingresp now room limit s new r h = rw h.1 refl
kind-kept (packets.Auth p) now room limit s new r h = rw h.1 refl

packet-kept : (o : Option Link) (on : Bool) (p : Packet) (now : ℕ) (room : Bool) (old new : State) (r : Reaction) → on ≡ is_some o → PacketIf (limit_of o) p now room old r new → new.kept ≡ cond on (after_packet p old.kept) old.kept
packet-kept None on p now room old new r is h = rw (is, h.1) refl
packet-kept (Some l) on p now room old new r is h = rw is (kind-kept p now room l.limit (heard old now) new r h)

-- ---- any other event
opens-kept : (fit : Bool) (old new : State) (c : Connect) (p : Packet) (continued : Bool) (on : Bool) (room : Option ℕ) (now : ℕ) (r : Reaction) → OpensIf fit old c p room now r new → new.kept ≡ kept_after on old.kept (connects c continued room now) r
opens-kept true old new c p continued on room now r h = rw h.left refl
opens-kept false old new c p continued on room now r h = rw h.1 refl

queue-kept : (b : Bool) (old new : State) (d : Delivery) (now : ℕ) (r : Reaction) → QueueIf b old d now r new → new.kept ≡ old.kept
queue-kept true old new d now r q = rw q.1 refl
queue-kept false old new d now r (inl q) = rw q.left refl
queue-kept false old new d now r (inr q) = rw q.left refl

codes-kept : (a : Option Asked) (limit id : ℕ) (codes : List ℕ) (s : State) → (answer_by a limit id codes s).left.kept ≡ s.kept
codes-kept None limit id codes s = refl
codes-kept (Some a) limit id codes s = answered-kept limit (answer_of a id codes) None (waiting_for None s)

answer-kept : (o : Option Link) (id : ℕ) (codes : List ℕ) (s : State) → (answer_on o id codes s).left.kept ≡ s.kept
answer-kept None id codes s = refl
answer-kept (Some l) id codes s = codes-kept l.asked l.limit id codes s

-- ---- what is due
timed-kept : (o : Option Link) (s : State) → ((timed_out o s).left.kept ≡ s.kept) × ((timed_out o s).reaction.ask ≡ None)
timed-kept None s = (refl, refl)
timed-kept (Some l) s = (refl, refl)

-- a will that is due is there, and the session is closed
record IsDue (k : Kept) (now : ℕ) : Type 0 where
  pub will : Will
  pub closed : ℕ
  pub is : k.will ≡ Some will
  pub since : k.phase ≡ Closed closed
  pub due : due_of will closed k.expiry ≤ now

due-by : (o : Option Will) (f : Phase) (k : Kept) (now : ℕ) → k.will ≡ o → k.phase ≡ f → is_due (will_by o f k.expiry) now ≡ true → IsDue k now
due-by None f k now is since h = absurd (false≢true h)
due-by (Some w) Connected k now is since h = absurd (false≢true h)
due-by (Some w) (Closed at) k now is since h = record { will = w; closed = at; is = is; since = since; due = leb-true (due_of w at k.expiry) now h }

tick-told : (a b c : Bool) (on : Bool) (now : ℕ) (s : State) → is_due (will_due s.kept) now ≡ b
    → ((ticked_if a b c now s).left.kept ≡ kept_after on s.kept (ticks now) (ticked_if a b c now s).reaction) × WillBy s.kept (ticks now) (ticked_if a b c now s).reaction
tick-told true b c on now s e = let k = timed-kept s.link s in (rw k.1 k.0, inl k.1)
tick-told false true c on now s e =
    let d = due-by s.kept.will s.kept.phase s.kept now refl refl e in
    let asked : ask_of (message_of s.kept.will s.kept.client now) ≡ Some (Pass (accepted_will d.will s.kept.client now)) = ap (λ (o : Option Will). ask_of (message_of o s.kept.client now)) d.is in
    (rw asked refl, inr (record { will = d.will; closed = d.closed; is = d.is; since = d.since; due = d.due; asks = asked }))
tick-told false false c on now s e = (refl, inl refl)

-- ---- the events
pub told : (on : Bool) (old new : State) (e : Event) (r : Reaction) → on ≡ is_some old.link → Reacts old e r new → new.kept ≡ kept_after on old.kept e r
told on old new (connects c continued room now) r is h = opens-kept (fits (limit_in c.properties) (connack continued c.client old.kept.client)) old new c (connack continued c.client old.kept.client) continued on room now r h.1
told on old new (queues d now) r is h = queue-kept (is_once d.qos) old new d now r h
told on old new (rooms bytes now) r is h = rw h.left refl
told on old new (takes p now room) r is h = packet-kept old.link on p now room old new r is h
told on old new (answers id codes) r is h = rw h.1 (answer-kept old.link id codes old)
told on old new (closes now) r is h = rw h.1 refl
told on old new (ticks now) r is h = rw (h.1, h.0) (tick-told (has_run_out old.link now) (is_due (will_due old.kept) now) (is_due (end_due old.kept) now) on now old refl).0
told on old new (finishes now) r is h = rw h.1 refl
told on old new loses r is h = h.kept

opens-none : (fit : Bool) (old new : State) (c : Connect) (p : Packet) (room : Option ℕ) (now : ℕ) (r : Reaction) → OpensIf fit old c p room now r new → r.ask ≡ None
opens-none true old new c p room now r h = rw h.reacts refl
opens-none false old new c p room now r h = rw h.0 refl

queue-none : (b : Bool) (old new : State) (d : Delivery) (now : ℕ) (r : Reaction) → QueueIf b old d now r new → r.ask ≡ None
queue-none true old new d now r q = rw q.0 refl
queue-none false old new d now r (inl q) = rw q.reacts refl
queue-none false old new d now r (inr q) = rw q.reacts refl

codes-none : (a : Option Asked) (limit id : ℕ) (codes : List ℕ) (s : State) → (answer_by a limit id codes s).reaction.ask ≡ None
codes-none None limit id codes s = refl
codes-none (Some a) limit id codes s = elim (cases_Bool (fits limit (answer_of a id codes))) [ inl f ↦ rw f refl | inr f ↦ rw f refl ]

answer-none : (o : Option Link) (id : ℕ) (codes : List ℕ) (s : State) → (answer_on o id codes s).reaction.ask ≡ None
answer-none None id codes s = refl
answer-none (Some l) id codes s = codes-none l.asked l.limit id codes s

will-by : (old new : State) (e : Event) (r : Reaction) → Reacts old e r new → WillBy old.kept e r
will-by old new (connects c continued room now) r h = opens-none (fits (limit_in c.properties) (connack continued c.client old.kept.client)) old new c (connack continued c.client old.kept.client) room now r h.1
will-by old new (queues d now) r h = queue-none (is_once d.qos) old new d now r h
will-by old new (rooms bytes now) r h = rw h.reacts refl
will-by old new (takes p now room) r h = tt
will-by old new (answers id codes) r h = rw h.0 (answer-none old.link id codes old)
will-by old new (closes now) r h = rw h.0 refl
will-by old new (ticks now) r h = rw h.0 (tick-told (has_run_out old.link now) (is_due (will_due old.kept) now) (is_due (end_due old.kept) now) false now old refl).1
will-by old new (finishes now) r h = rw h.0 refl
will-by old new loses r h = rw h.quiet refl

wills-run : (on : Bool) (limit : ℕ) (old : State) (steps : List Step) (end : State) → HasLimit limit old.link → on ≡ is_some old.link → AreNumbered old.outbox.copies → Run old steps end → AllWills on old.kept steps
wills-run on limit old [] end is opens n r = tt
wills-run on limit old (s ∷ ss) end is opens n r =
    let p = project on limit old r.0 s.event s.reaction is opens n r.1 in
    let next = told on old r.0 s.event s.reaction opens r.1 in (
      will-by old r.0 s.event s.reaction r.1,
      rw (← next) (wills-run (connected_after on s.event s.reaction) (limit_after limit s.event) r.0 ss end p.limited p.connected (numbered-calls old.outbox p.calls r.0.outbox p.runs n) r.2),
    )

pub keeps_wills : KeepsWills
keeps_wills = λ client steps end r. wills-run false 0 (new_session client) steps end tt refl tt r
