-- What an event makes of what outlives a session's connections, beside its copies.
use Rattle.std.proofs.Common.{◌≡◌, ℕ, Bool, true, false, List, Option, Some, None, refl, sym, subst, inl, inr}
use Rattle.std.specs.Prelude.{cond, not, ◌==◌, ◌&&◌, is_some}
use Rattle.std.specs.BTreeMap.{is_at, insert_entry}
use Rattle.std.specs.Map.{remove_entry}
use Rattle.std.specs.Ordering.{nat_cmp}
use Rattle.std.proofs.lemmas.Bool.{cases_Bool}
use Rattle.mqtt_fields.specs.declared.options.Qos.{Qos}
use Rattle.mqtt_fields.specs.declared.options.Qos.TheVariants.{AtMostOnce, AtLeastOnce, ExactlyOnce}
use Rattle.mqtt_fields.specs.Properties.{first_four}
use Rattle.mqtt_packets.specs.declared.connect.Connect.{Connect}
use Rattle.mqtt_packets.specs.declared.ended.Ended.{Ended}
use Rattle.mqtt_packets.specs.declared.packet.Packet.{Packet}
use Rattle.mqtt_packets.specs.declared.packet.Packet.TheVariants as packets
use Rattle.mqtt_packets.specs.declared.publish.Publish.{Publish}
use Rattle.mqtt_packets.specs.declared.subscribe.Subscribe.{Subscribe}
use Rattle.mqtt_packets.specs.declared.unsubscribe.Unsubscribe.{Unsubscribe}
use Rattle.mqtt_message.specs.declared.delivery.Delivery.{Delivery}
use Rattle.mqtt_message.specs.declared.message.Message.{Message}
use Rattle.qos_handshakes.specs.declared.answers.In.{In}
use Rattle.qos_handshakes.specs.declared.answers.In.TheVariants.{New, Repeat, InUse, OverMaximum}
use Rattle.qos_handshakes.specs.declared.answers.Rec.{Rec}
use Rattle.qos_handshakes.specs.declared.answers.Rec.TheVariants as rec
use Rattle.qos_handshakes.specs.Incoming.{Received, of_before, opened}
use Rattle.qos_handshakes.specs.Outbox.{Outbox}
use Rattle.mqtt_sessions.specs.declared.kept.Phase.TheVariants.{Closed}
use Rattle.mqtt_sessions.specs.declared.link.Asked.{Asked}
use Rattle.mqtt_sessions.specs.declared.reaction.Ask.{Ask}
use Rattle.mqtt_sessions.specs.Answers.{fits}
use Rattle.mqtt_sessions.specs.Arriving.{refusal, message_in, setting, is_unwelcome, arrival_once, arrival_twice, arrives_twice, once_by, passes_by, publish_by}
use Rattle.mqtt_sessions.specs.Asking.{SubscribeStep, subscribed, unsubscribed, answer_by, answer_on, answer_of, waiting_for}
use Rattle.mqtt_sessions.specs.Connecting.{OpensIf, kept_by}
use Rattle.mqtt_sessions.specs.Ending.{disconnected_by, will_after, ticked_if, timed_out}
use Rattle.mqtt_sessions.specs.Packets.{KindStep, PacketIf, PubrecBy, SaysUnknown}
use Rattle.mqtt_sessions.specs.Reaction.{Reaction, Outcome, Comes, answered}
use Rattle.mqtt_sessions.specs.Sending.{QueueIf, is_once}
use Rattle.mqtt_sessions.specs.State.{Kept, Link, State, aliases_of, heard, limit_of}
use Rattle.law_sessions.specs.Runs.{Event, connects, queues, rooms, takes, answers, closes, ticks, finishes, loses, Reacts}

-- the Session Expiry Interval of a DISCONNECT, where it has one
abbrev pub expiry_by : Option ℕ → ℕ → ℕ
expiry_by None before = before
expiry_by (Some n) before = n

-- what holds of it stays so
abbrev pub TurnsPacket : (Kept → Received → Type 0) → Packet → Type 0
TurnsPacket P (packets.Publish p) = (k : Kept) (i : Received) → P k i → p.qos ≡ ExactlyOnce → P k (insert_entry nat_cmp i p.identifier true)
TurnsPacket P (packets.Pubrel a) = (k : Kept) (i : Received) → P k i → P k (remove_entry (is_at (nat_cmp a.identifier)) i)
TurnsPacket P (packets.Disconnect p) = (k : Kept) (i : Received) → P k i → P (record k { expiry = expiry_by (first_four 17 p.properties) k.expiry; will = will_after p.reason k.will }) i
TurnsPacket P p = Unit {0}

abbrev pub Turns : (Kept → Received → Type 0) → Event → Type 0
Turns P (connects c continued room now) = (k : Kept) (i : Received) → P k i → P (kept_by k c) (of_before i)
Turns P (queues d now) = Unit {0}
Turns P (rooms bytes now) = Unit {0}
Turns P (takes p now room) = TurnsPacket P p
Turns P (answers id codes) = Unit {0}
Turns P (closes now) = (k : Kept) (i : Received) → P k i → P (record k { phase = Closed now }) i
Turns P (ticks now) = (k : Kept) (i : Received) → P k i → P (record k { will = None }) i
Turns P (finishes now) = (k : Kept) (i : Received) → P k i → P (record k { will = None }) i
Turns P loses = (k : Kept) (i : Received) → P k i → P k (of_before i)

module _ (P : Kept → Received → Type 0) where
  abbrev At : State → Type 0
  At s = P s.kept s.incoming

  moved : (s new : State) → new ≡ s → At s → At new
  moved s new e h = subst (λ (x : State). P x.kept x.incoming) (sym e) h

  comes : (o : Outcome) (r : Reaction) (new : State) → Comes o r new → At o.left → At new
  comes o r new c h = moved o.left new c.1 h

  -- ---- answers
  answered-at : (limit : ℕ) (p : Packet) (ask : Option Ask) (s : State) → At s → At (answered limit p ask s).left
  answered-at limit p ask s h = elim (cases_Bool (fits limit p)) [ inl t ↦ rw t h | inr f ↦ rw f h ]

  -- ---- PUBLISH and PUBREL
  once-at : (a : In) (unwelcome : Bool) (limit id : ℕ) (m : Message) (s : State) → At s → At (once_by a unwelcome limit id m s).left
  once-at OverMaximum unwelcome limit id m s h = h
  once-at InUse unwelcome limit id m s h = answered-at limit _ None s h
  once-at Repeat unwelcome limit id m s h = answered-at limit _ None s h
  once-at New true limit id m s h = answered-at limit _ None s h
  once-at New false limit id m s h = answered-at limit _ _ s h

  twice-at : (a : In) (unwelcome : Bool) (limit id : ℕ) (m : Message) (s : State) → P s.kept (insert_entry nat_cmp s.incoming id true) → At s → At (arrives_twice a unwelcome limit id m s).left
  twice-at OverMaximum unwelcome limit id m s k h = h
  twice-at InUse unwelcome limit id m s k h = answered-at limit _ None s h
  twice-at Repeat unwelcome limit id m s k h = answered-at limit _ None s h
  twice-at New true limit id m s k h = answered-at limit _ None s h
  twice-at New false limit id m s k h = answered-at limit _ _ (record s { incoming = insert_entry nat_cmp s.incoming id true }) k

  passes-at : (q : Qos) (p : Publish) (unwelcome : Bool) (limit : ℕ) (m : Message) (s : State) → (q ≡ ExactlyOnce → P s.kept (insert_entry nat_cmp s.incoming p.identifier true)) → At s → At (passes_by q p unwelcome limit m s).left
  passes-at AtMostOnce p unwelcome limit m s k h = h
  passes-at AtLeastOnce p unwelcome limit m s k h = once-at (arrival_once s.incoming p.identifier) unwelcome limit p.identifier m s h
  passes-at ExactlyOnce p unwelcome limit m s k h = twice-at (arrival_twice s.incoming p.identifier) unwelcome limit p.identifier m s (k refl) h

  publish-at : (o : Option ℕ) (p : Publish) (now : ℕ) (room : Bool) (limit : ℕ) (s : State) → (p.qos ≡ ExactlyOnce → P s.kept (insert_entry nat_cmp s.incoming p.identifier true)) → At s → At (publish_by o p now room limit s).left
  publish-at (Some code) p now room limit s k h = h
  publish-at None p now room limit s k h = passes-at p.qos p (is_unwelcome p room) limit (message_in p now (setting p s)) (setting p s) k h

  released-at : (b : Bool) (id limit : ℕ) (answer : Packet) (s : State) → P s.kept (remove_entry (is_at (nat_cmp id)) s.incoming) → At s → At (answered limit answer None (record s { incoming = cond b (remove_entry (is_at (nat_cmp id)) s.incoming) s.incoming })).left
  released-at true id limit answer s k h = answered-at limit answer None (record s { incoming = remove_entry (is_at (nat_cmp id)) s.incoming }) k
  released-at false id limit answer s k h = answered-at limit answer None s h

  -- ---- SUBSCRIBE, UNSUBSCRIBE and their answers
  subscribed-at : (p : Subscribe) (limit : ℕ) (s : State) → At s → At (subscribed p limit s).left
  subscribed-at p limit s h = elim (cases_Bool (is_some (opened p.identifier s.incoming))) [ inl t ↦ rw t (answered-at limit _ None s h) | inr f ↦ rw f h ]

  unsubscribed-at : (p : Unsubscribe) (limit : ℕ) (s : State) → At s → At (unsubscribed p limit s).left
  unsubscribed-at p limit s h = elim (cases_Bool (is_some (opened p.identifier s.incoming))) [ inl t ↦ rw t (answered-at limit _ None s h) | inr f ↦ rw f h ]

  answer-at : (o : Option Asked) (limit id : ℕ) (codes : List ℕ) (s : State) → At s → At (answer_by o limit id codes s).left
  answer-at None limit id codes s h = h
  answer-at (Some a) limit id codes s h = answered-at limit (answer_of a id codes) None (waiting_for None s) h

  on-at : (l : Option Link) (id : ℕ) (codes : List ℕ) (s : State) → At s → At (answer_on l id codes s).left
  on-at None id codes s h = h
  on-at (Some l) id codes s h = answer-at l.asked l.limit id codes s h

  -- ---- DISCONNECT
  disconnected-at : (o : Option ℕ) (p : Ended) (limit : ℕ) (s : State) → P (record s.kept { expiry = expiry_by o s.kept.expiry; will = will_after p.reason s.kept.will }) s.incoming → At s → At (disconnected_by o p limit s).left
  disconnected-at None p limit s k h = k
  disconnected-at (Some n) p limit s k h = elim (cases_Bool ((s.kept.expiry == 0) && not (n == 0))) [ inl t ↦ rw t h | inr f ↦ rw f k ]

  -- ---- a packet
  unknown-at : (id reason limit : ℕ) (s : State) (r : Reaction) (new : State) → SaysUnknown id reason limit s r new → At s → At new
  unknown-at id reason limit s r new (inl u) h = comes _ r new u.1 (answered-at limit _ None s h)
  unknown-at id reason limit s r new (inr u) h = moved s new u.2 h

  received-at : (a : Rec) (id reason now limit : ℕ) (s : State) (mid : Outbox) (r : Reaction) (new : State) → PubrecBy a id reason now limit s mid r new → At s → At new
  received-at rec.Release id reason now limit s mid r new c h = comes _ r new c (answered-at limit _ None (record s { outbox = mid }) h)
  received-at rec.Ended id reason now limit s mid r new c h = moved _ new c.left h
  received-at rec.Unknown id reason now limit s mid r new c h = unknown-at id reason limit (record s { outbox = mid }) r new c h
  received-at rec.AtEnd id reason now limit s mid r new c h = absurd c

  subscribe-at : (p : Subscribe) (limit : ℕ) (s : State) (r : Reaction) (new : State) → SubscribeStep p limit s r new → At s → At new
  subscribe-at p limit s r new (inl c) h = comes _ r new c.1 h
  subscribe-at p limit s r new (inr c) h = comes _ r new c.1 (subscribed-at p limit s h)

  kind-at : (p : Packet) (now : ℕ) (room : Bool) (limit : ℕ) (s : State) (r : Reaction) (new : State) → TurnsPacket P p → KindStep p now room limit s r new → At s → At new
  kind-at (packets.Publish p) now room limit s r new t c h = comes _ r new c (publish-at (refusal (aliases_of s.link) p) p now room limit s (t s.kept s.incoming h) h)
  kind-at (packets.Puback a) now room limit s r new t c h = moved _ new c.left h
  kind-at (packets.Pubrec a) now room limit s r new t c h = received-at c.answer a.identifier a.reason now limit s c.mid r new c.goes_on h
  kind-at (packets.Pubrel a) now room limit s r new t c h = comes _ r new c (released-at (is_some (opened a.identifier s.incoming)) a.identifier limit _ s (t s.kept s.incoming h) h)
  kind-at (packets.Pubcomp a) now room limit s r new t c h = moved _ new c.left h
  kind-at (packets.Subscribe p) now room limit s r new t c h = subscribe-at p limit s r new c h
  kind-at (packets.Unsubscribe p) now room limit s r new t c h = comes _ r new c (unsubscribed-at p limit s h)
  kind-at packets.Pingreq now room limit s r new t c h = comes _ r new c (answered-at limit _ None s h)
  kind-at (packets.Disconnect p) now room limit s r new t c h = comes _ r new c (disconnected-at (first_four 17 p.properties) p limit s (t s.kept s.incoming h) h)
  kind-at (packets.Connect p) now room limit s r new t c h = comes _ r new c h
  kind-at (packets.Connack p) now room limit s r new t c h = comes _ r new c h
  kind-at (packets.Suback p) now room limit s r new t c h = comes _ r new c h
  kind-at (packets.Unsuback p) now room limit s r new t c h = comes _ r new c h
  kind-at packets.Pingresp now room limit s r new t c h = comes _ r new c h
  kind-at (packets.Auth p) now room limit s r new t c h = comes _ r new c h

  packet-at : (o : Option ℕ) (p : Packet) (now : ℕ) (room : Bool) (s : State) (r : Reaction) (new : State) → TurnsPacket P p → PacketIf o p now room s r new → At s → At new
  packet-at None p now room s r new t c h = moved s new c.1 h
  packet-at (Some limit) p now room s r new t c h = kind-at p now room limit (heard s now) r new t c h

  -- ---- the others
  opens-at : (b : Bool) (old : State) (c : Connect) (answer : Packet) (room : Option ℕ) (now : ℕ) (r : Reaction) (new : State) → OpensIf b old c answer room now r new → P (kept_by old.kept c) (of_before old.incoming) → At new
  opens-at true old c answer room now r new o h = moved _ new o.left h
  opens-at false old c answer room now r new o h = moved _ new o.1 h

  queue-at : (b : Bool) (old : State) (d : Delivery) (now : ℕ) (r : Reaction) (new : State) → QueueIf b old d now r new → At old → At new
  queue-at true old d now r new q h = moved old new q.1 h
  queue-at false old d now r new (inl q) h = moved _ new q.left h
  queue-at false old d now r new (inr q) h = moved old new q.left h

  timed-at : (l : Option Link) (s : State) → At s → At (timed_out l s).left
  timed-at None s h = h
  timed-at (Some l) s h = h

  tick-at : (out will end : Bool) (now : ℕ) (s : State) → P (record s.kept { will = None }) s.incoming → At s → At (ticked_if out will end now s).left
  tick-at true will end now s k h = timed-at s.link s h
  tick-at false true end now s k h = k
  tick-at false false end now s k h = h

  pub turned : (e : Event) (old : State) (r : Reaction) (new : State) → Turns P e → Reacts old e r new → P old.kept old.incoming → P new.kept new.incoming
  turned (connects c continued room now) old r new t h p = opens-at _ old c _ room now r new h.1 (t old.kept old.incoming p)
  turned (queues d now) old r new t h p = queue-at (is_once d.qos) old d now r new h p
  turned (rooms bytes now) old r new t h p = moved _ new h.left p
  turned (takes q now room) old r new t h p = packet-at (limit_of old.link) q now room old r new t h p
  turned (answers id codes) old r new t h p = comes _ r new h (on-at old.link id codes old p)
  turned (closes now) old r new t h p = moved _ new h.1 (t old.kept old.incoming p)
  turned (ticks now) old r new t h p = comes _ r new h (tick-at _ _ _ now old (t old.kept old.incoming p) p)
  turned (finishes now) old r new t h p = comes _ r new h (t old.kept old.incoming p)
  turned loses old r new t h p =
      let f : P old.kept (of_before old.incoming) = t old.kept old.incoming p in
      subst (λ (k : Kept). P k new.incoming) (sym h.kept) (subst (λ (i : Received). P old.kept i) (sym h.incoming) f)
