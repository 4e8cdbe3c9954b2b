-- What each packet of a client comes to.
use Rattle.std.specs.Prelude.{◌≡◌, ◌≢◌, ℕ, ◌<◌, ◌≤◌, Bool, true, List, [], ◌⊎◌, Option, Some, None, IsSome}
use Rattle.mqtt_packets.specs.declared.packet.Packet.{Packet}
use Rattle.mqtt_packets.specs.declared.packet.Packet.TheVariants as packets
use Rattle.mqtt_packets.specs.declared.publish.Publish.{Publish}
use Rattle.qos_handshakes.specs.declared.answers.Ack.{Ack as Ended}
use Rattle.qos_handshakes.specs.declared.answers.Ack.TheVariants.{Done, Unknown}
use Rattle.qos_handshakes.specs.declared.answers.Rec.{Rec}
use Rattle.qos_handshakes.specs.declared.answers.Rec.TheVariants as rec
use Rattle.qos_handshakes.specs.Outbox.{Outbox, Sent, AcknowledgeStep, CompleteStep, ReceivedStep}
use Rattle.mqtt_sessions.specs.Aliases.{alias_of}
use Rattle.mqtt_sessions.specs.Answers.{fits, pubrel}
use Rattle.mqtt_sessions.specs.Arriving.{publish_outcome, pubrel_outcome}
use Rattle.mqtt_sessions.specs.Asking.{AsksNoLocalShare, SubscribeStep, subscribed, unsubscribed}
use Rattle.mqtt_sessions.specs.Ending.{disconnected}
use Rattle.mqtt_sessions.specs.Reaction.{Reaction, Outcome, Comes, nothing, says, publishes_of, answered, refused, gives_out}
use Rattle.mqtt_sessions.specs.Sending.{Flushes, MayFlush}
use Rattle.mqtt_sessions.specs.State.{State, limit_of, heard, sent_from, with_outbox}

-- ---- PUBACK and PUBCOMP (MQTT 5.0, 3.4 and 3.7): an exchange that ends frees quota, and nothing is answered
abbrev pub GoesOnAfter : Ended → ℕ → ℕ → Option ℕ → Outbox → List Sent → Outbox → Type 0
GoesOnAfter Done now limit room old sents new = Flushes now limit room old sents new
GoesOnAfter Unknown now limit room old sents new = (sents ≡ []) × (new ≡ old)

pub record PubackStep (id now limit : ℕ) (s : State) (r : Reaction) (new : State) : Type 0 where
  pub answer : Ended
  pub mid : Outbox
  pub after : Outbox
  pub sents : List Sent
  pub takes : AcknowledgeStep s.outbox id answer mid
  pub goes_on : GoesOnAfter answer now limit s.room mid sents after
  pub reacts : r ≡ says (publishes_of sents)
  pub left : new ≡ sent_from s after now sents

pub record PubcompStep (id now limit : ℕ) (s : State) (r : Reaction) (new : State) : Type 0 where
  pub answer : Ended
  pub mid : Outbox
  pub after : Outbox
  pub sents : List Sent
  pub takes : CompleteStep s.outbox id answer mid
  pub goes_on : GoesOnAfter answer now limit s.room mid sents after
  pub reacts : r ≡ says (publishes_of sents)
  pub left : new ≡ sent_from s after now sents

-- ---- PUBREC (3.5): PUBREL, or the exchange ends
pub record EndsExchange (now limit : ℕ) (s : State) (mid : Outbox) (r : Reaction) (new : State) : Type 0 where
  pub after : Outbox
  pub sents : List Sent
  pub flushes : Flushes now limit s.room mid sents after
  pub reacts : r ≡ says (publishes_of sents)
  pub left : new ≡ sent_from s after now sents

-- no exchange is known: PUBREL with Packet Identifier not found, or from 0x80 on nothing
abbrev pub SaysUnknown : ℕ → ℕ → ℕ → State → Reaction → State → Type 0
SaysUnknown id reason limit s r new =
    ((reason < 128) × Comes (answered limit (pubrel id 146) None s) r new) ⊎ ((128 ≤ reason) × (r ≡ nothing) × (new ≡ s))

abbrev pub PubrecBy : Rec → ℕ → ℕ → ℕ → ℕ → State → Outbox → Reaction → State → Type 0
PubrecBy rec.Release id reason now limit s mid r new = Comes (answered limit (pubrel id 0) None (with_outbox s mid)) r new
PubrecBy rec.Ended id reason now limit s mid r new = EndsExchange now limit s mid r new
PubrecBy rec.Unknown id reason now limit s mid r new = SaysUnknown id reason limit (with_outbox s mid) r new
PubrecBy rec.AtEnd id reason now limit s mid r new = ⊥

pub record PubrecStep (id reason now limit : ℕ) (s : State) (r : Reaction) (new : State) : Type 0 where
  pub answer : Rec
  pub mid : Outbox
  pub takes : ReceivedStep s.outbox id reason answer mid
  pub goes_on : PubrecBy answer id reason now limit s mid r new

-- ---- a packet of a connected client; `room` is whether a retained message would be taken
abbrev pub KindStep : Packet → ℕ → Bool → ℕ → State → Reaction → State → Type 0
KindStep (packets.Publish p) now room limit s r new = Comes (publish_outcome p now room limit s) r new
KindStep (packets.Puback a) now room limit s r new = PubackStep a.identifier now limit s r new
KindStep (packets.Pubrec a) now room limit s r new = PubrecStep a.identifier a.reason now limit s r new
KindStep (packets.Pubrel a) now room limit s r new = Comes (pubrel_outcome a.identifier limit s) r new
KindStep (packets.Pubcomp a) now room limit s r new = PubcompStep a.identifier now limit s r new
KindStep (packets.Subscribe p) now room limit s r new = SubscribeStep p limit s r new
KindStep (packets.Unsubscribe p) now room limit s r new = Comes (unsubscribed p limit s) r new
KindStep packets.Pingreq now room limit s r new = Comes (answered limit packets.Pingresp None s) r new
KindStep (packets.Disconnect p) now room limit s r new = Comes (disconnected p limit s) r new
KindStep (packets.Connect p) now room limit s r new = Comes (refused limit 130 s) r new
KindStep (packets.Connack p) now room limit s r new = Comes (refused limit 130 s) r new
KindStep (packets.Suback p) now room limit s r new = Comes (refused limit 130 s) r new
KindStep (packets.Unsuback p) now room limit s r new = Comes (refused limit 130 s) r new
KindStep packets.Pingresp now room limit s r new = Comes (refused limit 130 s) r new
KindStep (packets.Auth p) now room limit s r new = Comes (refused limit 130 s) r new

-- without a connection nothing is answered
abbrev pub PacketIf : Option ℕ → Packet → ℕ → Bool → State → Reaction → State → Type 0
PacketIf None p now room s r new = (r ≡ nothing) × (new ≡ s)
PacketIf (Some limit) p now room s r new = KindStep p now room limit (heard s now) r new

abbrev pub PacketStep : Packet → ℕ → Bool → State → Reaction → State → Type 0
PacketStep p now room s r new = PacketIf (limit_of s.link) p now room s r new

-- a PUBREC needs an order of release, and none is left below 2^62
abbrev pub KindEnds : Packet → State → Type 0
KindEnds (packets.Pubrec a) s = ReceivedStep s.outbox a.identifier a.reason rec.AtEnd s.outbox
KindEnds p s = ⊥

abbrev pub PacketEndsIf : Option ℕ → Packet → State → Type 0
PacketEndsIf None p s = ⊥
PacketEndsIf (Some limit) p s = KindEnds p s

abbrev pub PacketEnds : Packet → State → Type 0
PacketEnds p s = PacketEndsIf (limit_of s.link) p s

-- ---- where a packet wants memory
-- a PUBLISH: for its answer, for a message that is passed on, and for an alias that is set
abbrev pub SetsAlias : Publish → State → Type 0
SetsAlias p s = (p.topic ≢ []) × IsSome (alias_of p) × IsSome s.link

abbrev pub WantsFor : Publish → Outcome → Type 0
WantsFor p o = (gives_out o.reaction ≡ true) ⊎ SetsAlias p o.left

-- a PUBACK or a PUBCOMP: where an exchange ends, and the queue may go on
abbrev pub AcknowledgeWants : ℕ → State → Type 0
AcknowledgeWants id s = (mid : Outbox) × AcknowledgeStep s.outbox id Done mid × MayFlush s.room mid

abbrev pub CompleteWants : ℕ → State → Type 0
CompleteWants id s = (mid : Outbox) × CompleteStep s.outbox id Done mid × MayFlush s.room mid

-- a PUBREC: for the PUBREL that is sent, or where an exchange ends, and the queue may go on
abbrev pub PubrecWantsBy : Rec → ℕ → ℕ → ℕ → Option ℕ → Outbox → Type 0
PubrecWantsBy rec.Release id reason limit room mid = fits limit (pubrel id 0) ≡ true
PubrecWantsBy rec.Ended id reason limit room mid = MayFlush room mid
PubrecWantsBy rec.Unknown id reason limit room mid = (reason < 128) × (fits limit (pubrel id 146) ≡ true)
PubrecWantsBy rec.AtEnd id reason limit room mid = ⊥

pub record PubrecWants (id reason limit : ℕ) (s : State) : Type 0 where
  pub answer : Rec
  pub mid : Outbox
  pub takes : ReceivedStep s.outbox id reason answer mid
  pub wants : PubrecWantsBy answer id reason limit s.room mid

-- a packet that breaks a rule wants none, nor does a DISCONNECT; the others want it for the packet that is sent
abbrev pub KindWants : Packet → ℕ → Bool → ℕ → State → Type 0
KindWants (packets.Publish p) now room limit s = WantsFor p (publish_outcome p now room limit s)
KindWants (packets.Puback a) now room limit s = AcknowledgeWants a.identifier s
KindWants (packets.Pubrec a) now room limit s = PubrecWants a.identifier a.reason limit s
KindWants (packets.Pubrel a) now room limit s = gives_out (pubrel_outcome a.identifier limit s).reaction ≡ true
KindWants (packets.Pubcomp a) now room limit s = CompleteWants a.identifier s
KindWants (packets.Subscribe p) now room limit s = (AsksNoLocalShare p.filters → ⊥) × (gives_out (subscribed p limit s).reaction ≡ true)
KindWants (packets.Unsubscribe p) now room limit s = gives_out (unsubscribed p limit s).reaction ≡ true
KindWants packets.Pingreq now room limit s = gives_out (answered limit packets.Pingresp None s).reaction ≡ true
KindWants (packets.Disconnect p) now room limit s = ⊥
KindWants (packets.Connect p) now room limit s = ⊥
KindWants (packets.Connack p) now room limit s = ⊥
KindWants (packets.Suback p) now room limit s = ⊥
KindWants (packets.Unsuback p) now room limit s = ⊥
KindWants packets.Pingresp now room limit s = ⊥
KindWants (packets.Auth p) now room limit s = ⊥

-- without a connection none is wanted
abbrev pub WantsIf : Option ℕ → Packet → ℕ → Bool → State → Type 0
WantsIf None p now room s = ⊥
WantsIf (Some limit) p now room s = KindWants p now room limit (heard s now)

abbrev pub WantsMemory : Packet → ℕ → Bool → State → Type 0
WantsMemory p now room s = WantsIf (limit_of s.link) p now room s
