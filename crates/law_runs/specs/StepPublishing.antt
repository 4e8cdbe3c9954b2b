-- What follows in a step where a session accepts a PUBLISH: its message is passed on (MQTT 5.0, 3.3.1.3, 3.3.4, 4.3.2 and 4.3.3).
use Rattle.std.specs.Prelude.{◌≡◌, ◌⊎◌, ℕ, Bool, true, cond, is_some, List, [], ◌∷◌, ◌++◌, Some}
use Rattle.bridge_deltas.specs.declared.offer.Offer.{Offer}
use Rattle.bridge_deltas.specs.declared.offer.Offer.TheVariants.{Queued, Full, AtEnd}
use Rattle.bridge_frames.specs.declared.forward.Forward.{Forward}
use Rattle.mqtt_fields.specs.declared.options.Qos.{Qos}
use Rattle.mqtt_fields.specs.declared.options.Qos.TheVariants.{AtLeastOnce, ExactlyOnce}
use Rattle.mqtt_packets.specs.declared.packet.Packet.{Packet}
use Rattle.mqtt_packets.specs.declared.packet.Packet.TheVariants as packets
use Rattle.mqtt_packets.specs.declared.publish.Publish.{Publish}
use Rattle.mqtt_message.specs.declared.message.Message.{Message}
use Rattle.mqtt_message.specs.Expiry.{IsBefore}
use Rattle.causal_context.specs.Dots.{Dot}
use Rattle.replica_store.specs.declared.operation.Operation.TheVariants.{Put}
use Rattle.replica_store.specs.Stamps.{Stamp}
use Rattle.bridge_routes.specs.declared.plain.PlainCopy.{PlainCopy as Copy}
use Rattle.bridge_routes.specs.declared.destinations.Route.{Route}
use Rattle.bridge_routes.specs.declared.destinations.Route.TheVariants.{Nothing, Lane, TooLarge}
use Rattle.qos_handshakes.specs.Incoming.{opened}
use Rattle.mqtt_sessions.specs.declared.reaction.Ask.TheVariants.{Pass}
use Rattle.mqtt_sessions.specs.declared.reaction.Output.{Output}
use Rattle.mqtt_sessions.specs.declared.reaction.Output.TheVariants.{Answer}
use Rattle.mqtt_sessions.specs.Answers.{puback, pubrec}
use Rattle.mqtt_sessions.specs.Arriving.{message_in}
use Rattle.mqtt_sessions.specs.Reaction.{Reaction}
use Rattle.mqtt_sessions.specs.State.{State}
use Rattle.law_sessions.specs.Runs.{Event, queues, takes, Reacts}
use Rattle.node_bridge.specs.View.{BridgeView, offer_to}
use Rattle.node_work.specs.declared.counts.Missed.TheVariants.{LaneFull}
use Rattle.node_work.specs.Acts.{Act, Store, Session, Bridge, Made, Passed, Runs}
use Rattle.node_work.specs.Held.Bridge.{Put as PutInto, Left_out}
use Rattle.node_work.specs.Held.Sessions.{SessionStep, Called}
use Rattle.node_work.specs.Passing.{content_given}
use Rattle.node_work.specs.View.{Place, HeldView}
use Rattle.broker_node.specs.declared.event.Event.{Event as NodeEvent}
use Rattle.broker_node.specs.Turns.{Decides}
use Rattle.law_runs.specs.StepSending.{IsIn}

-- ---- what a session tells its client

-- a packet is among those of a reaction
abbrev pub AnswersWith : Packet → List Output → Type 0
AnswersWith p os = IsIn (Answer p) os

-- the event takes a PUBLISH of this QoS and identifier
pub record Publishes (qos : Qos) (id : ℕ) (e : Event) : Type 0 where
  pub publish : Publish
  pub now : ℕ
  pub room : Bool
  pub event : e ≡ takes (packets.Publish publish) now room
  pub qos_is : publish.qos ≡ qos
  pub identifier : publish.identifier ≡ id

-- the message of the PUBLISH that the event takes, from the client of the session; where its topic is empty, under the one that its
-- alias stands for
abbrev pub message_at : {qos : Qos} {id : ℕ} {e : Event} → State → Publishes qos id e → Message
message_at old p = message_in p.publish p.now old

-- PUBACK 0x00 answers a PUBLISH at QoS 1 whose message the node is asked to pass on
abbrev pub PubackTells : Type 0
PubackTells =
    (old new : State) (e : Event) (r : Reaction) (id : ℕ) → Reacts old e r new → AnswersWith (puback id 0) r.packets
    → (p : Publishes AtLeastOnce id e) × (r.ask ≡ Some (Pass (message_at old p)))

-- PUBREC 0x00 answers a PUBLISH at QoS 2, whose exchange was open, or whose message the node is asked to pass on
abbrev pub PubrecTells : Type 0
PubrecTells =
    (old new : State) (e : Event) (r : Reaction) (id : ℕ) → Reacts old e r new → AnswersWith (pubrec id 0) r.packets
    → (p : Publishes ExactlyOnce id e) × ((is_some (opened id old.incoming) ≡ true) ⊎ (r.ask ≡ Some (Pass (message_at old p))))

-- ---- what the node does

-- a call of a session takes a PUBLISH, and asks the node to pass a message on
pub record AcceptsPublish (s : SessionStep) (m : Message) : Type 0 where
  pub publish : Publish
  pub now : ℕ
  pub room : Bool
  pub event : s.event ≡ takes (packets.Publish publish) now room
  pub asks : s.reaction.ask ≡ Some (Pass m)

-- with RETAIN one Put gives the topic the message, or with an empty payload none; else nothing is put
abbrev pub IsPut : Message → List Act → Type 0
IsPut m acts = cond m.retain ((dot : Dot) × (stamp : Stamp) × (acts ≡ Store (Made (Put dot stamp (content_given m))) ∷ [])) (acts ≡ [])

-- calls of sessions, one for each copy in order: it joins its client's session at the moment
abbrev pub CopiesAreQueued : ℕ → List Copy → List Act → Type 0
CopiesAreQueued at [] calls = calls ≡ []
CopiesAreQueued at (x ∷ xs) calls =
    (s : SessionStep) × (rest : List Act) × (calls ≡ Session (Called s) ∷ rest) × (s.client ≡ x.client) × (s.at ≡ at) × (s.event ≡ queues x.delivery at) × CopiesAreQueued at xs rest

-- what goes to another node joins the lane to it; where too many wait there it is left out
abbrev pub IsPutInLane : ℕ → Forward → Offer → List Act → Type 0
IsPutInLane peer m (Queued n) acts = acts ≡ Bridge (PutInto peer m) ∷ []
IsPutInLane peer m Full acts = acts ≡ Bridge (Left_out LaneFull) ∷ []
IsPutInLane peer m AtEnd acts = ⊥

-- by what is kept for the other nodes; what is too large for a frame is left out
abbrev pub IsRouted : BridgeView → ℕ → Route → List Act → Type 0
IsRouted b peer Nothing acts = acts ≡ []
IsRouted b peer (Lane m) acts = IsPutInLane peer m (offer_to peer b) acts
IsRouted b peer TooLarge acts = acts ≡ Bridge (Left_out LaneFull) ∷ []

-- each in order
abbrev pub AreRouted : BridgeView → List (ℕ × Route) → List Act → Type 0
AreRouted b [] acts = acts ≡ []
AreRouted b (x ∷ xs) acts = (own : List Act) × (rest : List Act) × (acts ≡ own ++ rest) × IsRouted b x.0 x.1 own × AreRouted b xs rest

-- acts that begin with the copies of a message, and with what goes to other nodes of it
pub record BeginsWithCopies (m : Message) (at : ℕ) (b : BridgeView) (acts : List Act) : Type 0 where
  pub copies : List Copy
  pub lost : ℕ
  pub routes : List (ℕ × Route)
  pub calls : List Act
  pub to_others : List Act
  pub rest : List Act
  pub is : acts ≡ Passed m copies lost routes ∷ (calls ++ (to_others ++ rest))
  pub queued : CopiesAreQueued at copies calls
  pub routed : AreRouted b routes to_others

-- acts that begin with passing a message on: its Put, and unless its deadline has passed its copies, and what goes to other nodes
pub record BeginsWithPassingOn (m : Message) (at : ℕ) (b : BridgeView) (acts : List Act) : Type 0 where
  pub puts : List Act
  pub rest : List Act
  pub is : acts ≡ puts ++ rest
  pub put : IsPut m puts
  pub copied : IsBefore at m.deadline → BeginsWithCopies m at b rest

-- a message that is accepted is passed on directly after that, in the same step, by what the node keeps for the others then
abbrev pub AcceptedIsPassedOn : Type 0
AcceptedIsPassedOn =
    (e : NodeEvent) (p : Place) (h mid : HeldView) (acts : List Act) → Decides e (Some tt) p h acts
    → (before after : List Act) (s : SessionStep) (m : Message) → acts ≡ before ++ Session (Called s) ∷ after → Runs p h before mid → AcceptsPublish s m
    → BeginsWithPassingOn m s.at mid.bridge after
