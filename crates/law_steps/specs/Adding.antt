-- What joins queues and lanes, and what it is of (MQTT 5.0, 3.3.4, 3.8.4 and 4.8.2).
use Rattle.std.specs.Prelude.{◌≡◌, ◌⊎◌, ℕ, List, [], ◌∷◌, ◌++◌, map as map_list, Some}
use Rattle.bridge_frames.specs.declared.forward.Forward.{Forward}
use Rattle.bridge_routes.specs.declared.plain.PlainCopy.{PlainCopy as Copy}
use Rattle.bridge_routes.specs.declared.destinations.Route.{Route}
use Rattle.bridge_routes.specs.declared.destinations.Route.TheVariants.{Lane}
use Rattle.mqtt_message.specs.declared.delivery.Delivery.{Delivery}
use Rattle.mqtt_message.specs.declared.message.Message.{Message}
use Rattle.mqtt_sessions.specs.declared.reaction.Ask.TheVariants.{Pass}
use Rattle.law_sessions.specs.Runs.{Event, answers, queues}
use Rattle.node_work.specs.declared.counts.Missed.TheVariants.{LaneFull}
use Rattle.node_work.specs.declared.granted.Granted.{Granted}
use Rattle.node_work.specs.Acts.{Act, Session, Bridge, Acknowledged, Passed}
use Rattle.node_work.specs.Held.Bridge.{BridgeAct, Put, Took, Left_out}
use Rattle.node_work.specs.Held.Sessions.{SessionAct, SessionStep, Called}
use Rattle.node_work.specs.View.{Place, HeldView}
use Rattle.node_clients.specs.Subscribing.{granted_reasons}
use Rattle.broker_node.specs.declared.event.Event.{Event as NodeEvent}
use Rattle.broker_node.specs.Turns.{Decides}
use Rattle.law_runs.specs.StepPublishing.{IsPut}

-- ---- what joins sessions' queues
-- the copies of a message that is passed on, or that is taken of a lane; the offers of a SUBSCRIBE that is answered; of another act none
abbrev pub offer_to : List ℕ → Delivery → Copy
offer_to client offer = record { client = client; delivery = offer }

abbrev pub copies_taken : BridgeAct → List Copy
copies_taken (Took from number m copies lost) = copies
copies_taken a = []

abbrev pub copies_of : Act → List Copy
copies_of (Passed m copies lost routes) = copies
copies_of (Bridge a) = copies_taken a
copies_of (Acknowledged client packet at grants offers) = map_list (offer_to client) offers
copies_of a = []

-- a call by which a copy joins its client's session
abbrev pub JoinsWith : Copy → SessionStep → Type 0
JoinsWith x s = (s.client ≡ x.client) × (s.event ≡ queues x.delivery s.at)

-- one such call for each copy in order, but for clients without a session
abbrev pub AreJoined : List Copy → List Act → Type 0
AreJoined [] acts = acts ≡ []
AreJoined (x ∷ xs) acts = ((s : SessionStep) × (rest : List Act) × (acts ≡ Session (Called s) ∷ rest) × JoinsWith x s × AreJoined xs rest) ⊎ AreJoined xs acts

-- what joins a queue by a call is one of the copies of an act, between which and the call stand only the calls for the copies before it
pub record IsCopyOf (before : List Act) (s : SessionStep) : Type 0 where
  pub earlier : List Act
  pub cause : Act
  pub joined : List Act
  pub is : before ≡ earlier ++ cause ∷ joined
  pub those_before : List Copy
  pub copy : Copy
  pub those_after : List Copy
  pub among : copies_of cause ≡ those_before ++ copy ∷ those_after
  pub join : AreJoined those_before joined
  pub own : JoinsWith copy s

-- ---- what joins the lanes to other nodes
-- what goes to a node by a route: the message joins the lane, or is left out; or nothing does
abbrev pub IsSent : ℕ × Route → Act → Type 0
IsSent x a = ((m : Forward) × (x.1 ≡ Lane m) × (a ≡ Bridge (Put x.0 m))) ⊎ (a ≡ Bridge (Left_out LaneFull))

abbrev pub AreSent : List (ℕ × Route) → List Act → Type 0
AreSent [] acts = acts ≡ []
AreSent (x ∷ xs) acts = ((a : Act) × (rest : List Act) × (acts ≡ a ∷ rest) × IsSent x a × AreSent xs rest) ⊎ AreSent xs acts

-- what joins a lane is a route of a message that is passed on, between which act and this stand only the calls for its copies, and what goes to the
-- nodes before
pub record IsRouteOf (before : List Act) (peer : ℕ) (m : Forward) : Type 0 where
  pub earlier : List Act
  pub message : Message
  pub copies : List Copy
  pub lost : ℕ
  pub routes : List (ℕ × Route)
  pub joined : List Act
  pub sent : List Act
  pub is : before ≡ earlier ++ Passed message copies lost routes ∷ (joined ++ sent)
  pub those_before : List (ℕ × Route)
  pub those_after : List (ℕ × Route)
  pub among : routes ≡ those_before ++ (peer, Lane m) ∷ those_after
  pub join : AreJoined copies joined
  pub go : AreSent those_before sent

-- ---- what is passed on, and what is offered
-- a message is passed on directly after a call that asks for that, but for its Put
pub record IsAskedFor (before : List Act) (m : Message) : Type 0 where
  pub earlier : List Act
  pub call : SessionStep
  pub puts : List Act
  pub is : before ≡ earlier ++ Session (Called call) ∷ puts
  pub asks : call.reaction.ask ≡ Some (Pass m)
  pub put : IsPut m puts

-- retained messages are offered directly after the call that gives the codes of a SUBSCRIBE to that client's session
pub record IsAnswered (before : List Act) (client : List ℕ) (packet : ℕ) (grants : List Granted) : Type 0 where
  pub earlier : List Act
  pub call : SessionStep
  pub is : before ≡ earlier ++ Session (Called call) ∷ []
  pub of : call.client ≡ client
  pub event : call.event ≡ answers packet (granted_reasons grants)

-- ---- each act, by those before it in its step
abbrev pub CallHasCause : List Act → SessionStep → Event → Type 0
CallHasCause before s (queues d now) = IsCopyOf before s
CallHasCause before s e = Unit {0}

abbrev pub SessionHasCause : List Act → SessionAct → Type 0
SessionHasCause before (Called s) = CallHasCause before s s.event
SessionHasCause before a = Unit {0}

abbrev pub BridgeHasCause : List Act → BridgeAct → Type 0
BridgeHasCause before (Put peer m) = IsRouteOf before peer m
BridgeHasCause before a = Unit {0}

abbrev pub HasCause : List Act → Act → Type 0
HasCause before (Session a) = SessionHasCause before a
HasCause before (Bridge a) = BridgeHasCause before a
HasCause before (Passed m copies lost routes) = IsAskedFor before m
HasCause before (Acknowledged client packet at grants offers) = IsAnswered before client packet grants
HasCause before a = Unit {0}

-- in every step
abbrev pub NothingIsAdded : Type 0
NothingIsAdded =
    (e : NodeEvent) (p : Place) (h : HeldView) (acts : List Act) → Decides e (Some tt) p h acts
    → (before after : List Act) (a : Act) → acts ≡ before ++ a ∷ after → HasCause before a
