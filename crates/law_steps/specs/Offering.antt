-- For whom retained messages are offered: a session whose client asked for them (MQTT 5.0, 3.3.1.3, 3.8.3.1, 3.8.4 and 3.9).
use Rattle.std.specs.Prelude.{◌≡◌, ℕ, Bool, List, [], ◌∷◌, ◌++◌, Some, None}
use Rattle.std.specs.List.{AllByRecursion}
use Rattle.mqtt_message.specs.declared.delivery.Delivery.{Delivery}
use Rattle.mqtt_packets.specs.declared.packet.Packet.TheVariants as packets
use Rattle.mqtt_packets.specs.declared.subscribe.Subscribe.{Subscribe}
use Rattle.mqtt_sessions.specs.declared.reaction.Ask.TheVariants as asks
use Rattle.replica_store.specs.declared.operation.Operation.TheVariants as operations
use Rattle.law_sessions.specs.Runs.{answers, takes}
use Rattle.node_work.specs.declared.granted.Granted.{Granted}
use Rattle.node_work.specs.Acts.{Act, Store, Made, Session, Acknowledged}
use Rattle.node_work.specs.Held.Sessions.{SessionStep, Called}
use Rattle.node_work.specs.View.{Place, HeldView}
use Rattle.node_clients.specs.Subscribing.{granted_reasons}
use Rattle.broker_node.specs.declared.event.Event.{Event}
use Rattle.broker_node.specs.Turns.{Decides}
use Rattle.cluster_play.specs.Worlds.{World}
use Rattle.cluster_play.specs.Runs.{Played}
use Rattle.cluster_play.specs.Histories.{Reached, acts_of, event_committed}

-- an act that makes a Subscribe of the client, and no other
abbrev pub IsSubscribeOf : List ℕ → Act → Type 0
IsSubscribeOf client (Store (Made (operations.Subscribe dot entry cover))) = entry.client ≡ client
IsSubscribeOf client a = ⊥

-- these acts end with a SUBSCRIBE of the client: a call of its session takes that, under this Packet Identifier, and asks the node for it, as none
-- does that is answered with 0x91; then stand its Subscribes alone, and a call of the session that gives it the codes of these grants, and at which
-- its connection doesn't end
pub record EndsWithSubscribe (before : List Act) (client : List ℕ) (packet : ℕ) (grants : List Granted) : Type 0 where
  pub earlier : List Act
  pub asking : SessionStep
  pub made : List Act
  pub answering : SessionStep
  pub is : before ≡ earlier ++ Session (Called asking) ∷ (made ++ Session (Called answering) ∷ [])
  pub of : asking.client ≡ client
  pub subscribe : Subscribe
  pub now : ℕ
  pub room : Bool
  pub event : asking.event ≡ takes (packets.Subscribe subscribe) now room
  pub asked : asking.reaction.ask ≡ Some asks.Subscribe
  pub identifier : subscribe.identifier ≡ packet
  pub alone : AllByRecursion (IsSubscribeOf client) made
  pub same : answering.client ≡ client
  pub answered : answering.event ≡ answers packet (granted_reasons grants)
  pub goes_on : answering.reaction.end ≡ None

-- in every step retained messages are offered directly after such acts, so to nobody else, and once for each SUBSCRIBE
abbrev pub OffersAreAskedFor : Type 0
OffersAreAskedFor =
    (e : Event) (p : Place) (h : HeldView) (acts : List Act) → Decides e (Some tt) p h acts
    → (before after : List Act) (client : List ℕ) (packet at : ℕ) (grants : List Granted) (offers : List Delivery) → acts ≡ before ++ Acknowledged client packet at grants offers ∷ after → EndsWithSubscribe before client packet grants

-- and so in every step of a run
abbrev pub OffersOfRunsAreAskedFor : Type 0
OffersOfRunsAreAskedFor =
    (run later : List Played) (m : Played) (w : World) → Reached (run ++ m ∷ later) w → (e : Event) → event_committed m.fate ≡ Some e
    → (before after : List Act) (client : List ℕ) (packet at : ℕ) (grants : List Granted) (offers : List Delivery) → acts_of m.fate ≡ before ++ Acknowledged client packet at grants offers ∷ after → EndsWithSubscribe before client packet grants
