-- Which packets go out in a step: those of the reactions of its calls, and the node's own (MQTT 5.0, 3.2 and 3.14).
use Rattle.std.specs.Prelude.{◌≡◌, ◌⊎◌, ℕ, Bool, true, false, List, [], ◌∷◌, ◌++◌, Some}
use Rattle.mqtt_packets.specs.declared.packet.Packet.{Packet}
use Rattle.mqtt_packets.specs.declared.packet.Packet.TheVariants as packets
use Rattle.mqtt_packets.specs.Written.{written}
use Rattle.mqtt_sessions.specs.declared.reaction.Output.{Output as Reply}
use Rattle.mqtt_sessions.specs.Reaction.{packet_of}
use Rattle.node_work.specs.declared.outcome.Output.TheVariants.{Send}
use Rattle.node_work.specs.Acts.{Act, Session, gather, output_in}
use Rattle.node_work.specs.Held.Sessions.{SessionStep, Called}
use Rattle.node_work.specs.View.{Place, HeldView}
use Rattle.broker_node.specs.declared.event.Event.{Event as NodeEvent}
use Rattle.broker_node.specs.Turns.{Decides}

-- CONNACK to a client that is refused, and DISCONNECT
abbrev pub is_sent_by_node : Packet → Bool
is_sent_by_node (packets.Connack c) = true
is_sent_by_node (packets.Disconnect d) = true
is_sent_by_node p = false

-- something is among others
abbrev pub IsIn : {A : Type 0} → A → List A → Type 0
IsIn x [] = ⊥
IsIn x (y ∷ ys) = (y ≡ x) ⊎ IsIn x ys

-- a call of a session gives the packet out on the connection that its client is on
pub record SentBy (s : SessionStep) (connection : ℕ) (bytes : List ℕ) : Type 0 where
  pub on : s.on ≡ Some connection
  pub reply : Reply
  pub given : IsIn reply s.reaction.packets
  pub spelled : bytes ≡ written (packet_of s.at reply)

-- the bytes of an own packet
pub record IsOwnPacket (bytes : List ℕ) : Type 0 where
  pub packet : Packet
  pub own : is_sent_by_node packet ≡ true
  pub spelled : bytes ≡ written packet

-- a call among acts does
pub record SentAmong (acts : List Act) (connection : ℕ) (bytes : List ℕ) : Type 0 where
  pub before : List Act
  pub step : SessionStep
  pub after : List Act
  pub acts_are : acts ≡ before ++ Session (Called step) ∷ after
  pub sent : SentBy step connection bytes

-- each packet that goes out is one of these
abbrev pub SendsAreOfCalls : Type 0
SendsAreOfCalls =
    (e : NodeEvent) (p : Place) (h : HeldView) (acts : List Act) → Decides e (Some tt) p h acts
    → (connection : ℕ) (bytes : List ℕ) → IsIn (Send connection bytes) (gather output_in acts) → SentAmong acts connection bytes ⊎ IsOwnPacket bytes
