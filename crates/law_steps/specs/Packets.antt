-- What a packet of an accepted client comes to, and nothing else.
use Rattle.std.specs.Prelude.{◌≡◌, ℕ, Bool, cond, is_some, true, false, List, [], ◌∷◌, ◌++◌, Option, Some, None}
use Rattle.mqtt_packets.specs.declared.fault.PacketFault.{PacketFault}
use Rattle.mqtt_packets.specs.declared.packet.Packet.{Packet}
use Rattle.mqtt_packets.specs.declared.packet.Packet.TheVariants as packets
use Rattle.mqtt_packets.specs.Written.{written}
use Rattle.mqtt_sessions.specs.declared.reaction.Ask.{Ask}
use Rattle.mqtt_sessions.specs.declared.reaction.Ask.TheVariants as asks
use Rattle.mqtt_sessions.specs.Answers.{disconnect}
use Rattle.mqtt_sessions.specs.Reaction.{Reaction}
use Rattle.law_sessions.specs.Runs.{takes}
use Rattle.node_work.specs.declared.outcome.Output.TheVariants.{Send}
use Rattle.node_work.specs.Acts.{Act, Out, Dropped, Runs}
use Rattle.node_work.specs.Held.Sessions.{takes_disconnect}
use Rattle.node_work.specs.View.{Place, HeldView}
use Rattle.node_clients.specs.Pieces.{disconnect_code}
use Rattle.node_clients.specs.Serving.{is_dropped, room_for}
use Rattle.law_steps.specs.Ending.{ClosesOn}
use Rattle.law_steps.specs.Passing.{PassesOn}
use Rattle.law_steps.specs.Requests.{IsCalledOnce, SubscribesAlone, UnsubscribesAlone}

-- a SUBSCRIBE and an UNSUBSCRIBE; a session asks for that at no other packet
abbrev pub SubscribeIsDone : Place → HeldView → ℕ → List ℕ → Packet → List Act → Type 0
SubscribeIsDone p h c client (packets.Subscribe q) acts = SubscribesAlone p h c client q acts
SubscribeIsDone p h c client k acts = acts ≡ []

abbrev pub UnsubscribeIsDone : Place → HeldView → ℕ → List ℕ → Packet → List Act → Type 0
UnsubscribeIsDone p h c client (packets.Unsubscribe u) acts = UnsubscribesAlone p h c client u acts
UnsubscribeIsDone p h c client k acts = acts ≡ []

-- what the session asks for: a message is passed on, or one of these; where it asks for nothing, a retained message at QoS 0 is dropped for want of
-- room
abbrev pub IsDone : Place → HeldView → ℕ → List ℕ → Option Ask → Packet → Bool → Option ℕ → List Act → Type 0
IsDone p h c client None k room end acts = cond (is_dropped k room end) (acts ≡ Dropped ∷ []) (acts ≡ [])
IsDone p h c client (Some (asks.Pass m)) k room end acts = PassesOn m h.at h.bridge acts
IsDone p h c client (Some asks.Subscribe) k room end acts = SubscribeIsDone p h c client k acts
IsDone p h c client (Some asks.Unsubscribe) k room end acts = UnsubscribeIsDone p h c client k acts

-- the session takes the packet, and is told whether there is room for a retained message; what it asks for is done; and the connection is closed
-- where it says so
pub record TakesAlone (p : Place) (h : HeldView) (c : ℕ) (client : List ℕ) (k : Packet) (acts : List Act) : Type 0 where
  pub told : List Act
  pub asked : List Act
  pub closed : List Act
  pub is : acts ≡ told ++ (asked ++ closed)
  pub reaction : Reaction
  pub tells : IsCalledOnce h client (takes k h.at (room_for client k h)) reaction told
  pub left : HeldView
  pub leaves : Runs p h told left
  pub does : IsDone p left c client reaction.ask k (room_for client k h) reaction.end asked
  pub held : HeldView
  pub runs : Runs p left asked held
  pub closes : cond (is_some reaction.end) (ClosesOn p held c client closed) (closed ≡ [])

-- a fault is told by DISCONNECT with its code, unless that is longer than the client takes, and the connection is closed
pub record BreaksAlone (p : Place) (h : HeldView) (c : ℕ) (client : List ℕ) (fault : PacketFault) (acts : List Act) : Type 0 where
  pub code : ℕ
  pub has_code : disconnect_code fault ≡ Some code
  pub rest : List Act
  pub is : acts ≡ cond (takes_disconnect client code h) (Out (Send c (written (disconnect code))) ∷ []) [] ++ rest
  pub closes : ClosesOn p h c client rest
