-- What comes of bytes on a connection that has no client yet (MQTT 5.0, 3.1 and 4.13).
use Rattle.std.specs.Prelude.{◌≡◌, ◌⊎◌, ℕ, true, false, cond, List, [], ◌∷◌, ◌++◌, Option, Some, None}
use Rattle.std.specs.FinMap as map
use Rattle.mqtt_packets.specs.declared.fault.PacketFault.{PacketFault}
use Rattle.mqtt_packets.specs.declared.packet.Packet.{Packet}
use Rattle.mqtt_packets.specs.declared.packet.Packet.TheVariants as packets
use Rattle.mqtt_packets.specs.Written.{written}
use Rattle.node_work.specs.declared.outcome.Output.TheVariants.{Send, Close}
use Rattle.node_work.specs.Acts.{Act, Connection, Session, Out, Runs}
use Rattle.node_work.specs.Held.Connections.{Closed, Fed, client_at, first_at, is_open}
use Rattle.node_work.specs.Held.Feeding.{cut_of}
use Rattle.node_work.specs.Packets.{refused_packet}
use Rattle.node_work.specs.View.{Place, HeldView, ConnectionView}
use Rattle.node_clients.specs.Pieces.{connack_code, is_connect}
use Rattle.broker_node.specs.declared.event.Event.{Event as NodeEvent}
use Rattle.broker_node.specs.declared.event.EventKind.TheVariants as kinds
use Rattle.broker_node.specs.Turns.{Decides}
use Rattle.law_steps.specs.Due.{DueFirst}
use Rattle.law_steps.specs.Taking.{AreTaken, IsServed, TakeNothing}

-- what is at fault gets CONNACK with the code of the fault where it begins as a CONNECT, and else nothing; directly after that the connection is
-- closed, and a close goes out
pub record IsShut (h : HeldView) (c : ℕ) (fault : PacketFault) (acts : List Act) : Type 0 where
  pub told : List Act
  pub tells : cond (is_connect (first_at c h)) ((code : ℕ) × (connack_code fault ≡ Some code) × (told ≡ Out (Send c (written (refused_packet code None))) ∷ [])) (told ≡ [])
  pub is : acts ≡ told ++ Connection (Closed c) ∷ Out (Close c) ∷ []

abbrev pub EndsBare : HeldView → ℕ → Option PacketFault → List Act → Type 0
EndsBare h c None acts = acts ≡ []
EndsBare h c (Some fault) acts = IsShut h c fault acts

-- a first packet that is no CONNECT closes the connection; how a CONNECT is answered says FirstConnectIsAnswered of law_runs
abbrev pub IsFirst : ℕ → Packet → List Act → Type 0
IsFirst c (packets.Connect q) acts = TakeNothing acts
IsFirst c k acts = acts ≡ Connection (Closed c) ∷ Out (Close c) ∷ []

-- the first packet; then nothing more is done where the connection is closed, and else it has its client, whose session takes the others
abbrev pub AreTakenBare : Place → HeldView → ℕ → List Packet → Option PacketFault → List Act → Type 0
AreTakenBare p h c [] fault acts = EndsBare h c fault acts
AreTakenBare p h c (k ∷ ks) fault acts =
    (own : List Act) × (mid : HeldView) × (rest : List Act) × (acts ≡ own ++ rest) × Runs p h own mid × IsFirst c k own
    × cond (is_open c mid) ((client : List ℕ) × IsServed mid c client × AreTaken p mid c client ks fault rest) (rest ≡ [])

pub record TakesBareBytes (p : Place) (h : HeldView) (c : ℕ) (bytes : List ℕ) (found : ConnectionView) (acts : List Act) : Type 0 where
  pub own : List Act
  pub is : acts ≡ Connection (Fed c bytes) ∷ own
  pub held : HeldView
  pub runs : Runs p h (Connection (Fed c bytes) ∷ []) held
  pub taken : AreTakenBare p held c (cut_of found.stream bytes).packets (cut_of found.stream bytes).fault own

-- first comes what is due; then these bytes, with which nothing is done where the connection isn't open
pub record BareBytesAreTaken (p : Place) (h : HeldView) (at c : ℕ) (bytes : List ℕ) (acts : List Act) : Type 0 where
  pub first : DueFirst p h at acts
  pub none : map.get first.held.connections c ≡ None → first.rest ≡ []
  pub taken :
      (found : ConnectionView) → map.get first.held.connections c ≡ Some found → found.client ≡ None → found.stream.failed ≡ false
      → TakesBareBytes p first.held c bytes found first.rest

-- in each step of a node that has started
abbrev pub FirstPacketsAreTaken : Type 0
FirstPacketsAreTaken =
    (e : NodeEvent) (p : Place) (h : HeldView) (acts : List Act) → Decides e (Some tt) p h acts → (c : ℕ) (bytes : List ℕ) → e.kind ≡ kinds.Piece c bytes → h.started ≡ true → BareBytesAreTaken p h e.at c bytes acts
