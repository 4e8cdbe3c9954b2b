-- What bytes on a connection come to, and nothing else (MQTT 5.0, 2.1, 3.1.4 and 4.13).
use Rattle.std.specs.Prelude.{◌≡◌, ℕ, cond, List, [], ◌∷◌, ◌++◌, Option, Some, None}
use Rattle.mqtt_packets.specs.declared.fault.PacketFault.{PacketFault}
use Rattle.mqtt_packets.specs.declared.packet.Packet.{Packet}
use Rattle.node_work.specs.declared.outcome.Output.TheVariants.{Close}
use Rattle.node_work.specs.Acts.{Act, Connection, Out, Runs, next}
use Rattle.node_work.specs.Held.Connections.{Closed, Fed, client_at, is_open}
use Rattle.node_work.specs.Held.Feeding.{cut_of}
use Rattle.node_work.specs.View.{Place, HeldView, ConnectionView}
use Rattle.law_steps.specs.Bare.{IsShut}
use Rattle.law_steps.specs.Connects.{FirstAlone}
use Rattle.law_steps.specs.Ending.{ClosesOn}
use Rattle.law_steps.specs.Packets.{BreaksAlone, TakesAlone}

-- a packet, and a fault, before a client is accepted and afterwards
abbrev pub PacketAlone : Place → HeldView → ℕ → Packet → Option (List ℕ) → List Act → Type 0
PacketAlone p h c k None acts = FirstAlone p h c k acts
PacketAlone p h c k (Some client) acts = TakesAlone p h c client k acts

abbrev pub FaultAlone : Place → HeldView → ℕ → PacketFault → Option (List ℕ) → List Act → Type 0
FaultAlone p h c fault None acts = IsShut h c fault acts
FaultAlone p h c fault (Some client) acts = BreaksAlone p h c client fault acts

abbrev pub FaultIf : Place → HeldView → ℕ → Option PacketFault → List Act → Type 0
FaultIf p h c None acts = acts ≡ []
FaultIf p h c (Some fault) acts = cond (is_open c h) (FaultAlone p h c fault (client_at c h) acts) (acts ≡ [])

-- each packet in order, and then the fault; once the connection is closed nothing more is done
abbrev pub AreTakenAlone : Place → HeldView → ℕ → List Packet → Option PacketFault → List Act → Type 0
AreTakenAlone p h c [] fault acts = FaultIf p h c fault acts
AreTakenAlone p h c (k ∷ ks) fault acts =
    (own : List Act) × (mid : HeldView) × (rest : List Act) × (acts ≡ own ++ rest) × Runs p h own mid × cond (is_open c h) (PacketAlone p h c k (client_at c h) own) (own ≡ [])
    × AreTakenAlone p mid c ks fault rest

-- the bytes are taken in, and then the packets that they make whole with those that waited
abbrev pub PieceAlone : Place → HeldView → ℕ → List ℕ → ConnectionView → List Act → Type 0
PieceAlone p h c bytes found acts =
    (own : List Act) × (acts ≡ Connection (Fed c bytes) ∷ own) × AreTakenAlone p (next h (Connection (Fed c bytes))) c (cut_of found.stream bytes).packets (cut_of found.stream bytes).fault own

-- bytes after a fault close the connection
abbrev pub ShutsAlone : Place → HeldView → ℕ → Option (List ℕ) → List Act → Type 0
ShutsAlone p h c None acts = acts ≡ Connection (Closed c) ∷ Out (Close c) ∷ []
ShutsAlone p h c (Some client) acts = ClosesOn p h c client acts

-- on a connection that isn't open nothing is done
abbrev pub BytesAlone : Place → HeldView → ℕ → List ℕ → Option ConnectionView → List Act → Type 0
BytesAlone p h c bytes None acts = acts ≡ []
BytesAlone p h c bytes (Some found) acts = cond found.stream.failed (ShutsAlone p h c (client_at c h) acts) (PieceAlone p h c bytes found acts)
