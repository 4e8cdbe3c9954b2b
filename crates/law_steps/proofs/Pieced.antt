-- Bytes on a connection come to what the laws say, and nothing else.
use Rattle.std.proofs.Common.{◌≡◌, inl, inr, ℕ, Bool, true, false, cond, List, [], ◌∷◌, ◌++◌, Option, Some, None, refl, sym, ap, ◌∙◌, subst, append_assoc}
use Rattle.mqtt_packets.specs.declared.fault.PacketFault.{PacketFault}
use Rattle.mqtt_packets.specs.declared.packet.Packet.{Packet}
use Rattle.mqtt_packets.specs.Written.{written}
use Rattle.node_work.specs.declared.outcome.Output.TheVariants.{Send}
use Rattle.node_work.specs.Acts.{Act, Connection, Out, Runs, next}
use Rattle.node_work.specs.Held.Connections.{Fed, client_at, first_at, is_open}
use Rattle.node_work.specs.Held.Feeding.{cut_of}
use Rattle.node_work.specs.Packets.{refused_packet}
use Rattle.node_work.specs.View.{Place, HeldView, ConnectionView}
use Rattle.node_work.specs.Working.{Returns, If, Each}
use Rattle.node_clients.specs.Ending as ending
use Rattle.node_clients.specs.Pieces as pieces
use Rattle.law_runs.proofs.Keeping.{none_some}
use Rattle.law_runs.proofs.Splits.{left_by}
use Rattle.law_steps.proofs.ClosingLaws.{second_runs}
use Rattle.law_steps.specs.Bare.{IsShut}
use Rattle.law_steps.proofs.TakenLaws.{closed, none_left}
use Rattle.law_steps.specs.Pieces.{AreTakenAlone, BytesAlone, FaultAlone, FaultIf, PacketAlone, PieceAlone, ShutsAlone}
use Rattle.law_steps.proofs.Connected.{first_alone}
use Rattle.law_steps.proofs.Ended.{closes_alone}
use Rattle.law_steps.proofs.Taken.{broken, takes_alone}

-- ---- a packet
packet_by : (client : Option (List ℕ)) (k : Packet) (c : ℕ) (x : Unit {0}) (p : Place) (h : HeldView) (acts : List Act) → pieces.AnswersPacketBy c k client (Some x) p h acts → PacketAlone p h c k client acts
packet_by None k c x p h acts d = first_alone k c x p h acts d
packet_by (Some client) k c x p h acts d = takes_alone c client k x p h acts d

while_open : (b : Bool) (k : Packet) (c : ℕ) (x : Unit {0}) (p : Place) (h : HeldView) (acts : List Act) → If b (pieces.AnswersPacket c k) (Returns tt) (Some x) p h acts → cond b (PacketAlone p h c k (client_at c h) acts) (acts ≡ [])
while_open true k c x p h acts d = packet_by (client_at c h) k c x p h acts d
while_open false k c x p h acts d = d.1

-- ---- the fault
refusal : (code : Option ℕ) (c : ℕ) (x : Unit {0}) (p : Place) (h : HeldView) (acts : List Act) → pieces.SendsRefusal c code (Some x) p h acts → (n : ℕ) × (code ≡ Some n) × (acts ≡ Out (Send c (written (refused_packet n None))) ∷ [])
refusal None c x p h acts d = absurd d
refusal (Some n) c x p h acts d = (n, refl, d.1)

tells : (b : Bool) (c : ℕ) (fault : PacketFault) (x : Unit {0}) (p : Place) (h : HeldView) (acts : List Act) → If b (pieces.SendsRefusal c (pieces.connack_code fault)) (Returns tt) (Some x) p h acts
    → cond b ((code : ℕ) × (pieces.connack_code fault ≡ Some code) × (acts ≡ Out (Send c (written (refused_packet code None))) ∷ [])) (acts ≡ [])
tells true c fault x p h acts d = refusal (pieces.connack_code fault) c x p h acts d
tells false c fault x p h acts d = d.1

shut_by : (c : ℕ) (fault : PacketFault) (x : Unit {0}) (p : Place) (h : HeldView) (acts : List Act) → pieces.BreaksBy c fault None (Some x) p h acts → IsShut h c fault acts
shut_by c fault x p h acts (inl d) = none_some (sym d.0)
shut_by c fault x p h acts (inr (y, own, mid, rest, one, ran, more, is)) =
    record { told = own; tells = tells (pieces.is_connect (first_at c h)) c fault y p h own one; is = is ∙ ap (λ zs. own ++ zs) (closed c x p mid rest more) }

fault_by : (client : Option (List ℕ)) (fault : PacketFault) (c : ℕ) (x : Unit {0}) (p : Place) (h : HeldView) (acts : List Act) → pieces.BreaksBy c fault client (Some x) p h acts → FaultAlone p h c fault client acts
fault_by None fault c x p h acts d = shut_by c fault x p h acts d
fault_by (Some client) fault c x p h acts d = broken c client fault x p h acts d

fault_open : (b : Bool) (fault : PacketFault) (c : ℕ) (x : Unit {0}) (p : Place) (h : HeldView) (acts : List Act) → If b (pieces.Breaks c fault) (Returns tt) (Some x) p h acts → cond b (FaultAlone p h c fault (client_at c h) acts) (acts ≡ [])
fault_open true fault c x p h acts d = fault_by (client_at c h) fault c x p h acts d
fault_open false fault c x p h acts d = d.1

fault_alone : (fault : Option PacketFault) (c : ℕ) (x : Unit {0}) (p : Place) (h : HeldView) (acts : List Act) → pieces.BreaksIfOpen c fault (Some x) p h acts → FaultIf p h c fault acts
fault_alone None c x p h acts d = d.1
fault_alone (Some fault) c x p h acts d = fault_open (is_open c h) fault c x p h acts d

-- ---- all of them
all_alone : (ks : List Packet) (fault : Option PacketFault) (c : ℕ) (x y : Unit {0}) (p : Place) (h mid : HeldView) (own rest : List Act) → Each (pieces.AnswersIfOpen c) ks (Some x) p h own → Runs p h own mid → pieces.BreaksIfOpen c fault (Some y) p mid rest
    → AreTakenAlone p h c ks fault (own ++ rest)
all_alone [] fault c x y p h mid own rest d runs last =
    let same : mid ≡ h = none_left p h mid own d.1 runs in
    subst (FaultIf p h c fault) (ap (λ zs. zs ++ rest) (sym d.1)) (subst (λ v. FaultIf p v c fault rest) same (fault_alone fault c y p mid rest last))
all_alone (k ∷ ks) fault c x y p h mid own rest (inl d) runs last = none_some (sym d.0)
all_alone (k ∷ ks) fault c x y p h mid own rest (inr (z, first, left, others, one, ran, more, is)) runs last =
    let later : Runs p left others mid = second_runs p h left mid first others own is ran runs in
    (first, left, others ++ rest, ap (λ zs. zs ++ rest) is ∙ append_assoc first others rest, ran, while_open (is_open c h) k c z p h first one, all_alone ks fault c x y p left mid others rest more later last)

feeds_alone : (c : ℕ) (bytes : List ℕ) (found : ConnectionView) (x : Unit {0}) (p : Place) (h : HeldView) (acts : List Act) → pieces.Feeds c bytes found (Some x) p h acts → PieceAlone p h c bytes found acts
feeds_alone c bytes found x p h acts (inl d) = none_some (sym d.0)
feeds_alone c bytes found x p h acts (inr (y, own, mid, rest, one, ran, (inl d), is)) = none_some (sym d.0)
feeds_alone c bytes found x p h acts (inr (y, own, mid, rest, one, ran, (inr (y2, own2, mid2, rest2, two, ran2, more, is2)), is)) =
    let left : mid ≡ next h (Connection (Fed c bytes)) = left_by p h mid (Connection (Fed c bytes)) own one.1 ran in
    let cut = cut_of found.stream bytes in (
      rest,
      is ∙ ap (λ zs. zs ++ rest) one.1,
      subst (λ v. AreTakenAlone p v c cut.packets cut.fault rest) left (subst (AreTakenAlone p mid c cut.packets cut.fault) (sym is2) (all_alone cut.packets cut.fault c y2 x p mid mid2 own2 rest2 two ran2 more)),
    )

-- ---- by the connection
shuts_by : (client : Option (List ℕ)) (c : ℕ) (x : Unit {0}) (p : Place) (h : HeldView) (acts : List Act) → ending.ClosesBy c client (Some x) p h acts → ShutsAlone p h c client acts
shuts_by None c x p h acts d = closed c x p h acts d
shuts_by (Some client) c x p h acts d = closes_alone c client x p h acts d

fed_by : (failed : Bool) (c : ℕ) (bytes : List ℕ) (found : ConnectionView) (x : Unit {0}) (p : Place) (h : HeldView) (acts : List Act) → If failed (pieces.Shuts c) (pieces.Feeds c bytes found) (Some x) p h acts
    → cond failed (ShutsAlone p h c (client_at c h) acts) (PieceAlone p h c bytes found acts)
fed_by true c bytes found x p h acts d = shuts_by (client_at c h) c x p h acts d
fed_by false c bytes found x p h acts d = feeds_alone c bytes found x p h acts d

pub bytes_by : (o : Option ConnectionView) (c : ℕ) (bytes : List ℕ) (x : Unit {0}) (p : Place) (h : HeldView) (acts : List Act) → pieces.PieceAt c bytes o (Some x) p h acts → BytesAlone p h c bytes o acts
bytes_by None c bytes x p h acts d = d.1
bytes_by (Some found) c bytes x p h acts d = fed_by found.stream.failed c bytes found x p h acts d
