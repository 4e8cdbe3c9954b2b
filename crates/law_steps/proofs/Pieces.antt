-- What bytes on a connection come to is determined.
use Rattle.std.proofs.Common.{◌≡◌, ℕ, Bool, true, false, cond, List, [], ◌∷◌, ◌++◌, Option, Some, None, refl, sym, ap, ◌∙◌, subst}
use Rattle.home_table.specs.Table.{IsTable}
use Rattle.mqtt_packets.specs.declared.fault.PacketFault.{PacketFault}
use Rattle.mqtt_packets.specs.declared.packet.Packet.{Packet}
use Rattle.mqtt_packets.specs.Written.{written}
use Rattle.node_work.specs.declared.outcome.Output.TheVariants.{Send, Close}
use Rattle.node_work.specs.Acts.{Act, Connection, Out, Runs, next}
use Rattle.node_work.specs.Held.Connections.{Closed, Fed, client_at, first_at, is_open}
use Rattle.node_work.specs.Held.Feeding.{cut_of}
use Rattle.node_work.specs.Packets.{refused_packet}
use Rattle.node_work.specs.View.{Place, HeldView, ConnectionView}
use Rattle.node_work.proofs.Homes.{is_table_on}
use Rattle.node_clients.specs.Pieces.{connack_code, is_connect}
use Rattle.node_clients.proofs.Determined.{runs_determined}
use Rattle.law_steps.specs.Bare.{IsShut}
use Rattle.law_steps.specs.Pieces.{AreTakenAlone, BytesAlone, FaultAlone, FaultIf, PacketAlone, PieceAlone, ShutsAlone}
use Rattle.law_steps.proofs.Calls.{two_heads, two_parts}
use Rattle.law_steps.proofs.Connects.{packet_fixed}
use Rattle.law_steps.proofs.EndingLaws.{closes_fixed}
use Rattle.law_steps.proofs.Packets.{breaks_fixed, takes_fixed}

-- ---- a packet
by_client : (client : Option (List ℕ)) (k : Packet) (p : Place) (h : HeldView) (c : ℕ) (last last' : HeldView) (xs ys : List Act) → IsTable h.homes → Runs p h xs last → Runs p h ys last' → PacketAlone p h c k client xs → PacketAlone p h c k client ys → xs ≡ ys
by_client None k p h c last last' xs ys sound r s x y = packet_fixed k p h c last last' xs ys sound r s x y
by_client (Some client) k p h c last last' xs ys sound r s x y = takes_fixed p h c client k last last' xs ys sound r s x y

while_open : (b : Bool) (k : Packet) (p : Place) (h : HeldView) (c : ℕ) (last last' : HeldView) (xs ys : List Act) → IsTable h.homes → Runs p h xs last → Runs p h ys last'
    → cond b (PacketAlone p h c k (client_at c h) xs) (xs ≡ []) → cond b (PacketAlone p h c k (client_at c h) ys) (ys ≡ []) → xs ≡ ys
while_open true k p h c last last' xs ys sound r s x y = by_client (client_at c h) k p h c last last' xs ys sound r s x y
while_open false k p h c last last' xs ys sound r s x y = x ∙ sym y

-- ---- a fault
shut_told : (b : Bool) (c : ℕ) (fault : PacketFault) (xs ys : List Act) → cond b ((code : ℕ) × (connack_code fault ≡ Some code) × (xs ≡ Out (Send c (written (refused_packet code None))) ∷ [])) (xs ≡ [])
    → cond b ((code : ℕ) × (connack_code fault ≡ Some code) × (ys ≡ Out (Send c (written (refused_packet code None))) ∷ [])) (ys ≡ []) → xs ≡ ys
shut_told true c fault xs ys (code, is, told) (code', is', told') =
    let same : code ≡ code' = (let z : Some code ≡ Some code' = sym is ∙ is' in cc) in told ∙ ap (λ n. Out (Send c (written (refused_packet n None))) ∷ []) same ∙ sym told'
shut_told false c fault xs ys x y = x ∙ sym y

fault_by : (client : Option (List ℕ)) (fault : PacketFault) (p : Place) (h : HeldView) (c : ℕ) (last last' : HeldView) (xs ys : List Act) → IsTable h.homes → Runs p h xs last → Runs p h ys last' → FaultAlone p h c fault client xs → FaultAlone p h c fault client ys → xs ≡ ys
fault_by None fault p h c last last' xs ys sound r s x y = x.is ∙ ap (λ zs. zs ++ Connection (Closed c) ∷ Out (Close c) ∷ []) (shut_told (is_connect (first_at c h)) c fault x.told y.told x.tells y.tells) ∙ sym y.is
fault_by (Some client) fault p h c last last' xs ys sound r s x y = breaks_fixed p h c client fault last last' xs ys sound r s x y

fault_open : (b : Bool) (fault : PacketFault) (p : Place) (h : HeldView) (c : ℕ) (last last' : HeldView) (xs ys : List Act) → IsTable h.homes → Runs p h xs last → Runs p h ys last'
    → cond b (FaultAlone p h c fault (client_at c h) xs) (xs ≡ []) → cond b (FaultAlone p h c fault (client_at c h) ys) (ys ≡ []) → xs ≡ ys
fault_open true fault p h c last last' xs ys sound r s x y = fault_by (client_at c h) fault p h c last last' xs ys sound r s x y
fault_open false fault p h c last last' xs ys sound r s x y = x ∙ sym y

fault_fixed : (fault : Option PacketFault) (p : Place) (h : HeldView) (c : ℕ) (last last' : HeldView) (xs ys : List Act) → IsTable h.homes → Runs p h xs last → Runs p h ys last' → FaultIf p h c fault xs → FaultIf p h c fault ys → xs ≡ ys
fault_fixed None p h c last last' xs ys sound r s x y = x ∙ sym y
fault_fixed (Some fault) p h c last last' xs ys sound r s x y = fault_open (is_open c h) fault p h c last last' xs ys sound r s x y

-- ---- all of them
taken_fixed : (ks : List Packet) (fault : Option PacketFault) (p : Place) (h : HeldView) (c : ℕ) (last last' : HeldView) (xs ys : List Act) → IsTable h.homes → Runs p h xs last → Runs p h ys last' → AreTakenAlone p h c ks fault xs → AreTakenAlone p h c ks fault ys → xs ≡ ys
taken_fixed [] fault p h c last last' xs ys sound r s x y = fault_fixed fault p h c last last' xs ys sound r s x y
taken_fixed (k ∷ ks) fault p h c last last' xs ys sound r s x y =
    two_parts p h last last' xs ys x.0 x.2 y.0 y.2 x.3 y.3 r s
    (λ m n ra rb. while_open (is_open c h) k p h c m n x.0 y.0 sound ra rb x.5 y.5)
    (λ mid ra rb rc rd. (
    let hx : x.1 ≡ mid = runs_determined p x.0 h x.1 mid x.4 ra in
    let hy : y.1 ≡ mid = runs_determined p y.0 h y.1 mid y.4 rb in
    taken_fixed ks fault p mid c last last' x.2 y.2 (is_table_on p x.0 h mid ra sound) rc rd (subst (λ v. AreTakenAlone p v c ks fault x.2) hx x.6) (subst (λ v. AreTakenAlone p v c ks fault y.2) hy y.6)))

piece_fixed : (p : Place) (h : HeldView) (c : ℕ) (bytes : List ℕ) (found : ConnectionView) (last last' : HeldView) (xs ys : List Act) → IsTable h.homes → Runs p h xs last → Runs p h ys last' → PieceAlone p h c bytes found xs → PieceAlone p h c bytes found ys → xs ≡ ys
piece_fixed p h c bytes found last last' xs ys sound r s x y =
    let fed = Connection (Fed c bytes) in
    two_heads p h last last' xs ys fed fed x.0 y.0 x.1 y.1 refl r s
    (λ r2 s2. taken_fixed (cut_of found.stream bytes).packets (cut_of found.stream bytes).fault p (next h fed) c last last' x.0 y.0 sound r2 s2 x.2 y.2)

shuts_fixed : (client : Option (List ℕ)) (p : Place) (h : HeldView) (c : ℕ) (last last' : HeldView) (xs ys : List Act) → IsTable h.homes → Runs p h xs last → Runs p h ys last' → ShutsAlone p h c client xs → ShutsAlone p h c client ys → xs ≡ ys
shuts_fixed None p h c last last' xs ys sound r s x y = x ∙ sym y
shuts_fixed (Some client) p h c last last' xs ys sound r s x y = closes_fixed p h c client last last' xs ys sound r s x y

fed_fixed : (failed : Bool) (p : Place) (h : HeldView) (c : ℕ) (bytes : List ℕ) (found : ConnectionView) (last last' : HeldView) (xs ys : List Act) → IsTable h.homes → Runs p h xs last → Runs p h ys last'
    → cond failed (ShutsAlone p h c (client_at c h) xs) (PieceAlone p h c bytes found xs) → cond failed (ShutsAlone p h c (client_at c h) ys) (PieceAlone p h c bytes found ys) → xs ≡ ys
fed_fixed true p h c bytes found last last' xs ys sound r s x y = shuts_fixed (client_at c h) p h c last last' xs ys sound r s x y
fed_fixed false p h c bytes found last last' xs ys sound r s x y = piece_fixed p h c bytes found last last' xs ys sound r s x y

pub bytes_fixed : (o : Option ConnectionView) (p : Place) (h : HeldView) (c : ℕ) (bytes : List ℕ) (last last' : HeldView) (xs ys : List Act) → IsTable h.homes → Runs p h xs last → Runs p h ys last' → BytesAlone p h c bytes o xs → BytesAlone p h c bytes o ys → xs ≡ ys
bytes_fixed None p h c bytes last last' xs ys sound r s x y = x ∙ sym y
bytes_fixed (Some found) p h c bytes last last' xs ys sound r s x y = fed_fixed found.stream.failed p h c bytes found last last' xs ys sound r s x y
