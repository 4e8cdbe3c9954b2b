-- The moment of a node is the greatest that it was handed since it was last opened.
use Rattle.std.proofs.Common.{◌≡◌, max, List, [], ◌∷◌, refl, ap, ◌∙◌, arith}
use Rattle.node_work.specs.Acts.{Act, MomentTaken, Began, Moved, Store, Connection, Session, Bridge, Out, Named, Acknowledged, Passed, Dropped, next}
use Rattle.node_work.specs.Held.Bridge.{BridgeAct, Put, Took, Got, Believed, Greeted, Gave, Left_out, bridged}
use Rattle.node_work.specs.Held.Connections.{ConnectionAct, Opened, Fed, Accepted, Roomed, Closed, after_connection_act}
use Rattle.node_work.specs.Held.Sessions.{SessionAct, Begun, Called, Over, called}
use Rattle.node_work.specs.View.{Place, HeldView}
use Rattle.law_nodes.specs.Moves.{Move, Acted, Reopened, Moves}
use Rattle.cluster_play.specs.Histories.{moment_in, moment_after}

connection_moment : (h : HeldView) (a : ConnectionAct) → (after_connection_act h a).at ≡ h.at
connection_moment h (Opened c) = refl
connection_moment h (Fed c piece) = refl
connection_moment h (Accepted c client) = refl
connection_moment h (Roomed c bytes) = refl
connection_moment h (Closed c) = refl

session_moment : (h : HeldView) (a : SessionAct) → (called h a).at ≡ h.at
session_moment h (Begun client) = refl
session_moment h (Called step) = refl
session_moment h (Over client) = refl

bridge_moment : (h : HeldView) (a : BridgeAct) → (bridged h a).at ≡ h.at
bridge_moment h (Put peer m) = refl
bridge_moment h (Took peer number m copies lost) = refl
bridge_moment h (Got peer number) = refl
bridge_moment h (Believed peer dots) = refl
bridge_moment h (Greeted peer g) = refl
bridge_moment h (Gave f) = refl
bridge_moment h (Left_out what) = refl

next_moment : (h : HeldView) (a : Act) → (next h a).at ≡ max h.at (moment_in a)
next_moment h (MomentTaken at) = refl
next_moment h Began = omega arith
next_moment h (Moved homes) = omega arith
next_moment h (Store a) = omega arith
next_moment h (Connection a) = connection_moment h a ∙ omega arith
next_moment h (Session a) = session_moment h a ∙ omega arith
next_moment h (Bridge a) = bridge_moment h a ∙ omega arith
next_moment h (Out o) = omega arith
next_moment h (Named number) = omega arith
next_moment h (Acknowledged client packet at grants offers) = omega arith
next_moment h (Passed m copies lost routes) = omega arith
next_moment h Dropped = omega arith

pub moves_moment : (p : Place) (moves : List Move) (h h' : HeldView) → Moves p h moves h' → h'.at ≡ moment_after h.at moves
moves_moment p [] h h' all = ap (λ (v : HeldView). v.at) all
moves_moment p (Acted a ∷ moves) h h' all = moves_moment p moves all.0 h' all.2 ∙ ap (λ at. moment_after at moves) (ap (λ (v : HeldView). v.at) all.1.1 ∙ next_moment h a)
moves_moment p (Reopened homes ∷ moves) h h' all = moves_moment p moves all.0 h' all.2 ∙ ap (λ at. moment_after at moves) (ap (λ (v : HeldView). v.at) all.1.2)
