-- What a node believes of the others, through its acts.
use Rattle.std.proofs.Common.{◌≡◌, ℕ, Bool, true, false, cond, List, [], ◌∷◌, length, refl, sym, ap, ◌∙◌, subst}
use Rattle.std.proofs.Math.ListN.{length-set}
use Rattle.std.proofs.lemmas.List.{length-replicate}
use Rattle.std.specs.FinSet as set
use Rattle.causal_context.specs.Dots.{Dots}
use Rattle.home_table.specs.Table.{Table}
use Rattle.bridge_frames.specs.declared.forward.Forward.{Forward}
use Rattle.bridge_lanes.specs.Lanes.{Lanes, new_lanes, with_put, with_took, with_got}
use Rattle.node_bridge.specs.View.{BridgeView, belief_of, lane_to, woken_bridge}
use Rattle.node_work.specs.declared.counts.Counts.{Counts}
use Rattle.node_work.specs.declared.counts.Missed.{Missed}
use Rattle.node_work.specs.declared.counts.Missed.TheVariants.{LaneFull, BadFrame, FrameTooLarge, TableRefused}
use Rattle.node_work.specs.Acts.{Act, MomentTaken, Began, Moved, Store, Connection, Session, Bridge, Out, Named, Acknowledged, Passed, Dropped, Made, Merged, Runs, next}
use Rattle.node_work.specs.Held.Bridge.{BridgeAct, Put, Took, Got, Believed, Greeted, Gave, Left_out, bridged, missed}
use Rattle.node_work.specs.Held.Connections.{ConnectionAct, Opened, Fed, Accepted, Roomed, Closed, after_connection_act}
use Rattle.node_work.specs.Held.Sessions.{SessionAct, Begun, Called, Over, called, counted}
use Rattle.node_work.specs.View.{Place, HeldView, fresh}
use Rattle.law_nodes.specs.Moves.{Move, Acted, Reopened, Moves}
use Rattle.law_steps.proofs.Below.{IsNoBadFrame}
use Rattle.law_steps.proofs.Silent.{IsSilent, AllSilent}

-- ---- it has a belief of each node to which it has a lane
abbrev pub HasBeliefs : HeldView → Type 0
HasBeliefs h = length h.bridge.beliefs ≡ length h.bridge.lanes

-- where it was just opened
abbrev no_dots : Dots
no_dots = set.empty

opened_beliefs : (lanes : Lanes Forward) → length (woken_bridge lanes).beliefs ≡ length lanes
opened_beliefs lanes = length-replicate (length lanes) no_dots

pub fresh_beliefs : (homes : Table) → HasBeliefs (fresh homes)
fresh_beliefs homes = opened_beliefs (new_lanes (length homes.nodes))

by_bridge : (h h' : HeldView) → h'.bridge ≡ h.bridge → HasBeliefs h → HasBeliefs h'
by_bridge h h' e b = subst (λ (v : BridgeView). length v.beliefs ≡ length v.lanes) (sym e) b

connection_bridge : (h : HeldView) (a : ConnectionAct) → (after_connection_act h a).bridge ≡ h.bridge
connection_bridge h (Opened c) = refl
connection_bridge h (Fed c piece) = refl
connection_bridge h (Accepted c client) = refl
connection_bridge h (Roomed c bytes) = refl
connection_bridge h (Closed c) = refl

session_bridge : (h : HeldView) (a : SessionAct) → (called h a).bridge ≡ h.bridge
session_bridge h (Begun client) = refl
session_bridge h (Called s) = refl
session_bridge h (Over client) = refl

bridge_beliefs : (h : HeldView) (a : BridgeAct) → HasBeliefs h → HasBeliefs (bridged h a)
bridge_beliefs h (Put peer m) b = b ∙ sym (length-set h.bridge.lanes peer (with_put m (lane_to h.bridge peer)))
bridge_beliefs h (Took peer number m copies lost) b = b ∙ sym (length-set h.bridge.lanes peer (with_took number (lane_to h.bridge peer)))
bridge_beliefs h (Got peer number) b = b ∙ sym (length-set h.bridge.lanes peer (with_got number (lane_to h.bridge peer)))
bridge_beliefs h (Believed peer dots) b = length-set h.bridge.beliefs peer (set.union (belief_of h.bridge peer) dots) ∙ b
bridge_beliefs h (Greeted peer g) b = length-set h.bridge.beliefs peer g.dots ∙ b
bridge_beliefs h (Gave f) b = b
bridge_beliefs h (Left_out what) b = b

act_beliefs : (h : HeldView) (a : Act) → HasBeliefs h → HasBeliefs (next h a)
act_beliefs h (MomentTaken at) b = b
act_beliefs h Began b = b
act_beliefs h (Moved homes) b = b
act_beliefs h (Store a) b = b
act_beliefs h (Connection a) b = by_bridge h (after_connection_act h a) (connection_bridge h a) b
act_beliefs h (Session a) b = by_bridge h (called h a) (session_bridge h a) b
act_beliefs h (Bridge a) b = bridge_beliefs h a b
act_beliefs h (Out o) b = b
act_beliefs h (Named number) b = b
act_beliefs h (Acknowledged client packet at grants offers) b = b
act_beliefs h (Passed m copies lost routes) b = b
act_beliefs h Dropped b = b

pub moves_beliefs : (p : Place) (moves : List Move) (h h' : HeldView) → Moves p h moves h' → HasBeliefs h → HasBeliefs h'
moves_beliefs p [] h h' r b = subst HasBeliefs (sym r) b
moves_beliefs p (Acted a ∷ moves) h h' r b = moves_beliefs p moves r.0 h' r.2 (subst HasBeliefs (sym r.1.1) (act_beliefs h a b))
moves_beliefs p (Reopened homes ∷ moves) h h' r b = moves_beliefs p moves r.0 h' r.2 (subst HasBeliefs (sym r.1.2) (opened_beliefs h.bridge.lanes))

-- ---- silent acts leave what it believes, and how many frames it counts as bad
pub record BelievesAlike (h h' : HeldView) : Type 0 where
  pub beliefs : h'.bridge.beliefs ≡ h.bridge.beliefs
  pub bad : h'.counts.bad_frames ≡ h.counts.bad_frames

alike_by : (h h' : HeldView) → h'.bridge ≡ h.bridge → h'.counts ≡ h.counts → BelievesAlike h h'
alike_by h h' b c = record { beliefs = ap (λ (v : BridgeView). v.beliefs) b; bad = ap (λ (v : Counts). v.bad_frames) c }

connection_counts : (h : HeldView) (a : ConnectionAct) → (after_connection_act h a).counts ≡ h.counts
connection_counts h (Opened c) = refl
connection_counts h (Fed c piece) = refl
connection_counts h (Accepted c client) = refl
connection_counts h (Roomed c bytes) = refl
connection_counts h (Closed c) = refl

full_counted : (full : Bool) (c : Counts) → (counted full c).bad_frames ≡ c.bad_frames
full_counted true c = refl
full_counted false c = refl

session_bad : (h : HeldView) (a : SessionAct) → (called h a).counts.bad_frames ≡ h.counts.bad_frames
session_bad h (Begun client) = refl
session_bad h (Called s) = full_counted s.reaction.full h.counts
session_bad h (Over client) = refl

no_bad : (what : Missed) (c : Counts) → IsNoBadFrame what → (missed what c).bad_frames ≡ c.bad_frames
no_bad LaneFull c other = refl
no_bad BadFrame c other = absurd other
no_bad FrameTooLarge c other = refl
no_bad TableRefused c other = refl

alike_act : (h : HeldView) (a : Act) → IsSilent a → BelievesAlike h (next h a)
alike_act h (Bridge (Put peer m)) s = record { beliefs = refl; bad = refl }
alike_act h (Bridge (Left_out what)) s = record { beliefs = refl; bad = no_bad what h.counts s }
alike_act h (Bridge (Took peer number m copies lost)) s = absurd s
alike_act h (Bridge (Got peer number)) s = absurd s
alike_act h (Bridge (Believed peer dots)) s = absurd s
alike_act h (Bridge (Greeted peer g)) s = absurd s
alike_act h (Bridge (Gave f)) s = absurd s
alike_act h (Connection a) s = alike_by h (after_connection_act h a) (connection_bridge h a) (connection_counts h a)
alike_act h (Session a) s = record { beliefs = ap (λ (v : BridgeView). v.beliefs) (session_bridge h a); bad = session_bad h a }
alike_act h (Passed m copies lost routes) s = record { beliefs = refl; bad = refl }
alike_act h Dropped s = record { beliefs = refl; bad = refl }
alike_act h a s = record { beliefs = refl; bad = refl }

pub believes_alike : (p : Place) (acts : List Act) (h h' : HeldView) → AllSilent acts → Runs p h acts h' → BelievesAlike h h'
believes_alike p [] h h' s r = subst (BelievesAlike h) (sym r) (record { beliefs = refl; bad = refl })
believes_alike p (a ∷ acts) h h' s r =
    let one : BelievesAlike h r.0 = subst (BelievesAlike h) (sym r.1.1) (alike_act h a s.0) in
    let more = believes_alike p acts r.0 h' s.1 r.2 in
    record { beliefs = more.beliefs ∙ one.beliefs; bad = more.bad ∙ one.bad }
