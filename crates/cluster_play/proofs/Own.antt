-- A node has no lane to itself: it puts nothing into one, takes nothing of one, and has none after a restart.
use Rattle.std.proofs.Common.{◌≡◌, ℕ, ◌+◌, List, [], ◌∷◌, length, sym, ap, ◌∙◌, inl, inr, subst, arith}
use Rattle.std.specs.Prelude.{drop}
use Rattle.std.proofs.lemmas.List.{get_or-set_other}
use Rattle.bridge_frames.specs.declared.forward.Forward.{Forward}
use Rattle.home_table.specs.Table.{Table}
use Rattle.bridge_lanes.specs.Rows.{Messages}
use Rattle.bridge_lanes.specs.Lanes.{new_lane, up_to, with_got, with_put, with_took}
use Rattle.node_bridge.specs.View.{lane_to}
use Rattle.node_rows.specs.Reading.{HasNoLane}
use Rattle.node_work.specs.Acts.{Act, MomentTaken, Began, Moved, Store, Connection, Session, Bridge, Out, Named, Acknowledged, Passed, Dropped, Made, Merged, Allowed, next}
use Rattle.node_work.specs.Held.Bridge.{BridgeAct, Put, Took, Got, Believed, Greeted, Gave, Left_out, MayBridge, bridged}
use Rattle.node_work.specs.Held.Connections.{Opened, Fed, Accepted, Roomed, Closed}
use Rattle.node_work.specs.Held.Sessions.{Begun, Called, Over}
use Rattle.node_work.specs.View.{Place, HeldView, fresh}
use Rattle.law_nodes.specs.Moves.{Move, Acted, Reopened, Moves}
use Rattle.cluster_play.proofs.Bridging.{get_changed, one_of_alike}

-- of a new lane nothing goes
got_none : (number : ℕ) → with_got {A = Forward} number new_lane ≡ new_lane
got_none number = let none : up_to {A = Forward} number new_lane ≡ 0 = omega arith in λ i. record { gone = 0 + none i; waiting = drop (none i) []; took = 0 }

module _ (p : Place) where
  abbrev HasNone : HeldView → Type 0
  HasNone h = HasNoLane p.id h.bridge.lanes

  bridged_none : (h : HeldView) (a : BridgeAct) → HasNone h → MayBridge p h a → HasNone (bridged h a)
  bridged_none h (Put peer m) none may = get_or-set_other h.bridge.lanes peer p.id (with_put m (lane_to h.bridge peer)) new_lane (λ e. may.2 (sym e)) ∙ none
  bridged_none h (Took peer number m copies lost) none may = get_or-set_other h.bridge.lanes peer p.id (with_took number (lane_to h.bridge peer)) new_lane (λ e. may.2 (sym e)) ∙ none
  bridged_none h (Got peer number) none may = elim (get_changed h.bridge.lanes peer p.id (with_got number (lane_to h.bridge peer)) new_lane) [
    | inl e ↦ e.1 ∙ ap (λ j. with_got number (lane_to h.bridge j)) e.0 ∙ ap (λ (l : Messages). with_got number l) none ∙ got_none number
    | inr e ↦ e ∙ none
  ]
  bridged_none h (Believed peer dots) none may = none
  bridged_none h (Greeted peer g) none may = none
  bridged_none h (Gave f) none may = none
  bridged_none h (Left_out what) none may = none

  next_none : (h : HeldView) (a : Act) → HasNone h → Allowed p h a → HasNone (next h a)
  next_none h (MomentTaken at) none may = none
  next_none h Began none may = none
  next_none h (Moved homes) none may = none
  next_none h (Store (Made o)) none may = none
  next_none h (Store (Merged s)) none may = none
  next_none h (Connection (Opened c)) none may = none
  next_none h (Connection (Fed c piece)) none may = none
  next_none h (Connection (Accepted c client)) none may = none
  next_none h (Connection (Roomed c bytes)) none may = none
  next_none h (Connection (Closed c)) none may = none
  next_none h (Session (Begun client)) none may = none
  next_none h (Session (Called step)) none may = none
  next_none h (Session (Over client)) none may = none
  next_none h (Bridge a) none may = bridged_none h a none may
  next_none h (Out o) none may = none
  next_none h (Named number) none may = none
  next_none h (Acknowledged client packet at grants offers) none may = none
  next_none h (Passed m copies lost routes) none may = none
  next_none h Dropped none may = none

  moved_none : (moves : List Move) (h h' : HeldView) → HasNone h → Moves p h moves h' → HasNone h'
  moved_none [] h h' none r = subst HasNone (sym r) none
  moved_none (Acted a ∷ moves) h h' none r = moved_none moves r.0 h' (subst HasNone (sym r.1.1) (next_none h a none r.1.0)) r.2
  moved_none (Reopened homes ∷ moves) h h' none r = moved_none moves r.0 h' (subst HasNone (sym r.1.2) none) r.2

-- whatever becomes of it from its first opening on
pub has_no_lane : (p : Place) (first : Table) (moves : List Move) (h : HeldView) → Moves p (fresh first) moves h → HasNoLane p.id h.bridge.lanes
has_no_lane p first moves h r = moved_none p moves (fresh first) h (one_of_alike (length first.nodes) p.id new_lane) r
