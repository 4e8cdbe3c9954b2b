use Rattle.std.proofs.Common.{◌≡◌, subst, sym, ap, ◌∙◌}
use Rattle.std.specs.Prelude.{OnOk}
use Rattle.bridge_lanes.specs.Changes.{now_of}
use Rattle.bridge_lanes.specs.Lanes.{with_got}
use Rattle.bridge_deltas.specs.Links.{kept_of}
use Rattle.node_bridge.specs.View.{BridgeView, LanesTell, gets, with_lane}
use Rattle.node_bridge.proofs.Telling.{are_told, bridge_of, if_ok, lanes_tell, nothing_told, on_ok, shows_got, shows_lane}
use Rattle.node_bridge.proofs.bridge.Bridge.got.Goals as goal

pub invariant_of-self : goal.invariant_of-self
invariant_of-self c = are_told c.got.new.self c.tell.new.links c.tell.ensures.told

pub returns-clause-after : goal.returns-clause-after
returns-clause-after c =
    let l = c.self.inside.links in
    let lane = with_got c.args.number (kept_of l c.args.peer).lane in
    let shows = shows_lane l c.got.new.self c.tell.new.links c.args.peer lane c.got.ensures c.tell.ensures.told ∙ shows_got l c.args.peer c.args.number ∙ ap (gets c.args.peer c.args.number) c.self.view_is in
    on_ok c.tell.result shows

pub returns-clause-tells : goal.returns-clause-tells
returns-clause-tells c =
    let l = c.self.inside.links in
    let lane = with_got c.args.number (kept_of l c.args.peer).lane in
    subst (λ (b : BridgeView). OnOk c.tell.result (LanesTell b.lanes c.args.changes.now.items c.tell.new.changes.items (now_of c.tell.new.links.lanes))) c.self.view_is
    (if_ok c.tell.result (lanes_tell l c.got.new.self c.tell.new.links c.args.peer lane c.args.changes.now.items c.tell.new.changes.items c.self.invariant c.got.ensures c.tell.ensures.told) c.tell.ensures.tells)

pub returns-clause-nothing : goal.returns-clause-nothing
returns-clause-nothing c = λ e.
    let l = c.self.inside.links in
    let lane = with_got c.args.number (kept_of l c.args.peer).lane in
    let same : with_lane c.args.peer lane (bridge_of l) ≡ bridge_of l =
    shows_got l c.args.peer c.args.number ∙ subst (λ (b : BridgeView). gets c.args.peer c.args.number b ≡ b) (sym c.self.view_is) e in
    c.tell.ensures.nothing (nothing_told l c.got.new.self c.args.peer lane c.self.invariant c.got.ensures same)
