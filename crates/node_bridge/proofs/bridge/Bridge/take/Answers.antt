use Rattle.std.proofs.Common.{cond, ap, subst, ◌∙◌}
use Rattle.bridge_lanes.specs.Changes.{now_of}
use Rattle.bridge_deltas.specs.Links.{kept_of}
use Rattle.node_bridge.specs.View.{BridgeView, LanesTell, takes}
use Rattle.node_bridge.proofs.Telling.{are_told, lanes_tell, shows_lane, shows_taken, taken_lane, taken_with}
use Rattle.node_bridge.proofs.bridge.Bridge.take.Goals as goal

pub invariant_of-self : goal.invariant_of-self
invariant_of-self c = are_told c.arrived-taken.new.self c.tell.new.links c.tell.ensures.told

pub invariant_of-self-2 : goal.invariant_of-self-2
invariant_of-self-2 c = are_told c.arrived-taken.new.self c.tell.new.links c.tell.ensures.told

pub returns-clause-after : goal.returns-clause-after
returns-clause-after c =
    let l = c.self.inside.links in
    let taken = c.arrived-taken.result in
    let lane = taken_lane taken c.args.number (kept_of l c.args.peer).lane in
    let with = taken_with l c.arrived-taken.new.self c.args.peer c.args.number taken c.arrived-taken.ensures.after in
    shows_lane l c.arrived-taken.new.self c.tell.new.links c.args.peer lane with c.tell.ensures.told ∙ shows_taken l c.args.peer c.args.number taken
    ∙ ap (λ (b : BridgeView). cond taken (takes c.args.peer c.args.number b) b) c.self.view_is

pub returns-clause-tells : goal.returns-clause-tells
returns-clause-tells c =
    let l = c.self.inside.links in
    let taken = c.arrived-taken.result in
    let lane = taken_lane taken c.args.number (kept_of l c.args.peer).lane in
    let with = taken_with l c.arrived-taken.new.self c.args.peer c.args.number taken c.arrived-taken.ensures.after in
    subst (λ (b : BridgeView). LanesTell b.lanes c.args.changes.now.items c.tell.new.changes.items (now_of c.tell.new.links.lanes)) c.self.view_is
    (lanes_tell l c.arrived-taken.new.self c.tell.new.links c.args.peer lane c.args.changes.now.items c.tell.new.changes.items c.self.invariant with c.tell.ensures.told c.in_ok-tell.ensures.tells)
