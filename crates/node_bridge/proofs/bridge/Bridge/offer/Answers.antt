use Rattle.std.proofs.Common.{ap, subst, ◌∙◌}
use Rattle.bridge_lanes.specs.Changes.{now_of}
use Rattle.bridge_deltas.specs.Lane.{after_offer}
use Rattle.bridge_deltas.specs.Links.{kept_of}
use Rattle.node_bridge.specs.View.{BridgeView, LanesTell, offered}
use Rattle.node_bridge.proofs.Telling.{are_told, lanes_tell, shows_lane, shows_offered}
use Rattle.node_bridge.proofs.bridge.Bridge.offer.Goals as goal

pub invariant_of-self-in_err-tell : goal.invariant_of-self-in_err-tell
invariant_of-self-in_err-tell c = are_told c.forward.new.self c.tell.new.links c.tell.ensures.told

pub invariant_of-self-2 : goal.invariant_of-self-2
invariant_of-self-2 c = are_told c.forward.new.self c.tell.new.links c.tell.ensures.told

pub returns-clause-after : goal.returns-clause-after
returns-clause-after c =
    let l = c.self.inside.links in
    let lane = after_offer c.in_ok-offer.offer c.args.message (kept_of l c.args.peer).lane in
    shows_lane l c.forward.new.self c.tell.new.links c.args.peer lane c.in_ok-offer.ensures.after c.tell.ensures.told ∙ shows_offered l c.args.peer c.in_ok-offer.offer c.args.message
    ∙ ap (offered c.in_ok-offer.offer c.args.peer c.args.message) c.self.view_is

pub returns-clause-tells : goal.returns-clause-tells
returns-clause-tells c =
    let l = c.self.inside.links in
    let lane = after_offer c.in_ok-offer.offer c.args.message (kept_of l c.args.peer).lane in
    subst (λ (b : BridgeView). LanesTell b.lanes c.args.changes.now.items c.tell.new.changes.items (now_of c.tell.new.links.lanes)) c.self.view_is
    (lanes_tell l c.forward.new.self c.tell.new.links c.args.peer lane c.args.changes.now.items c.tell.new.changes.items c.self.invariant c.in_ok-offer.ensures.after c.tell.ensures.told c.in_ok-tell.ensures.tells)
