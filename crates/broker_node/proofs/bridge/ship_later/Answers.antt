use Rattle.std.proofs.Common.{◌≡◌, length, arith, ap, subst, ◌∙◌}
use Rattle.std.specs.Vec.Iter.{into_iter_items}
use Rattle.bridge_deltas.specs.More.{frames_after}
use Rattle.node_bridge.specs.View.{BridgeView, lane_to}
use Rattle.node_clients.proofs.Copying.{came_ends, came_next, none_left}
use Rattle.node_work.specs.Doings.{GivesFrame}
use Rattle.node_work.specs.View.{HeldView}
use Rattle.broker_node.specs.Bridge.{ShipsLater}
use Rattle.broker_node.proofs.Shipping.{AreOwn, own_next, more_begins}
use Rattle.broker_node.proofs.bridge.ship_later.Goals as goal

pub loop-frame-init : goal.loop-frame-init
loop-frame-init c =
    let peer = c.args.peer in
    let after = c.args.after in
    let held = c.bridge.ensures ∙ ap (λ (h : HeldView). h.bridge) c.held.ensures in
    let frames : into_iter_items c.into_iter-frame-iterator.result ≡ c.in_ok-frames.frames.items = c.into_iter-frame-iterator.ensures.into_iter_gives.0 in
    more_begins peer after c.args.work.now (into_iter_items c.into_iter-frame-iterator.result) (frames ∙ c.in_ok-frames.ensures.frames ∙ (λ i. frames_after (c.id.ensures i) peer after (lane_to (held i) peer)))

pub loop-frame-preserved : goal.loop-frame-preserved
loop-frame-preserved c =
    let m = c.loop-frame.work in
    let frame = c.in-Some.frame in
    let rest = into_iter_items c.next.new.self in
    let steps = c.in-Some.ensures.steps.0 in
    let inv = c.loop-frame.invariant in (
      came_next GivesFrame c.args.work.now m (ShipsLater c.args.peer c.args.after) (into_iter_items c.loop-frame.frame-iterator) c.release.new.self frame rest steps inv.0 c.in_ok-release.ensures.comes,
      own_next m c.release.new.self frame rest c.in_ok-release.ensures.comes (subst (AreOwn m.place m.held) steps inv.1),
    )

pub returns : goal.returns
returns c =
    let items = into_iter_items c.loop-frame.frame-iterator in
    let none : length items ≡ 0 = let h = c.in-None.ensures.steps in let k = c.loop-frame.frame-iterator.rest.ok in omega arith in
    came_ends GivesFrame c.args.work.now c.loop-frame.work (ShipsLater c.args.peer c.args.after) items (none_left items none) c.loop-frame.invariant.0
