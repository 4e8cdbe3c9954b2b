use Rattle.std.proofs.Common.{Ok, Some, None, refl}
use Rattle.bridge_frames.specs.declared.body.FrameBody.TheVariants.{Delta}
use Rattle.node_work.proofs.Working.{comes_finds, did_nothing}
use Rattle.broker_node.specs.Bridge.{AreShipped, GivesState}
use Rattle.broker_node.proofs.Shipping.{to_ship_here}
use Rattle.broker_node.proofs.bridge.ship_state.Goals as goal

pub give-requires : goal.give-requires
give-requires c =
    to_ship_here c.args.peer c.args.work.now.held c.held-held.result.now c.bridge.result.now c.store.result.now c.in_ok-found.found (Some c.in-Some.state) c.held-held.ensures c.bridge.ensures c.store.ensures c.in-Some.is
    c.in_ok-found.ensures.ships

pub returns-in-None : goal.returns-in-None
returns-in-None c =
    let w = c.args.work.now in
    let peer = c.args.peer in
    comes_finds (λ x. x) (Ok tt) w w (AreShipped peer) (GivesState peer) None
    (to_ship_here peer w.held c.held-held.result.now c.bridge.result.now c.store.result.now c.in_ok-found.found None c.held-held.ensures c.bridge.ensures c.store.ensures c.in-None.is c.in_ok-found.ensures.ships)
    (did_nothing w tt)

pub returns-in-Some : goal.returns-in-Some
returns-in-Some c =
    let w = c.args.work.now in
    let peer = c.args.peer in
    let state = c.in-Some.state in
    comes_finds (λ x. x) c.give.result w c.give.new.work (AreShipped peer) (GivesState peer) (Some state)
    (to_ship_here peer w.held c.held-held.result.now c.bridge.result.now c.store.result.now c.in_ok-found.found (Some state) c.held-held.ensures c.bridge.ensures c.store.ensures c.in-Some.is c.in_ok-found.ensures.ships)
    (c.give.ensures (λ h. Delta state) refl)
