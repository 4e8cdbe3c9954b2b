use Rattle.std.proofs.Common.{sym, ◌∙◌}
use Rattle.node_work.specs.Frames.{is_other}
use Rattle.node_work.specs.Working.{Returns}
use Rattle.node_work.proofs.Working.{comes_when, then_goes, then_stops}
use Rattle.broker_node.specs.Bridge.{ShipsLater, ShipsMoreTo, ShipsState}
use Rattle.broker_node.proofs.bridge.ship_more.Goals as goal

pub returns-in_err-ship_state-clause-comes : goal.returns-in_err-ship_state-clause-comes
returns-in_err-ship_state-clause-comes c =
    let w = c.args.work.now in
    let peer = c.args.peer in
    let after = c.args.after in
    let r = c.from_residual.result in
    let m = c.ship_state.new.work in
    comes_when (λ x. x) r w m (λ p h. is_other p peer) (ShipsMoreTo peer after) (Returns tt) (sym c.is_other.ensures ∙ c.if-not-is_other.false)
    (then_stops (ShipsState peer) (λ _. ShipsLater peer after) (λ x. x) (λ x. x) r c.in_err-ship_state.field-0.0 w m c.from_residual.ensures.1 c.in_err-ship_state.ensures)

pub returns-clause-comes : goal.returns-clause-comes
returns-clause-comes c =
    let w = c.args.work.now in
    let peer = c.args.peer in
    let after = c.args.after in
    let r = c.ship_later.result in
    let m = c.ship_later.new.work in
    comes_when (λ x. x) r w m (λ p h. is_other p peer) (ShipsMoreTo peer after) (Returns tt) (sym c.is_other.ensures ∙ c.if-not-is_other.false)
    (then_goes (ShipsState peer) (λ _. ShipsLater peer after) (λ x. x) r w c.ship_state.new.work m tt c.in_ok-ship_state.ensures c.ship_later.ensures)
