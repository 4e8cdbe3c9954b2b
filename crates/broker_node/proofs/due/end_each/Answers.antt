use Rattle.broker_node.specs.Due.{RunsOut}
use Rattle.node_work.specs.Working.{Each}
use Rattle.node_work.proofs.Working.{each_stops}
use Rattle.broker_node.proofs.Turning.{stands_next}
use Rattle.broker_node.proofs.due.end_each.Goals as goal

pub returns-in_err-end_connection-clause-comes : goal.returns-in_err-end_connection-clause-comes
returns-in_err-end_connection-clause-comes c =
    let x = c.due-item.result in
    each_stops RunsOut (λ x. x) (λ x. x) c.args.work.now c.loop-due.work c.end_connection.new.work (Each RunsOut c.args.dues.now) c.args.dues.now c.loop-due.due-index x x c.loop-due-test.true c.due-item.is c.loop-due.invariant.1
    c.from_residual.result c.in_err-end_connection.field-0.0 c.from_residual.ensures.1 c.in_err-end_connection.ensures

pub loop-due-preserved : goal.loop-due-preserved
loop-due-preserved c =
    stands_next RunsOut c.args.dues.now c.loop-due.due-index c.due-item.result c.args.work.now c.loop-due.work c.end_connection.new.work c.loop-due-test.true c.due-item.is c.loop-due.invariant c.in_ok-end_connection.ensures
