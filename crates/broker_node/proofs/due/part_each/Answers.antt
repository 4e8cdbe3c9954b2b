use Rattle.broker_node.specs.Due.{PartsFrom}
use Rattle.node_work.specs.Working.{Each}
use Rattle.node_work.proofs.Working.{each_stops}
use Rattle.broker_node.proofs.Turning.{stands_next}
use Rattle.broker_node.proofs.due.part_each.Goals as goal

pub returns-in_err-part-clause-comes : goal.returns-in_err-part-clause-comes
returns-in_err-part-clause-comes c =
    let x = c.client-item.result in
    each_stops PartsFrom (λ x. x) (λ x. x) c.args.work.now c.loop-client.work c.part.new.work (Each PartsFrom c.args.clients.now) c.args.clients.now c.loop-client.client-index x x c.loop-client-test.true c.client-item.is c.loop-client.invariant.1
    c.from_residual.result c.in_err-part.field-0.0 c.from_residual.ensures.1 c.in_err-part.ensures

pub loop-client-preserved : goal.loop-client-preserved
loop-client-preserved c =
    stands_next PartsFrom c.args.clients.now c.loop-client.client-index c.client-item.result c.args.work.now c.loop-client.work c.part.new.work c.loop-client-test.true c.client-item.is c.loop-client.invariant c.in_ok-part.ensures
