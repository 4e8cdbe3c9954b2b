use Rattle.std.proofs.Common.{Some, None}
use Rattle.node_work.specs.Doings.{Removes}
use Rattle.node_work.specs.Working.{Returns}
use Rattle.node_work.proofs.Working.{did_then, did_nothing, then_stops}
use Rattle.broker_node.proofs.turn.evict.Goals as goal

pub returns-in_err-remove-clause-comes : goal.returns-in_err-remove-clause-comes
returns-in_err-remove-clause-comes c =
    then_stops (Removes c.args.client.now None) (λ _. Returns tt) (λ x. x) (λ x. x) c.from_residual.result c.in_err-remove.field-0.0 c.args.work.now c.remove.new.self c.from_residual.ensures.1 c.in_err-remove.ensures.comes

pub returns-clause-comes : goal.returns-clause-comes
returns-clause-comes c =
    let m = c.remove.new.self in
    did_then (Removes c.args.client.now None) (λ _. Returns tt) c.args.work.now m m c.in_ok-remove.field-0 (Some tt) c.in_ok-remove.ensures.comes (did_nothing m tt)
