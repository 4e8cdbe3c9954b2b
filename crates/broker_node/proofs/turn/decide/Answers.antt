use Rattle.node_work.specs.Doings.{TakesMoment}
use Rattle.node_work.proofs.Working.{then_goes, then_stops}
use Rattle.broker_node.specs.Turns.{Turn}
use Rattle.broker_node.proofs.turn.decide.Goals as goal

pub returns-in_err-take_moment-clause-comes : goal.returns-in_err-take_moment-clause-comes
returns-in_err-take_moment-clause-comes c =
    let e = c.args.event.now in
    then_stops (TakesMoment e.at) (λ _. Turn e.kind) (λ x. x) (λ x. x) c.from_residual.result c.in_err-take_moment.field-0.0 c.args.work.now c.take_moment.new.self c.from_residual.ensures.1 c.in_err-take_moment.ensures.comes

pub returns-clause-comes : goal.returns-clause-comes
returns-clause-comes c =
    let e = c.args.event.now in
    then_goes (TakesMoment e.at) (λ _. Turn e.kind) (λ x. x) c.turn.result c.args.work.now c.take_moment.new.self c.turn.new.work tt c.in_ok-take_moment.ensures.comes c.turn.ensures.comes
