use Rattle.broker_node.specs.Turns.{Decides}
use Rattle.broker_node.proofs.Stepping.{settles, settled_idle, settled_wanting, failed_idle, failed_comes}
use Rattle.broker_node.specs.Step.{step_start}
use Rattle.broker_node.proofs.node.settle.Goals as goal

pub returns-clause-ok : goal.returns-clause-ok
returns-clause-ok c =
    settles c.args.event.now c.finish.result c.args.work.now c.start.new.self c.decide.new.work c.finish.new.self c.start.ensures c.in_ok-decide.ensures.comes c.finish.ensures.given c.finish.ensures.once c.finish.ensures.settled c.can_last.ensures c.finish.ensures.rest

pub returns-clause-idle : goal.returns-clause-idle
returns-clause-idle c =
    settled_idle c.args.event.now c.finish.result c.args.work.now c.start.new.self c.decide.new.work c.start.ensures c.in_ok-decide.ensures.idle c.finish.ensures.given c.finish.ensures.none

pub returns-clause-err : goal.returns-clause-err
returns-clause-err c = settled_wanting c.finish.result (step_start c.args.work.now) c.finish.new.self (Decides c.args.event.now) c.finish.ensures.fault

pub returns-in_err-decide-clause-idle : goal.returns-in_err-decide-clause-idle
returns-in_err-decide-clause-idle c =
    failed_idle c.args.event.now c.from_residual.result c.in_err-decide.field-0.0 c.args.work.now c.start.new.self c.decide.new.work c.start.ensures c.in_err-decide.ensures.idle

pub returns-in_err-decide-clause-err : goal.returns-in_err-decide-clause-err
returns-in_err-decide-clause-err c =
    failed_comes c.from_residual.result c.in_err-decide.field-0.0 c.args.work.now c.start.new.self c.decide.new.work c.decide.new.work (Decides c.args.event.now) c.from_residual.ensures.1 c.start.ensures c.in_err-decide.ensures.comes
