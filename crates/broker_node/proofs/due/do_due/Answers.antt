use Rattle.broker_node.specs.Due.{EndsConnections, PublishesWills, EndsSessions}
use Rattle.node_work.specs.Working.{Then}
use Rattle.node_work.proofs.Working.{then_goes, then_stops}
use Rattle.broker_node.proofs.due.do_due.Goals as goal

pub returns-in_err-end_connections-clause-comes : goal.returns-in_err-end_connections-clause-comes
returns-in_err-end_connections-clause-comes c =
    then_stops EndsConnections (λ _. Then PublishesWills (λ _. EndsSessions)) (λ x. x) (λ x. x) c.from_residual.result c.in_err-end_connections.field-0.0 c.args.work.now c.end_connections.new.work
    c.from_residual.ensures.1 c.in_err-end_connections.ensures.comes

pub returns-in_err-publish_wills-clause-comes : goal.returns-in_err-publish_wills-clause-comes
returns-in_err-publish_wills-clause-comes c =
    let r = c.from_residual-in_err-publish_wills in
    let m = c.end_connections.new.work in
    then_goes EndsConnections (λ _. Then PublishesWills (λ _. EndsSessions)) (λ x. x) r.result c.args.work.now m c.publish_wills.new.work tt c.in_ok-end_connections.ensures.comes
    (then_stops PublishesWills (λ _. EndsSessions) (λ x. x) (λ x. x) r.result c.in_err-publish_wills.field-0.0 m c.publish_wills.new.work r.ensures.1 c.in_err-publish_wills.ensures.comes)

pub returns-clause-comes : goal.returns-clause-comes
returns-clause-comes c =
    let r = c.end_sessions.result in
    let m = c.end_connections.new.work in
    let n = c.publish_wills.new.work in
    then_goes EndsConnections (λ _. Then PublishesWills (λ _. EndsSessions)) (λ x. x) r c.args.work.now m c.end_sessions.new.work tt c.in_ok-end_connections.ensures.comes
    (then_goes PublishesWills (λ _. EndsSessions) (λ x. x) r m n c.end_sessions.new.work tt c.in_ok-publish_wills.ensures.comes c.end_sessions.ensures.comes)
