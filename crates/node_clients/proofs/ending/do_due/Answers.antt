use Rattle.node_work.specs.Held.Sessions.{will_is_due, end_is_due}
use Rattle.node_work.specs.Working.{Doing, Looks}
use Rattle.node_work.proofs.Working.{then_goes, then_stops}
use Rattle.std.proofs.Common.{ℕ, List, Option}
use Rattle.node_clients.specs.Ending.{TicksIf}
use Rattle.node_clients.proofs.ending.do_due.Goals as goal

abbrev DueWill : List ℕ → Option (Unit {0}) → Doing
DueWill client = Looks (λ p h. will_is_due client h) (λ due. TicksIf due client)

abbrev DueEnd : List ℕ → Option (Unit {0}) → Doing
DueEnd client = Looks (λ p h. end_is_due client h) (λ due. TicksIf due client)

pub returns-in_err-publish_due_will : goal.returns-in_err-publish_due_will
returns-in_err-publish_due_will c =
    let client = c.args.client.now in
    then_stops (DueWill client) (λ _. DueEnd client) (λ x. x) (λ x. x) c.from_residual.result c.in_err-publish_due_will.field-0.0 c.args.work.now c.publish_due_will.new.work
    c.from_residual.ensures.1 c.in_err-publish_due_will.ensures

pub returns : goal.returns
returns c =
    let client = c.args.client.now in
    then_goes (DueWill client) (λ _. DueEnd client) (λ x. x) c.end_due_session.result c.args.work.now c.publish_due_will.new.work c.end_due_session.new.work tt c.in_ok-publish_due_will.ensures c.end_due_session.ensures
