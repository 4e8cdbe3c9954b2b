use Rattle.law_sessions.specs.Runs.{ticks}
use Rattle.session_table.specs.Calls.{stays}
use Rattle.broker_node.specs.Due.{PartsFrom}
use Rattle.node_clients.specs.Ending.{ClosesConnection}
use Rattle.node_work.specs.Calling.{Calls}
use Rattle.node_work.specs.Working.{Then}
use Rattle.node_work.proofs.Working.{then_goes}
use Rattle.broker_node.proofs.due.end_connection.Goals as goal

pub returns : goal.returns
returns c =
    let d = c.args.due.now in
    then_goes (Calls d.1 ticks stays) (λ _. Then (ClosesConnection d.0) (λ _. PartsFrom d.1)) (λ x. x) c.part.result c.args.work.now c.tick.new.self c.part.new.work c.in_ok-tick.field-0 c.in_ok-tick.ensures
    (then_goes (ClosesConnection d.0) (λ _. PartsFrom d.1) (λ x. x) c.part.result c.tick.new.self c.close.new.work c.part.new.work tt c.in_ok-close.ensures c.part.ensures)
