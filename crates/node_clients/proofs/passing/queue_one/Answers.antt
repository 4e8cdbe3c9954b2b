use Rattle.std.proofs.Common.{Result, Ok}
use Rattle.law_sessions.specs.Runs.{queues}
use Rattle.session_table.specs.Calls.{stays}
use Rattle.node_work.specs.Calling.{Calls}
use Rattle.node_work.specs.Working.{Returns}
use Rattle.node_work.specs.declared.fault.NodeFault.{NodeFault}
use Rattle.node_work.proofs.Working.{then_goes, then_stops, did_nothing}
use Rattle.node_clients.proofs.passing.queue_one.Goals as goal

pub returns-in_err-_reaction : goal.returns-in_err-_reaction
returns-in_err-_reaction c =
    let x = c.args.copy in
    then_stops (Calls x.client (queues x.delivery) stays) (λ _. Returns tt) (λ x. x) (λ x. x) c.from_residual.result c.in_err-_reaction.field-0.0 c.args.work.now c.queue.new.self
    c.from_residual.ensures.1 c.in_err-_reaction.ensures

pub returns : goal.returns
returns c =
    let x = c.args.copy in
    let m = c.queue.new.self in
    let done : Result (Unit {0}) NodeFault = Ok tt in
    then_goes (Calls x.client (queues x.delivery) stays) (λ _. Returns tt) (λ x. x) done c.args.work.now m m c.in_ok-_reaction._reaction c.in_ok-_reaction.ensures (did_nothing m tt)
