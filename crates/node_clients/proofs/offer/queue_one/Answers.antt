use Rattle.std.proofs.Common.{Some}
use Rattle.law_sessions.specs.Runs.{queues}
use Rattle.session_table.specs.Calls.{stays}
use Rattle.node_work.specs.Calling.{Calls}
use Rattle.node_work.specs.Working.{Returns}
use Rattle.node_work.proofs.Working.{then_stops, did_then, did_nothing}
use Rattle.node_clients.proofs.offer.queue_one.Goals as goal

pub returns-in_err-_reaction : goal.returns-in_err-_reaction
returns-in_err-_reaction c =
    then_stops (Calls c.args.client.now (queues c.args.offer) stays) (λ _. Returns tt) (λ x. x) (λ x. x) c.from_residual.result c.in_err-_reaction.field-0.0 c.args.work.now c.queue.new.self c.from_residual.ensures.1 c.in_err-_reaction.ensures

pub returns : goal.returns
returns c =
    let m = c.queue.new.self in
    did_then (Calls c.args.client.now (queues c.args.offer) stays) (λ _. Returns tt) c.args.work.now m m c.in_ok-_reaction._reaction (Some tt) c.in_ok-_reaction.ensures (did_nothing m tt)
