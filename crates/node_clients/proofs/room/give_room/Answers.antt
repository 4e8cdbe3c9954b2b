use Rattle.std.proofs.Common.{Some}
use Rattle.law_sessions.specs.Runs.{rooms}
use Rattle.session_table.specs.Calls.{stays}
use Rattle.node_work.specs.Calling.{Calls}
use Rattle.node_work.specs.Working.{Returns}
use Rattle.node_work.proofs.Working.{then_stops, did_then, did_nothing}
use Rattle.node_clients.proofs.room.give_room.Goals as goal

pub returns-in_err-make_room : goal.returns-in_err-make_room
returns-in_err-make_room c =
    then_stops (Calls c.args.client.now (rooms c.args.bytes) stays) (λ _. Returns tt) (λ x. x) (λ x. x) c.from_residual.result c.in_err-make_room.field-0.0 c.args.work.now c.make_room.new.self c.from_residual.ensures.1 c.in_err-make_room.ensures

pub returns : goal.returns
returns c =
    let m = c.make_room.new.self in
    did_then (Calls c.args.client.now (rooms c.args.bytes) stays) (λ _. Returns tt) c.args.work.now m m c.in_ok-make_room.field-0 (Some tt) c.in_ok-make_room.ensures (did_nothing m tt)
