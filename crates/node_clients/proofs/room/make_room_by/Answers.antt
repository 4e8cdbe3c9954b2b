use Rattle.std.proofs.Common.{Some, None, sym, ◌∙◌}
use Rattle.node_work.specs.Held.Connections.{client_at}
use Rattle.node_work.proofs.Working.{comes_looks}
use Rattle.node_clients.specs.Rooms.{MakesRoomBy}
use Rattle.node_clients.proofs.room.make_room_by.Goals as goal

pub returns-in-Some-clause-comes : goal.returns-in-Some-clause-comes
returns-in-Some-clause-comes c =
    let at = c.args.connection in
    comes_looks (λ x. x) c.give_room.result c.args.work.now c.give_room.new.work (λ p h. client_at at h) (MakesRoomBy at c.args.bytes) (Some c.in-Some.client) (sym c.in_ok-client.ensures.ok ∙ c.in-Some.is) c.give_room.ensures

pub returns-in-None-clause-comes : goal.returns-in-None-clause-comes
returns-in-None-clause-comes c =
    let at = c.args.connection in
    comes_looks (λ x. x) c.keep_room.result c.args.work.now c.keep_room.new.self (λ p h. client_at at h) (MakesRoomBy at c.args.bytes) None (sym c.in_ok-client.ensures.ok ∙ c.in-None.is) c.keep_room.ensures.comes
