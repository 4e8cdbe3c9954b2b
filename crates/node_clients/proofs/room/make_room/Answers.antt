use Rattle.std.proofs.Common.{sym, ap, ◌∙◌}
use Rattle.node_work.specs.Held.Connections.{is_open, client_at}
use Rattle.node_work.specs.Working.{Looks, Returns}
use Rattle.node_work.proofs.Working.{comes_when}
use Rattle.node_clients.specs.Rooms.{MakesRoomBy}
use Rattle.node_clients.proofs.room.make_room.Goals as goal

pub returns-clause-comes : goal.returns-clause-comes
returns-clause-comes c =
    let at = c.args.connection in
    let opened = ap (is_open at) (sym c.held.ensures) ∙ sym c.is_open.ensures ∙ c.if-not-is_open.false in
    comes_when (λ x. x) c.make_room_by.result c.args.work.now c.make_room_by.new.work (λ p h. is_open at h) (Looks (λ p h. client_at at h) (MakesRoomBy at c.args.bytes)) (Returns tt) opened c.make_room_by.ensures.comes
