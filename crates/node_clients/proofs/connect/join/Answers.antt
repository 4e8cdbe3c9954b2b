use Rattle.std.proofs.Common.{sym, ap, ◌∙◌}
use Rattle.node_work.specs.Held.Connections.{room_at}
use Rattle.node_work.proofs.Working.{comes_looks}
use Rattle.node_clients.specs.Connecting.{JoinsIn}
use Rattle.node_clients.proofs.connect.join.Goals as goal

pub returns : goal.returns
returns c =
    let at = c.args.connection in
    let found = ap (room_at at) (sym c.held.ensures) ∙ sym c.room_of-room.ensures in
    comes_looks (λ x. x) c.join_in.result c.args.work.now c.join_in.new.work (λ p h. room_at at h) (JoinsIn at c.args.client.now c.args.packet.now) c.room_of-room.result found c.join_in.ensures
