use Rattle.std.proofs.Common.{sym, ◌∙◌}
use Rattle.node_work.proofs.Working.{comes_unless}
use Rattle.node_clients.specs.Passing.{Drops, Passes, lacks_room}
use Rattle.node_clients.proofs.passing.pass_will.Goals as goal

pub returns-else-lacks_room-clause-comes : goal.returns-else-lacks_room-clause-comes
returns-else-lacks_room-clause-comes c =
    let m = c.args.message in
    comes_unless (λ x. x) c.pass.result c.args.work.now c.pass.new.work (λ p h. lacks_room m h) Drops (Passes m) (sym c.lacks_room.ensures ∙ c.if-lacks_room.false) c.pass.ensures
