use Rattle.std.proofs.Common.{Some, refl, subst, sym}
use Rattle.node_work.specs.Acts.{Connection}
use Rattle.node_work.specs.Held.Connections.{IsWaiting, Roomed}
use Rattle.node_work.specs.View.{WorkView}
use Rattle.node_work.specs.Working.{Acting, Did}
use Rattle.node_work.proofs.Working.{did_silent}
use Rattle.node_work.proofs.work.Work.keep_room.Goals as goal

pub returns-clause-comes : goal.returns-clause-comes
returns-clause-comes c =
    let before : WorkView = record { place = record { id = c.self.inside.id; nodes = c.self.inside.nodes }; held = c.self.inside.held; outputs = c.self.inside.outputs.items; changes = c.self.inside.changes.items } in
    let a = Connection (Roomed c.args.connection c.args.bytes) in
    let may = subst (λ (w : WorkView). IsWaiting c.args.connection w.held) (sym c.self.view_is) c.requires in
    subst (λ w. Did w (record before { held = c.keep_room.new.self }) (Acting (λ p h. a) (Some tt))) c.self.view_is (did_silent (λ p h. a) before c.keep_room.new.self may refl refl c.keep_room.ensures)
