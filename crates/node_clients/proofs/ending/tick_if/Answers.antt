use Rattle.std.proofs.Common.{Bool, Some, sym, subst}
use Rattle.node_work.specs.Working.{Did, Returns}
use Rattle.node_work.proofs.Working.{comes_if, did_nothing}
use Rattle.node_clients.specs.Ending.{Ticks, TicksIf}
use Rattle.node_clients.proofs.ending.tick_if.Goals as goal

pub returns-then-due : goal.returns-then-due
returns-then-due c = comes_if (λ x. x) c.tick.result c.args.work.now c.tick.new.work c.args.due (Ticks c.args.client.now) (Returns tt) c.if-due.true c.tick.ensures

pub returns-else-due : goal.returns-else-due
returns-else-due c =
    let w = c.args.work.now in
    subst (λ (due : Bool). Did w w (TicksIf due c.args.client.now (Some tt))) (sym c.if-due.false) (did_nothing w tt)
