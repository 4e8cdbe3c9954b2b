use Rattle.std.proofs.Common.{sym, ap, ◌∙◌}
use Rattle.node_work.specs.Held.Sessions.{end_is_due}
use Rattle.node_work.proofs.Working.{comes_looks}
use Rattle.node_clients.specs.Ending.{TicksIf}
use Rattle.node_clients.proofs.ending.end_due_session.Goals as goal

pub returns : goal.returns
returns c =
    let client = c.args.client.now in
    let due = c.end_is_due-due.result in
    comes_looks (λ x. x) c.tick_if.result c.args.work.now c.tick_if.new.work (λ p h. end_is_due client h) (λ b. TicksIf b client) due
    (sym (c.end_is_due-due.ensures ∙ ap (end_is_due client) c.held.ensures)) c.tick_if.ensures
