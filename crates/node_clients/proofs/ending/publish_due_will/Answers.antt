use Rattle.std.proofs.Common.{sym, ap, ◌∙◌}
use Rattle.node_work.specs.Held.Sessions.{will_is_due}
use Rattle.node_work.proofs.Working.{comes_looks}
use Rattle.node_clients.specs.Ending.{TicksIf}
use Rattle.node_clients.proofs.ending.publish_due_will.Goals as goal

pub returns : goal.returns
returns c =
    let client = c.args.client.now in
    let due = c.will_is_due-due.result in
    comes_looks (λ x. x) c.tick_if.result c.args.work.now c.tick_if.new.work (λ p h. will_is_due client h) (λ b. TicksIf b client) due
    (sym (c.will_is_due-due.ensures ∙ ap (will_is_due client) c.held.ensures)) c.tick_if.ensures
