use Rattle.std.proofs.Common.{sym, ap, ◌∙◌}
use Rattle.node_work.specs.View.{HeldView}
use Rattle.node_work.proofs.Working.{comes_when, comes_unless}
use Rattle.broker_node.specs.Turns.{AnswersAfterDue, AwaitsStart}
use Rattle.broker_node.proofs.turn.turn.Goals as goal

pub returns-then-is_started-clause-comes : goal.returns-then-is_started-clause-comes
returns-then-is_started-clause-comes c =
    let kind = c.args.kind.now in
    let started = sym (c.is_started.ensures ∙ ap (λ (h : HeldView). h.started) c.held.ensures) ∙ c.if-is_started.true in
    comes_when (λ x. x) c.go_on.result c.args.work.now c.go_on.new.work (λ p h. h.started) (AnswersAfterDue kind) (AwaitsStart kind) started c.go_on.ensures.comes

pub returns-else-is_started-clause-comes : goal.returns-else-is_started-clause-comes
returns-else-is_started-clause-comes c =
    let kind = c.args.kind.now in
    let waits = sym (c.is_started.ensures ∙ ap (λ (h : HeldView). h.started) c.held.ensures) ∙ c.if-is_started.false in
    comes_unless (λ x. x) c.wait.result c.args.work.now c.wait.new.work (λ p h. h.started) (AnswersAfterDue kind) (AwaitsStart kind) waits c.wait.ensures.comes
