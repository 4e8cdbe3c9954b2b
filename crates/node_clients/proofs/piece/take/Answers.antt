use Rattle.node_work.specs.Working.{Each}
use Rattle.node_work.proofs.Working.{then_goes, then_stops}
use Rattle.node_clients.specs.Pieces.{AnswersIfOpen, BreaksIfOpen}
use Rattle.node_clients.proofs.piece.take.Goals as goal

pub returns-in_err-answer_each : goal.returns-in_err-answer_each
returns-in_err-answer_each c =
    let at = c.args.connection in
    then_stops (Each (AnswersIfOpen at) c.args.packets.now) (λ _. BreaksIfOpen at c.args.fault) (λ x. x) (λ x. x) c.from_residual.result c.in_err-answer_each.field-0.0 c.args.work.now c.answer_each.new.work c.from_residual.ensures.1 c.in_err-answer_each.ensures

pub returns : goal.returns
returns c =
    let at = c.args.connection in
    then_goes (Each (AnswersIfOpen at) c.args.packets.now) (λ _. BreaksIfOpen at c.args.fault) (λ x. x) c.break_if_open.result c.args.work.now c.answer_each.new.work c.break_if_open.new.work tt c.in_ok-answer_each.ensures c.break_if_open.ensures
