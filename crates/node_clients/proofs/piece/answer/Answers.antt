use Rattle.std.proofs.Common.{Some, None, sym, ◌∙◌}
use Rattle.node_work.specs.Held.Connections.{client_at}
use Rattle.node_work.proofs.Working.{comes_looks}
use Rattle.node_clients.specs.Pieces.{AnswersPacketBy}
use Rattle.node_clients.proofs.piece.answer.Goals as goal

pub returns-in-Some : goal.returns-in-Some
returns-in-Some c =
    let at = c.args.connection in
    comes_looks (λ x. x) c.serve.result c.args.work.now c.serve.new.work (λ p h. client_at at h) (AnswersPacketBy at c.args.packet.now) (Some c.in-Some.client) (sym c.in_ok-client.ensures.ok ∙ c.in-Some.is) c.serve.ensures

pub returns-in-None : goal.returns-in-None
returns-in-None c =
    let at = c.args.connection in
    comes_looks (λ x. x) c.answer_first.result c.args.work.now c.answer_first.new.work (λ p h. client_at at h) (AnswersPacketBy at c.args.packet.now) None (sym c.in_ok-client.ensures.ok ∙ c.in-None.is) c.answer_first.ensures
