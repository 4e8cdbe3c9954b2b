use Rattle.std.proofs.Common.{sym, subst}
use Rattle.node_clients.specs.Pieces.{Piece}
use Rattle.node_work.specs.Working.{ComesTo}
use Rattle.broker_node.specs.Bridge.{Hears}
use Rattle.broker_node.specs.Turns.{AnswersEvent}
use Rattle.broker_node.proofs.turn.answer.Goals as goal

pub returns-in-Piece-clause-comes : goal.returns-in-Piece-clause-comes
returns-in-Piece-clause-comes c =
    let w = c.args.work.now in
    let m = c.take_piece.new.work in
    subst (λ k. ComesTo (λ x. x) c.take_piece.result w m (AnswersEvent k)) (sym c.in-Piece.is)
    (subst (λ bytes. ComesTo (λ x. x) c.take_piece.result w m (Piece c.in-Piece.connection bytes)) c.as_slice.ensures c.take_piece.ensures.comes)

pub returns-in-Frame-clause-comes : goal.returns-in-Frame-clause-comes
returns-in-Frame-clause-comes c =
    let w = c.args.work.now in
    let m = c.hear.new.work in
    subst (λ k. ComesTo (λ x. x) c.hear.result w m (AnswersEvent k)) (sym c.in-Frame.is) (subst (λ bytes. ComesTo (λ x. x) c.hear.result w m (Hears bytes)) c.as_slice-in-Frame.ensures c.hear.ensures)
