use Rattle.std.proofs.Common.{Ok, Result, sym, ap, ◌∙◌}
use Rattle.node_work.specs.declared.fault.NodeFault.{NodeFault}
use Rattle.node_work.specs.Held.Connections.{is_open}
use Rattle.node_work.specs.Working.{Returns}
use Rattle.node_work.proofs.Working.{comes_unless, comes_when, did_nothing}
use Rattle.node_clients.specs.Pieces.{AnswersPacket}
use Rattle.node_clients.proofs.piece.answer_if_open.Goals as goal

pub returns-then-not-is_open : goal.returns-then-not-is_open
returns-then-not-is_open c =
    let at = c.args.connection in
    let w = c.args.work.now in
    let done : Result (Unit {0}) NodeFault = Ok tt in
    let closed = ap (is_open at) (sym c.held.ensures) ∙ sym c.is_open.ensures ∙ c.if-not-is_open.true in
    comes_unless (λ x. x) done w w (λ p h. is_open at h) (AnswersPacket at c.args.packet.now) (Returns tt) closed (did_nothing w tt)

pub returns : goal.returns
returns c =
    let at = c.args.connection in
    let opened = ap (is_open at) (sym c.held.ensures) ∙ sym c.is_open.ensures ∙ c.if-not-is_open.false in
    comes_when (λ x. x) c.answer.result c.args.work.now c.answer.new.work (λ p h. is_open at h) (AnswersPacket at c.args.packet.now) (Returns tt) opened c.answer.ensures
