use Rattle.std.proofs.Common.{Some, Ok, Result, sym, ap, subst, ◌∙◌}
use Rattle.node_work.specs.declared.fault.NodeFault.{NodeFault}
use Rattle.node_work.specs.Held.Connections.{is_open}
use Rattle.node_work.specs.Working.{ComesTo, Did, Returns}
use Rattle.node_work.proofs.Working.{comes_unless, comes_when, did_nothing}
use Rattle.node_clients.specs.Pieces.{Breaks, BreaksIfOpen}
use Rattle.node_clients.proofs.piece.break_if_open.Goals as goal

pub returns-then-not-is_open : goal.returns-then-not-is_open
returns-then-not-is_open c =
    let at = c.args.connection in
    let w = c.args.work.now in
    let done : Result (Unit {0}) NodeFault = Ok tt in
    let closed = ap (is_open at) (sym c.held.ensures) ∙ sym c.is_open.ensures ∙ c.if-not-is_open.true in
    subst (λ f. Did w w (BreaksIfOpen at f (Some tt))) (sym c.in-Some.is)
    (comes_unless (λ x. x) done w w (λ p h. is_open at h) (Breaks at c.in-Some.fault) (Returns tt) closed (did_nothing w tt))

pub returns : goal.returns
returns c =
    let at = c.args.connection in
    let w = c.args.work.now in
    let n = c.break_off.new.work in
    let r = c.break_off.result in
    let opened = ap (is_open at) (sym c.held.ensures) ∙ sym c.is_open.ensures ∙ c.if-not-is_open.false in
    subst (λ f. ComesTo (λ x. x) r w n (BreaksIfOpen at f)) (sym c.in-Some.is)
    (comes_when (λ x. x) r w n (λ p h. is_open at h) (Breaks at c.in-Some.fault) (Returns tt) opened c.break_off.ensures)
