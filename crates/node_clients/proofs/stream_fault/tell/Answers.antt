use Rattle.std.proofs.Common.{Option, Some, None, Ok, List, ℕ, Result, sym, ap, subst, ◌∙◌}
use Rattle.std.specs.Option.{option_copied}
use Rattle.node_work.specs.declared.fault.NodeFault.{NodeFault}
use Rattle.node_work.specs.Held.Connections.{first_at}
use Rattle.node_work.specs.Working.{Did, Returns}
use Rattle.node_work.proofs.Working.{comes_unless, did_nothing}
use Rattle.node_clients.specs.Pieces.{SendsRefusal, TellsBy, connack_code, is_connect}
use Rattle.node_clients.proofs.stream_fault.tell.Goals as goal

pub returns : goal.returns
returns c =
    let at = c.args.connection in
    let w = c.args.work.now in
    let done : Result (Unit {0}) NodeFault = Ok tt in
    let no = ap (λ h. is_connect (first_at at h)) (sym c.held.ensures) ∙ ap is_connect (sym c.first.ensures) ∙ sym c.is_connect.ensures ∙ c.if-is_connect.false in
    subst (λ (o : Option (List ℕ)). Did w w (TellsBy at c.args.fault o (Some tt))) (sym (ap option_copied c.in_default.is))
    (comes_unless (λ x. x) done w w (λ p h. is_connect (first_at at h)) (SendsRefusal at (connack_code c.args.fault)) (Returns tt) no (did_nothing w tt))
