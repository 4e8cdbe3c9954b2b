use Rattle.std.proofs.Common.{subst}
use Rattle.node_work.specs.Working.{ComesTo, Looks}
use Rattle.node_work.proofs.Working.{then_goes, then_stops}
use Rattle.node_clients.specs.Passing.{CopiesAt, Passes, Retains}
use Rattle.node_clients.proofs.passing.pass.Goals as goal

pub returns-in_err-retain : goal.returns-in_err-retain
returns-in_err-retain c =
    let m = c.in_ok-message.message in
    let w = c.args.work.now in
    let w' = c.retain.new.work in
    let r = c.from_residual-in_err-retain.result in
    subst (λ x. ComesTo (λ x. x) r w w' (Passes x)) c.in_ok-message.ensures
    (then_stops (Retains m) (λ _. Looks (λ p h. h.at) (CopiesAt m)) (λ x. x) (λ x. x) r c.in_err-retain.field-0.0 w w' c.from_residual-in_err-retain.ensures.1 c.in_err-retain.ensures)

pub returns : goal.returns
returns c =
    let m = c.in_ok-message.message in
    let w = c.args.work.now in
    let w' = c.pass_alive.new.work in
    let r = c.pass_alive.result in
    subst (λ x. ComesTo (λ x. x) r w w' (Passes x)) c.in_ok-message.ensures
    (then_goes (Retains m) (λ _. Looks (λ p h. h.at) (CopiesAt m)) (λ x. x) r w c.retain.new.work w' tt c.in_ok-retain.ensures c.pass_alive.ensures)
