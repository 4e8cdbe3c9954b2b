use Rattle.std.proofs.Common.{◌≡◌, true, false, Result, Ok, refl, sym, ap, subst, ◌∙◌}
use Rattle.mqtt_message.specs.declared.message.Message.{Message}
use Rattle.mqtt_message.specs.Expiry.{IsBefore}
use Rattle.node_work.specs.View.{HeldView}
use Rattle.node_work.specs.Working.{Returns}
use Rattle.node_work.specs.declared.fault.NodeFault.{NodeFault}
use Rattle.node_work.proofs.Working.{comes_else, comes_looks, comes_where, did_nothing}
use Rattle.node_clients.specs.Passing.{Copies, CopiesAt}
use Rattle.node_clients.proofs.passing.pass_alive.Goals as goal

pub returns-then-alive : goal.returns-then-alive
returns-then-alive c =
    let m = c.args.message.now in
    let w = c.args.work.now in
    let w' = c.pass_copies.new.work in
    let r = c.pass_copies.result in
    let at = c.at.result in
    let before = subst (λ (x : Message). IsBefore at x.deadline) c.message.ensures (c.if-alive.ensures.before.0 refl) in
    comes_looks (λ x. x) r w w' (λ p h. h.at) (CopiesAt m) at (sym (c.at.ensures.at ∙ ap (λ (h : HeldView). h.at) c.held.ensures))
    (comes_where (λ x. x) r w w' (IsBefore at m.deadline) (Copies m) (Returns tt) before c.pass_copies.ensures)

pub returns-else-alive : goal.returns-else-alive
returns-else-alive c =
    let m = c.args.message.now in
    let w = c.args.work.now in
    let at = c.at.result in
    let done : Result (Unit {0}) NodeFault = Ok tt in
    let late : ¬ IsBefore at m.deadline = λ b. absurd (let z : false ≡ true = sym c.if-alive.false ∙ c.alive.ensures.before.1 (subst (λ (x : Message). IsBefore at x.deadline) (sym c.message.ensures) b) in cc) in
    comes_looks (λ x. x) done w w (λ p h. h.at) (CopiesAt m) at (sym (c.at.ensures.at ∙ ap (λ (h : HeldView). h.at) c.held.ensures))
    (comes_else (λ x. x) done w w (IsBefore at m.deadline) (Copies m) (Returns tt) late (did_nothing w tt))
