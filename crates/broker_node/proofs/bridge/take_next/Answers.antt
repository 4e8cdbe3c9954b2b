use Rattle.std.proofs.Common.{Ok, Result, sym, ap, ◌∙◌}
use Rattle.node_bridge.specs.View.{BridgeView, is_next}
use Rattle.node_clients.specs.Passing.{TakesForward}
use Rattle.node_work.specs.declared.fault.NodeFault.{NodeFault}
use Rattle.node_work.specs.View.{HeldView}
use Rattle.node_work.specs.Working.{Returns}
use Rattle.node_work.proofs.Working.{comes_unless, comes_when, did_nothing}
use Rattle.broker_node.proofs.bridge.take_next.Goals as goal

pub returns-then-is_next : goal.returns-then-is_next
returns-then-is_next c =
    let from = c.args.from in
    let number = c.args.number in
    let held = c.bridge.ensures ∙ ap (λ (h : HeldView). h.bridge) c.held.ensures in
    comes_when (λ x. x) c.take_forward.result c.args.work.now c.take_forward.new.work (λ p h. is_next from number h.bridge) (TakesForward from number c.args.message.now) (Returns tt)
    (sym (c.is_next.ensures ∙ ap (is_next from number) held) ∙ c.if-is_next.true) c.take_forward.ensures

pub returns-else-is_next : goal.returns-else-is_next
returns-else-is_next c =
    let from = c.args.from in
    let number = c.args.number in
    let w = c.args.work.now in
    let done : Result (Unit {0}) NodeFault = Ok tt in
    let held = c.bridge.ensures ∙ ap (λ (h : HeldView). h.bridge) c.held.ensures in
    comes_unless (λ x. x) done w w (λ p h. is_next from number h.bridge) (TakesForward from number c.args.message.now) (Returns tt)
    (sym (c.is_next.ensures ∙ ap (is_next from number) held) ∙ c.if-is_next.false) (did_nothing w tt)
