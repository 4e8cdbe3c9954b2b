use Rattle.std.proofs.Common.{ap, Err, ◌∙◌}
use Rattle.std.proofs.lemmas.Result.{on_ok_weaker}
use Rattle.node_work.specs.Held.Making.{number_at_end, with_operation}
use Rattle.node_work.specs.View.{HeldView}
use Rattle.replica_store.specs.Making.{subscribe_of}
use Rattle.node_work.proofs.Making.{at_end, not_at_end, makes_fault, makes_one}
use Rattle.node_work.proofs.held.Held.subscribe.Goals as goal

pub returns-in_err-operation-clause-makes : goal.returns-in_err-operation-clause-makes
returns-in_err-operation-clause-makes c =
    let at = ap (λ (h : HeldView). h.store) c.self.view_is in
    makes_fault (number_at_end c.args.node c.args.self.now) (subscribe_of c.args.node c.args.entry c.args.self.now.store) c.args.self.now c.from_residual.result c.in_err-operation.field-0.0 c.from_residual.ensures.1
    (λ e. at_end c.args.node c.args.self.now c.self.inside.store at (c.in_err-operation.ensures.at_end.0 (ap Err e)))

pub returns-clause-makes : goal.returns-clause-makes
returns-clause-makes c =
    let at = ap (λ (h : HeldView). h.store) c.self.view_is in
    let o = c.in_ok-operation.ensures.ok ∙ ap (subscribe_of c.args.node c.args.entry) at in
    makes_one (number_at_end c.args.node c.args.self.now) (subscribe_of c.args.node c.args.entry c.args.self.now.store) c.args.self.now c.apply.new.self c.apply.result
    (not_at_end c.args.node c.args.self.now c.self.inside.store at (λ a. let z = c.in_ok-operation.ensures.at_end.1 a in cc))
    (on_ok_weaker c.apply.result (λ e. e ∙ ap (with_operation c.args.self.now) o) c.apply.ensures.ok) c.apply.ensures.fault
