use Rattle.std.proofs.Common.{◌≡◌, Ok, Err, sym, subst, ◌∙◌, ap}
use Rattle.node_work.specs.View.{WorkView}
use Rattle.node_work.specs.Working.{ComesTo, Then}
use Rattle.node_work.proofs.Working.{comes_as, did_nothing, then_goes, then_stops}
use Rattle.broker_node.specs.Due.{DoesDue}
use Rattle.broker_node.specs.Idle.{AsksNothing}
use Rattle.broker_node.specs.Turns.{AnswersEvent, AnswersAfterDue}
use Rattle.broker_node.proofs.Going.{goes, goes_idle}
use Rattle.broker_node.proofs.turn.go_on.Goals as goal

pub returns-in-Started-clause-comes : goal.returns-in-Started-clause-comes
returns-in-Started-clause-comes c =
    let w = c.args.work.now in
    subst (λ k. ComesTo (λ x. x) (Ok tt) w w (AnswersAfterDue k)) (sym c.in-Started.is) (did_nothing w tt)

pub returns-in_err-do_due : goal.returns-in_err-do_due
returns-in_err-do_due c =
    let w = c.args.work.now in
    let kind = c.args.kind.now in
    let r = c.from_residual.result in
    let m = c.do_due.new.work in
    let other = c.in_default.not-Started in
    record {
      idle = λ i. absurd (let z : Err _ ≡ Ok tt = (c.in_err-do_due.ensures.idle (goes_idle kind other w.place w.held i).0).0 in cc);
      comes = comes_as (λ x. x) r w m (Then DoesDue (λ _. AnswersEvent kind)) (AnswersAfterDue kind) (λ out acts. goes kind other out w.place w.held acts)
          (then_stops DoesDue (λ _. AnswersEvent kind) (λ x. x) (λ x. x) r c.in_err-do_due.field-0.0 w m c.from_residual.ensures.1 c.in_err-do_due.ensures.comes);
    }

pub returns : goal.returns
returns c =
    let w = c.args.work.now in
    let kind = c.args.kind.now in
    let r = c.answer.result in
    let m = c.do_due.new.work in
    let other = c.in_default.not-Started in
    record {
      idle = λ i.
          let both = goes_idle kind other w.place w.held i in
          let same = (c.in_ok-do_due.ensures.idle both.0).1 in
          let kept = c.answer.ensures.idle (subst (λ (v : WorkView). AsksNothing v.place v.held kind) (sym same) both.1) in
          (kept.0, kept.1 ∙ ap (λ (v : WorkView). v.outputs) same, kept.2 ∙ ap (λ (v : WorkView). v.changes) same);
      comes = comes_as (λ x. x) r w c.answer.new.work (Then DoesDue (λ _. AnswersEvent kind)) (AnswersAfterDue kind) (λ out acts. goes kind other out w.place w.held acts)
          (then_goes DoesDue (λ _. AnswersEvent kind) (λ x. x) r w m c.answer.new.work tt c.in_ok-do_due.ensures.comes c.answer.ensures.comes);
    }
