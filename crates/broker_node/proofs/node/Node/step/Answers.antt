use Rattle.std.proofs.Common.{Ok, Err, refl, sym, ap, subst, ◌∙◌}
use Rattle.home_table.specs.Table.{IsTable}
use Rattle.node_work.specs.View.{NodeView, Place, place_of, up_of}
use Rattle.broker_node.specs.Step.{IsDone}
use Rattle.broker_node.proofs.Stepping.{done, same_table, place_stays, for_as_many, not_at_end, cause, rests}
use Rattle.broker_node.proofs.Tables.{moved_to, not_moved}
use Rattle.broker_node.proofs.node.Node.step.Goals as goal

-- where the event brings no other table
pub invariant_of-self : goal.invariant_of-self
invariant_of-self c run =
    (place_stays c.args.self.now (place_of c.self.inside.id c.self.inside.homes) c.self.inside.homes c.self.inside.work c.self.inside.stopped c.args.event.now c.self.view_is c.self.invariant c.if-self.false c.in-Ok.outcome c.settle.new.work c.in-Ok.ensures.ok, sym (same_table c.args.self.now (place_of c.self.inside.id c.self.inside.homes) c.self.inside.homes c.self.inside.work c.self.inside.stopped c.args.event.now c.self.view_is c.self.invariant c.if-self.false c.in-Ok.outcome c.settle.new.work c.in-Ok.ensures.ok (sym c.may_move-moves.ensures ∙ not_moved c.may_move-moves.result c.in-Ok-None.field-0 c.settle.new.work.held.homes c.in-Ok-None.ensures.some c.in-Ok-None.field-0-is)))

pub returns-in-Ok-None-clause-ok : goal.returns-in-Ok-None-clause-ok
returns-in-Ok-None-clause-ok c =
    done c.args.self.now (place_of c.self.inside.id c.self.inside.homes) c.self.inside.homes c.self.inside.work c.self.inside.stopped c.args.event.now c.self.view_is c.self.invariant c.if-self.false c.in-Ok.outcome c.settle.new.work c.self.inside.homes c.in-Ok.ensures.ok (same_table c.args.self.now (place_of c.self.inside.id c.self.inside.homes) c.self.inside.homes c.self.inside.work c.self.inside.stopped c.args.event.now c.self.view_is c.self.invariant c.if-self.false c.in-Ok.outcome c.settle.new.work c.in-Ok.ensures.ok (sym c.may_move-moves.ensures ∙ not_moved c.may_move-moves.result c.in-Ok-None.field-0 c.settle.new.work.held.homes c.in-Ok-None.ensures.some c.in-Ok-None.field-0-is))

pub returns-in-Ok-None-clause-exactly : goal.returns-in-Ok-None-clause-exactly
returns-in-Ok-None-clause-exactly c = λ a fine. not_at_end c.args.self.now (place_of c.self.inside.id c.self.inside.homes) c.self.inside.homes c.self.inside.work c.self.inside.stopped c.args.event.now c.self.view_is c.self.invariant c.if-self.false (subst IsTable c.homes.ensures c.is_table.ensures) c.in-Ok.outcome c.settle.new.work c.in-Ok.ensures.ok a

pub returns-in-Ok-None-clause-idle : goal.returns-in-Ok-None-clause-idle
returns-in-Ok-None-clause-idle c =
    rests c.args.self.now (place_of c.self.inside.id c.self.inside.homes) c.self.inside.homes c.self.inside.work c.self.inside.stopped c.args.event.now c.self.view_is c.self.invariant c.if-self.false (Ok c.in-Ok.outcome) c.in-Ok.ensures.idle

-- where it may bring one
pub invariant_of-self-in-Ok-Some : goal.invariant_of-self-in-Ok-Some
invariant_of-self-in-Ok-Some c run =
    (place_stays c.args.self.now (place_of c.self.inside.id c.self.inside.homes) c.self.inside.homes c.self.inside.work c.self.inside.stopped c.args.event.now c.self.view_is c.self.invariant c.if-self.false c.in-Ok.outcome c.settle.new.work c.in-Ok.ensures.ok ∙ sym (for_as_many c.args.self.now (place_of c.self.inside.id c.self.inside.homes) c.self.inside.homes c.self.inside.work c.self.inside.stopped c.args.event.now c.self.view_is c.self.invariant c.if-self.false c.in-Ok.outcome c.settle.new.work c.self.inside.id c.in-Ok-Some.homes c.in-Ok.ensures.ok refl (moved_to c.may_move-moves.result c.in-Ok-Some.field-0 c.settle.new.work.held.homes c.in-Ok-Some.homes c.in-Ok-Some.ensures.some c.in-Ok-Some.field-0-is)), sym (moved_to c.may_move-moves.result c.in-Ok-Some.field-0 c.settle.new.work.held.homes c.in-Ok-Some.homes c.in-Ok-Some.ensures.some c.in-Ok-Some.field-0-is))

pub returns-in-Ok-Some-clause-place : goal.returns-in-Ok-Some-clause-place
returns-in-Ok-Some-clause-place c =
    for_as_many c.args.self.now (place_of c.self.inside.id c.self.inside.homes) c.self.inside.homes c.self.inside.work c.self.inside.stopped c.args.event.now c.self.view_is c.self.invariant c.if-self.false c.in-Ok.outcome c.settle.new.work c.self.inside.id c.in-Ok-Some.homes c.in-Ok.ensures.ok refl (moved_to c.may_move-moves.result c.in-Ok-Some.field-0 c.settle.new.work.held.homes c.in-Ok-Some.homes c.in-Ok-Some.ensures.some c.in-Ok-Some.field-0-is) ∙ ap (λ (m : NodeView). m.place) c.self.view_is

pub returns-in-Ok-Some-clause-ok : goal.returns-in-Ok-Some-clause-ok
returns-in-Ok-Some-clause-ok c =
    subst (λ (p : Place). IsDone c.args.self.now c.args.event.now c.in-Ok.outcome.outputs.items c.in-Ok.outcome.changes.items (record { place = p; homes = c.in-Ok-Some.homes; up = up_of c.self.inside.stopped c.settle.new.work.held })) (sym (for_as_many c.args.self.now (place_of c.self.inside.id c.self.inside.homes) c.self.inside.homes c.self.inside.work c.self.inside.stopped c.args.event.now c.self.view_is c.self.invariant c.if-self.false c.in-Ok.outcome c.settle.new.work c.self.inside.id c.in-Ok-Some.homes c.in-Ok.ensures.ok refl (moved_to c.may_move-moves.result c.in-Ok-Some.field-0 c.settle.new.work.held.homes c.in-Ok-Some.homes c.in-Ok-Some.ensures.some c.in-Ok-Some.field-0-is))) (done c.args.self.now (place_of c.self.inside.id c.self.inside.homes) c.self.inside.homes c.self.inside.work c.self.inside.stopped c.args.event.now c.self.view_is c.self.invariant c.if-self.false c.in-Ok.outcome c.settle.new.work c.in-Ok-Some.homes c.in-Ok.ensures.ok (moved_to c.may_move-moves.result c.in-Ok-Some.field-0 c.settle.new.work.held.homes c.in-Ok-Some.homes c.in-Ok-Some.ensures.some c.in-Ok-Some.field-0-is))

pub returns-in-Ok-Some-clause-exactly : goal.returns-in-Ok-Some-clause-exactly
returns-in-Ok-Some-clause-exactly c = λ a fine. not_at_end c.args.self.now (place_of c.self.inside.id c.self.inside.homes) c.self.inside.homes c.self.inside.work c.self.inside.stopped c.args.event.now c.self.view_is c.self.invariant c.if-self.false (subst IsTable c.homes.ensures c.is_table.ensures) c.in-Ok.outcome c.settle.new.work c.in-Ok.ensures.ok a

pub returns-in-Err-clause-cause : goal.returns-in-Err-clause-cause
returns-in-Err-clause-cause c =
    cause c.args.self.now (place_of c.self.inside.id c.self.inside.homes) c.self.inside.homes c.self.inside.work c.self.inside.stopped c.args.event.now c.self.view_is c.self.invariant c.if-self.false c.in-Err.fault c.settle.new.work c.in-Err.ensures.idle c.in-Err.ensures.end c.in-Err.ensures.err
