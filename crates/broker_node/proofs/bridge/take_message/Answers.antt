use Rattle.bridge_frames.specs.declared.body.FrameBody.TheVariants.{Got}
use Rattle.node_bridge.specs.View.{lane_to}
use Rattle.node_work.specs.Doings.{GivesBody}
use Rattle.node_work.proofs.Working.{then_goes, then_stops}
use Rattle.broker_node.specs.Bridge.{TakesNext}
use Rattle.broker_node.proofs.bridge.take_message.Goals as goal

pub returns-in_err-take_next : goal.returns-in_err-take_next
returns-in_err-take_next c =
    let from = c.args.from in
    then_stops (TakesNext from c.args.number c.args.message.now) (λ _. GivesBody from (λ h. Got (lane_to h.bridge from).took)) (λ x. x) (λ x. x) c.from_residual.result c.in_err-take_next.field-0.0 c.args.work.now c.take_next.new.work
    c.from_residual.ensures.1 c.in_err-take_next.ensures

pub returns : goal.returns
returns c =
    let from = c.args.from in
    then_goes (TakesNext from c.args.number c.args.message.now) (λ _. GivesBody from (λ h. Got (lane_to h.bridge from).took)) (λ x. x) c.tell_got.result c.args.work.now c.take_next.new.work c.tell_got.new.work tt
    c.in_ok-take_next.ensures c.tell_got.ensures
