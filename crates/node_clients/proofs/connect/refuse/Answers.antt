use Rattle.std.proofs.Common.{Some, subst}
use Rattle.mqtt_sessions.specs.Answers.{fits}
use Rattle.mqtt_sessions.specs.State.{limit_in}
use Rattle.node_work.specs.Packets.{refused_packet}
use Rattle.node_work.specs.Working.{Did}
use Rattle.node_work.proofs.Working.{then_goes}
use Rattle.node_clients.specs.Connecting.{SendsIf}
use Rattle.node_clients.specs.Ending.{ClosesConnection}
use Rattle.node_clients.proofs.connect.refuse.Goals as goal

pub returns : goal.returns
returns c =
    let at = c.args.connection in
    let w = c.args.work.now in
    let m = c.send.new.self in
    let packet = refused_packet c.args.code c.args.reference in
    let limited = subst (λ n. Did w m (SendsIf (fits n c.in_ok-answer.answer) at c.in_ok-answer.answer (Some tt))) c.limit_in.ensures c.in_ok-send.ensures.comes in
    let sent = subst (λ p. Did w m (SendsIf (fits (limit_in c.args.packet.now.properties) p) at p (Some tt))) c.in_ok-answer.ensures.ok limited in
    then_goes (SendsIf (fits (limit_in c.args.packet.now.properties) packet) at packet) (λ _. ClosesConnection at) (λ x. x) c.close.result w m c.close.new.work tt sent c.close.ensures
