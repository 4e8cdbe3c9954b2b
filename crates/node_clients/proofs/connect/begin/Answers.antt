use Rattle.std.proofs.Common.{subst}
use Rattle.mqtt_sessions.specs.Reaction.{Reaction}
use Rattle.node_work.specs.Acts.{Connection}
use Rattle.node_work.specs.Held.Connections.{Accepted}
use Rattle.node_work.specs.Working.{ComesTo, Acting, Then}
use Rattle.node_work.proofs.Working.{then_goes}
use Rattle.node_clients.specs.Connecting.{Joins}
use Rattle.node_clients.specs.Ending.{ClosesAfter}
use Rattle.node_clients.proofs.connect.begin.Goals as goal

pub returns : goal.returns
returns c =
    let client = c.args.client.now in
    let p = c.args.packet.now in
    let at = c.args.connection in
    let w = c.args.work.now in
    let m = c.accept.new.self in
    let n = c.join.new.work in
    let new = c.close_after.new.work in
    let r = c.close_after.result in
    let closed = subst (λ (x : Reaction). ComesTo (λ y. y) r n new (ClosesAfter x.end at client)) c.reaction.view_is c.close_after.ensures.comes in
    then_goes (Acting (λ place h. Connection (Accepted at client))) (λ _. Then (Joins at client p) (λ x. ClosesAfter x.end at client)) (λ x. x) r w m new tt c.in_ok-accept.ensures.comes
    (then_goes (Joins at client p) (λ x. ClosesAfter x.end at client) (λ x. x) r m n new c.in_ok-reaction.reaction c.in_ok-reaction.ensures closed)
