use Rattle.std.proofs.Common.{subst}
use Rattle.mqtt_sessions.specs.Reaction.{Reaction}
use Rattle.node_work.specs.Working.{ComesTo}
use Rattle.node_work.proofs.Working.{then_goes, then_stops}
use Rattle.node_clients.specs.Ending.{ClosesAfter}
use Rattle.node_clients.specs.Serving.{DoesAsked, DoesReaction}
use Rattle.node_clients.proofs.serve.react.Goals as goal

pub returns-in_err-do_asked : goal.returns-in_err-do_asked
returns-in_err-do_asked c =
    let at = c.args.connection in
    let client = c.args.client.now in
    let p = c.args.packet.now in
    let room = c.args.room in
    let ask = c.reaction.inside.ask in
    let end = c.reaction.inside.end in
    let w = c.args.work.now in
    let m = c.do_asked.new.work in
    let r = c.from_residual.result in
    let fault = c.in_err-do_asked.field-0.0 in
    subst (λ (a : Reaction). ComesTo (λ x. x) r w m (DoesReaction at client p room a)) c.reaction.view_is
    (then_stops (DoesAsked ask at client p room end) (λ _. ClosesAfter end at client) (λ x. x) (λ x. x) r fault w m c.from_residual.ensures.1 c.in_err-do_asked.ensures)

pub returns : goal.returns
returns c =
    let at = c.args.connection in
    let client = c.args.client.now in
    let p = c.args.packet.now in
    let room = c.args.room in
    let ask = c.reaction.inside.ask in
    let end = c.reaction.inside.end in
    let w = c.args.work.now in
    let m = c.do_asked.new.work in
    let n = c.close_after.new.work in
    let r = c.close_after.result in
    subst (λ (a : Reaction). ComesTo (λ x. x) r w n (DoesReaction at client p room a)) c.reaction.view_is
    (then_goes (DoesAsked ask at client p room end) (λ _. ClosesAfter end at client) (λ x. x) r w m n tt c.in_ok-do_asked.ensures c.close_after.ensures.comes)
