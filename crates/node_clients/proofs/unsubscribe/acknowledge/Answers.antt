use Rattle.std.proofs.Common.{subst}
use Rattle.mqtt_sessions.specs.Reaction.{Reaction}
use Rattle.law_sessions.specs.Runs.{answers}
use Rattle.session_table.specs.Calls.{stays}
use Rattle.node_work.specs.Calling.{Calls}
use Rattle.node_work.specs.Working.{ComesTo}
use Rattle.node_work.proofs.Working.{then_goes}
use Rattle.node_clients.specs.Ending.{ClosesAfter}
use Rattle.node_clients.proofs.unsubscribe.acknowledge.Goals as goal

pub returns : goal.returns
returns c =
    let client = c.args.client.now in
    let m = c.answer.new.self in
    let n = c.close_after.new.work in
    let r = c.close_after.result in
    let closed = subst (λ (a : Reaction). ComesTo (λ x. x) r m n (ClosesAfter a.end c.args.connection client)) c.reaction.view_is c.close_after.ensures.comes in
    then_goes (Calls client (λ at. answers c.args.packet c.args.reasons.now) stays) (λ a. ClosesAfter a.end c.args.connection client) (λ x. x) r c.args.work.now m n c.in_ok-reaction.reaction c.in_ok-reaction.ensures closed
