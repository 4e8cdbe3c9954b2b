use Rattle.std.proofs.Common.{Some, sym, ap, subst, ◌∙◌}
use Rattle.mqtt_sessions.specs.Reaction.{Reaction}
use Rattle.law_sessions.specs.Runs.{answers}
use Rattle.session_table.specs.Calls.{stays}
use Rattle.node_work.specs.Calling.{Calls}
use Rattle.node_work.specs.Working.{ComesTo, Did}
use Rattle.node_work.proofs.Working.{then_goes}
use Rattle.node_clients.specs.Subscribing.{OffersAfter, granted_reasons}
use Rattle.node_clients.proofs.subscribe.acknowledge.Goals as goal

pub returns-in-None : goal.returns-in-None
returns-in-None c =
    let client = c.args.client.now in
    let grants = c.args.grants.now in
    let m = c.answer.new.self in
    let n = c.offer_each.new.work in
    let r = c.offer_each.result in
    let d = subst (λ xs. Did c.args.work.now m (Calls client (λ at. answers c.args.packet xs) stays (Some c.in_ok-reaction.reaction))) (c.deref.ensures.value ∙ c.in_ok-reasons.ensures.ok) c.in_ok-reaction.ensures in
    let end = sym c.in-None.is ∙ ap (λ (a : Reaction). a.end) c.reaction.view_is in
    let offers = subst (λ e. ComesTo (λ x. x) r m n (OffersAfter e c.args.connection client c.args.packet grants)) end c.offer_each.ensures in
    then_goes (Calls client (λ at. answers c.args.packet (granted_reasons grants)) stays) (λ a. OffersAfter a.end c.args.connection client c.args.packet grants) (λ x. x) r c.args.work.now m n c.in_ok-reaction.reaction d offers

pub returns : goal.returns
returns c =
    let client = c.args.client.now in
    let grants = c.args.grants.now in
    let m = c.answer.new.self in
    let n = c.close_for.new.work in
    let r = c.close_for.result in
    let d = subst (λ xs. Did c.args.work.now m (Calls client (λ at. answers c.args.packet xs) stays (Some c.in_ok-reaction.reaction))) (c.deref.ensures.value ∙ c.in_ok-reasons.ensures.ok) c.in_ok-reaction.ensures in
    let end = sym c.in-Some.is ∙ ap (λ (a : Reaction). a.end) c.reaction.view_is in
    let closed = subst (λ e. ComesTo (λ x. x) r m n (OffersAfter e c.args.connection client c.args.packet grants)) end c.close_for.ensures in
    then_goes (Calls client (λ at. answers c.args.packet (granted_reasons grants)) stays) (λ a. OffersAfter a.end c.args.connection client c.args.packet grants) (λ x. x) r c.args.work.now m n c.in_ok-reaction.reaction d closed
