use Rattle.std.proofs.Common.{Result, Ok, subst}
use Rattle.node_work.specs.Working.{ComesTo, Returns, If}
use Rattle.node_work.specs.declared.fault.NodeFault.{NodeFault}
use Rattle.node_work.proofs.Working.{then_goes, then_stops, comes_if, comes_if_not, did_nothing}
use Rattle.node_clients.specs.Ending.{PassesAsked, EndsSession, FollowsReaction}
use Rattle.node_clients.proofs.ending.follow.Goals as goal

pub returns-in_err-pass_asked : goal.returns-in_err-pass_asked
returns-in_err-pass_asked c =
    let r = c.reaction.inside in
    let w = c.args.work.now in
    let m = c.pass_asked.new.work in
    subst (λ x. ComesTo (λ x. x) c.from_residual.result w m (FollowsReaction c.args.client.now x)) c.reaction.view_is
    (then_stops (PassesAsked r.ask) (λ _. If r.over (EndsSession c.args.client.now) (Returns tt)) (λ x. x) (λ x. x) c.from_residual.result c.in_err-pass_asked.field-0.0 w m
    c.from_residual.ensures.1 c.in_err-pass_asked.ensures)

pub returns-then-over : goal.returns-then-over
returns-then-over c =
    let r = c.reaction.inside in
    let w = c.args.work.now in
    let m = c.pass_asked.new.work in
    let w' = c.end_session.new.work in
    let Ends = EndsSession c.args.client.now in
    subst (λ x. ComesTo (λ x. x) c.end_session.result w w' (FollowsReaction c.args.client.now x)) c.reaction.view_is
    (then_goes (PassesAsked r.ask) (λ _. If r.over Ends (Returns tt)) (λ x. x) c.end_session.result w m w' tt c.in_ok-pass_asked.ensures
    (comes_if (λ x. x) c.end_session.result m w' r.over Ends (Returns tt) c.if-over.true c.end_session.ensures))

pub returns : goal.returns
returns c =
    let r = c.reaction.inside in
    let w = c.args.work.now in
    let m = c.pass_asked.new.work in
    let Ends = EndsSession c.args.client.now in
    let done : Result (Unit {0}) NodeFault = Ok tt in
    subst (λ x. ComesTo (λ x. x) done w m (FollowsReaction c.args.client.now x)) c.reaction.view_is
    (then_goes (PassesAsked r.ask) (λ _. If r.over Ends (Returns tt)) (λ x. x) done w m m tt c.in_ok-pass_asked.ensures
    (comes_if_not (λ x. x) done m m r.over Ends (Returns tt) c.if-over.false (did_nothing m tt)))
