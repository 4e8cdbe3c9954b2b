use Rattle.std.proofs.Common.{Ok, Result, subst}
use Rattle.mqtt_topics.specs.Topics.{IsFilter}
use Rattle.node_work.specs.Working.{Looks, Returns}
use Rattle.node_work.specs.declared.fault.NodeFault.{NodeFault}
use Rattle.node_work.specs.declared.granted.Granted.{Granted}
use Rattle.node_work.proofs.Working.{comes_else, comes_where, did_nothing}
use Rattle.node_clients.specs.Parsing.{IsFilterOf}
use Rattle.node_clients.specs.Subscribing.{GrantsBy, filter_refused, stands}
use Rattle.node_clients.proofs.subscribe.grant.Goals as goal

pub returns-in-Some : goal.returns-in-Some
returns-in-Some c =
    let client = c.args.client.now in
    let f = c.args.asked.now in
    let is = subst (IsFilterOf f.filter) c.in-Some.is c.in_ok-filter.ensures.ok in
    comes_where (λ x. x) c.grant_filter.result c.args.work.now c.grant_filter.new.work (IsFilter f.filter) (Looks (λ p h. stands client f.filter h) (GrantsBy client c.args.identifier f)) (Returns (filter_refused 143)) is.0 c.grant_filter.ensures

pub returns-in-None : goal.returns-in-None
returns-in-None c =
    let w = c.args.work.now in
    let client = c.args.client.now in
    let f = c.args.asked.now in
    let done : Result Granted NodeFault = Ok (filter_refused 143) in
    let is = subst (IsFilterOf f.filter) c.in-None.is c.in_ok-filter.ensures.ok in
    comes_else (λ x. x) done w w (IsFilter f.filter) (Looks (λ p h. stands client f.filter h) (GrantsBy client c.args.identifier f)) (Returns (filter_refused 143)) is (did_nothing w (filter_refused 143))
