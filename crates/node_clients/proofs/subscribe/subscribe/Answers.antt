use Rattle.std.proofs.Common.{◌≡◌, true, List, Some, Err, [], sym, subst, ◌∙◌}
use Rattle.std.specs.List.{AllByRecursion}
use Rattle.mqtt_packets.specs.declared.subscribe.SubscribeFilter.{SubscribeFilter}
use Rattle.subscription_set.specs.Entries.{can_be_asked}
use Rattle.node_work.specs.declared.granted.Granted.{Granted}
use Rattle.node_work.specs.Held.Calling.{MayAnswer}
use Rattle.node_work.specs.Working.{ComesTo, Did, InTurn}
use Rattle.node_work.proofs.Spelled.{answers_length, map_length, subscribe_answers}
use Rattle.node_work.proofs.Working.{then_goes, then_stops}
use Rattle.node_clients.specs.Subscribing.{SendsSuback, Grants, identifier_of, granted_reasons}
use Rattle.node_clients.proofs.Asking.{asked_each}
use Rattle.node_clients.proofs.subscribe.subscribe.Goals as goal

pub grant_each-requires : goal.grant_each-requires
grant_each-requires c =
    let p = c.args.request.now in
    subst (λ n. AllByRecursion (λ (f : SubscribeFilter). can_be_asked f.options n ≡ true) c.as_slice.result.now) (sym c.identifier_of-identifier.ensures)
    (subst (λ (fs : List SubscribeFilter). AllByRecursion (λ (f : SubscribeFilter). can_be_asked f.options (identifier_of p) ≡ true) fs) (sym c.as_slice.ensures) (asked_each p c.requires))

pub acknowledge-requires : goal.acknowledge-requires
acknowledge-requires c =
    let p = c.args.request.now in
    let gs = c.in_ok-grants.grants.items in
    let One = Grants c.args.client.now c.identifier_of-identifier.result in
    let d = subst (λ fs. Did c.args.work.now c.grant_each.new.work (InTurn One fs [] (Some gs))) c.as_slice.ensures c.in_ok-grants.ensures in
    subst (λ xs. MayAnswer p.identifier (granted_reasons xs)) (sym c.deref.ensures.value)
    (subscribe_answers p (granted_reasons gs) c.requires (map_length (λ (g : Granted). g.reason) gs ∙ answers_length One p.filters gs _ _ d.acts d.does))

pub returns-in_err-grants : goal.returns-in_err-grants
returns-in_err-grants c =
    let p = c.args.request.now in
    let client = c.args.client.now in
    let w = c.args.work.now in
    let m = c.grant_each.new.work in
    let fault = c.in_err-grants.field-0.0 in
    let d = subst (λ k. ComesTo {T = List Granted} (λ v. v) (Err fault) w m (InTurn (Grants client k) p.filters [])) c.identifier_of-identifier.ensures
    (subst (λ fs. ComesTo {T = List Granted} (λ v. v) (Err fault) w m (InTurn (Grants client c.identifier_of-identifier.result) fs [])) c.as_slice.ensures c.in_err-grants.ensures) in
    then_stops (InTurn (Grants client (identifier_of p)) p.filters []) (SendsSuback c.args.connection client p.identifier) (λ v. v) (λ x. x) c.from_residual.result fault w m c.from_residual.ensures.1 d

pub returns : goal.returns
returns c =
    let p = c.args.request.now in
    let client = c.args.client.now in
    let w = c.args.work.now in
    let m = c.grant_each.new.work in
    let n = c.acknowledge.new.work in
    let r = c.acknowledge.result in
    let gs = c.in_ok-grants.grants.items in
    let d = subst (λ k. Did w m (InTurn (Grants client k) p.filters [] (Some gs))) c.identifier_of-identifier.ensures
    (subst (λ fs. Did w m (InTurn (Grants client c.identifier_of-identifier.result) fs [] (Some gs))) c.as_slice.ensures c.in_ok-grants.ensures) in
    let sent = subst (λ xs. ComesTo (λ x. x) r m n (SendsSuback c.args.connection client p.identifier xs)) c.deref.ensures.value c.acknowledge.ensures in
    then_goes (InTurn (Grants client (identifier_of p)) p.filters []) (SendsSuback c.args.connection client p.identifier) (λ x. x) r w m n gs d sent
