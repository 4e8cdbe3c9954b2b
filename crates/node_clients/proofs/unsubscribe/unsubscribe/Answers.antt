use Rattle.std.proofs.Common.{ℕ, List, Some, Err, [], sym, subst}
use Rattle.node_work.specs.Held.Calling.{MayAnswer}
use Rattle.node_work.specs.Working.{ComesTo, Did, InTurn}
use Rattle.node_work.proofs.Spelled.{answers_length, unsubscribe_answers}
use Rattle.node_work.proofs.Working.{then_goes, then_stops}
use Rattle.node_clients.specs.Unsubscribing.{SendsUnsuback, Unsubscribed}
use Rattle.node_clients.proofs.unsubscribe.unsubscribe.Goals as goal

pub acknowledge-requires : goal.acknowledge-requires
acknowledge-requires c =
    let p = c.args.request.now in
    let codes = c.in_ok-reasons.reasons.items in
    let One = Unsubscribed c.args.client.now in
    let d = subst (λ fs. Did c.args.work.now c.remove_each.new.work (InTurn One fs [] (Some codes))) c.as_slice.ensures c.in_ok-reasons.ensures in
    subst (MayAnswer p.identifier) (sym c.deref.ensures.value) (unsubscribe_answers p codes c.requires (answers_length One p.filters codes _ _ d.acts d.does))

pub returns-in_err-reasons : goal.returns-in_err-reasons
returns-in_err-reasons c =
    let p = c.args.request.now in
    let client = c.args.client.now in
    let w = c.args.work.now in
    let m = c.remove_each.new.work in
    let fault = c.in_err-reasons.field-0.0 in
    let One = Unsubscribed client in
    let d = subst (λ fs. ComesTo {T = List ℕ} (λ v. v) (Err fault) w m (InTurn One fs [])) c.as_slice.ensures c.in_err-reasons.ensures in
    then_stops (InTurn One p.filters []) (SendsUnsuback c.args.connection client p.identifier) (λ v. v) (λ x. x) c.from_residual.result fault w m c.from_residual.ensures.1 d

pub returns : goal.returns
returns c =
    let p = c.args.request.now in
    let client = c.args.client.now in
    let w = c.args.work.now in
    let m = c.remove_each.new.work in
    let n = c.acknowledge.new.work in
    let r = c.acknowledge.result in
    let codes = c.in_ok-reasons.reasons.items in
    let One = Unsubscribed client in
    let d = subst (λ fs. Did w m (InTurn One fs [] (Some codes))) c.as_slice.ensures c.in_ok-reasons.ensures in
    let sent = subst (λ xs. ComesTo (λ x. x) r m n (SendsUnsuback c.args.connection client p.identifier xs)) c.deref.ensures.value c.acknowledge.ensures in
    then_goes (InTurn One p.filters []) (SendsUnsuback c.args.connection client p.identifier) (λ x. x) r w m n codes d sent
