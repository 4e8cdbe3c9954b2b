use Rattle.std.proofs.Common.{◌∷◌, Some, arith, subst, sym}
use Rattle.node_work.specs.Working.{Did, Each}
use Rattle.node_work.proofs.Working.{Reaches, did_nothing, reaches_comes, reaches_then, then_stops}
use Rattle.node_clients.specs.Subscribing.{OffersOne}
use Rattle.node_clients.proofs.Copying.{none_left}
use Rattle.node_clients.proofs.offer.queue_each.Goals as goal

pub loop-offer-preserved : goal.loop-offer-preserved
loop-offer-preserved c =
    let One = OffersOne c.args.client.now in
    let w = c.args.work.now in
    let P = Each One c.args.offers.items in
    let rest = c.next.new.self.rest.items in
    let left = subst (λ xs. Reaches w P c.loop-offer.work (Each One xs)) c.in-Some.ensures.steps.0 c.loop-offer.invariant in
    reaches_then w c.loop-offer.work c.queue_one.new.work P (One c.in-Some.offer) (λ _. Each One rest) tt left c.in_ok-queue_one.ensures

pub returns-in_err-queue_one : goal.returns-in_err-queue_one
returns-in_err-queue_one c =
    let One = OffersOne c.args.client.now in
    let w = c.args.work.now in
    let m = c.loop-offer.work in
    let n = c.queue_one.new.work in
    let r = c.from_residual.result in
    let P = Each One c.args.offers.items in
    let rest = c.next.new.self.rest.items in
    let left = subst (λ xs. Reaches w P c.loop-offer.work (Each One xs)) c.in-Some.ensures.steps.0 c.loop-offer.invariant in
    reaches_comes (λ x. x) r w m n P (Each One (c.in-Some.offer ∷ rest)) left
    (then_stops (One c.in-Some.offer) (λ _. Each One rest) (λ x. x) (λ x. x) r c.in_err-queue_one.field-0.0 m n c.from_residual.ensures.1 c.in_err-queue_one.ensures)

pub returns : goal.returns
returns c =
    let One = OffersOne c.args.client.now in
    let m = c.loop-offer.work in
    let none = none_left c.loop-offer.offer-iterator.rest.items (let h = c.in-None.ensures.steps in let k = c.loop-offer.offer-iterator.rest.ok in omega arith) in
    c.loop-offer.invariant (Some tt) m (subst (λ xs. Did m m (Each One xs (Some tt))) (sym none) (did_nothing m tt))
