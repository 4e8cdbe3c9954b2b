use Rattle.node_work.specs.Acts.{Acknowledged}
use Rattle.node_work.specs.Working.{Acting, Each}
use Rattle.node_work.proofs.Working.{comes_finds, then_goes}
use Rattle.node_clients.specs.Subscribing.{AreOffers, OffersEach, OffersOne}
use Rattle.node_clients.proofs.offer.offer_each.Goals as goal

pub returns : goal.returns
returns c =
    let client = c.args.client.now in
    let grants = c.args.grants.now in
    let w = c.args.work.now in
    let m = c.acknowledge.new.self in
    let n = c.queue_each.new.work in
    let r = c.queue_each.result in
    let offers = c.in_ok-offers.offers.items in
    let are = c.in_ok-offers.ensures.ok in
    comes_finds (λ x. x) r w n (AreOffers grants) (OffersEach client c.args.packet grants) offers are
    (then_goes (Acting (λ p h. Acknowledged client c.args.packet h.at grants offers)) (λ _. Each (OffersOne client) offers) (λ x. x) r w m n tt (c.in_ok-acknowledge.ensures.comes client c.args.packet grants offers are) c.queue_each.ensures)
