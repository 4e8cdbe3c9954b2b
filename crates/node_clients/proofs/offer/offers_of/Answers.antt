use Rattle.std.proofs.Common.{refl, subst}
use Rattle.std.proofs.lemmas.List.{take_all}
use Rattle.std.specs.FinMap as map
use Rattle.node_work.specs.Offers.{AreOffered}
use Rattle.node_clients.proofs.Offering.{offered_next}
use Rattle.node_clients.proofs.offer.offers_of.Goals as goal

pub loop-each-preserved : goal.loop-each-preserved
loop-each-preserved c =
    let h = c.args.work.now.held in
    let o = c.in_ok-add_asked.ensures.ok in
    offered_next h.at (map.entries h.store.retained) c.args.grants.now c.loop-each.each-index c.each-item.result c.loop-each.offers.items c.add_asked.new.offers.items o.0 c.loop-each-test.true c.each-item.is c.loop-each.invariant o.1 o.2

pub returns-clause-ok : goal.returns-clause-ok
returns-clause-ok c =
    let h = c.args.work.now.held in
    (refl, subst (λ gs. AreOffered h.at (map.entries h.store.retained) gs c.loop-each.offers.items) (take_all _ _ c.loop-each-test.false) c.loop-each.invariant)
