use Rattle.node_work.specs.Working.{Each}
use Rattle.node_work.proofs.Working.{Reaches}
use Rattle.node_clients.specs.Subscribing.{OffersOne}
use Rattle.node_clients.proofs.offer.queue_each.Given as goal

abbrev pub invariant-loop-offer : goal.invariant-loop-offer
invariant-loop-offer l = Reaches l.fn.work (Each (OffersOne l.client) l.fn.offers.items) l.work (Each (OffersOne l.client) l.offer-iterator.rest.items)
