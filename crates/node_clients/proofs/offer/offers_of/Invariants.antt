use Rattle.std.proofs.Common.{take}
use Rattle.std.specs.FinMap as map
use Rattle.node_work.specs.Offers.{AreOffered}
use Rattle.node_clients.proofs.offer.offers_of.Given as goal

abbrev pub invariant-loop-each : goal.invariant-loop-each
invariant-loop-each l = AreOffered l.work.held.at (map.entries l.work.held.store.retained) (take l.each-index l.grants) l.offers.items
