use Rattle.std.proofs.Common.{◌≡◌, ◌++◌, take}
use Rattle.std.specs.Prelude.{map as map_list}
use Rattle.bridge_routes.specs.Deliveries.{offer_of}
use Rattle.node_clients.proofs.offer.add_offers.Given as goal

abbrev pub invariant-loop-message : goal.invariant-loop-message
invariant-loop-message l = l.offers.items ≡ l.fn.offers.items ++ map_list (λ m. offer_of l.asked.options l.asked.identifiers m.now) (take l.message-index l.message-items)
