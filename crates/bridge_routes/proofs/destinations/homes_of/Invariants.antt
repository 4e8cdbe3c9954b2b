use Rattle.std.proofs.Common.{take}
use Rattle.bridge_routes.specs.Routes.{IsHomeOf, Pairwise}
use Rattle.bridge_routes.proofs.destinations.homes_of.Given as goal

abbrev pub invariant-loop-entry : goal.invariant-loop-entry
invariant-loop-entry l = Pairwise (λ r home. IsHomeOf l.table r.now home) (take l.entry-index l.matching) l.homes.items
