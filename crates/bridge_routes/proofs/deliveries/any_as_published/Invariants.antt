use Rattle.std.proofs.Common.{◌≡◌, drop}
use Rattle.bridge_routes.specs.Deliveries.{any_as_published}
use Rattle.bridge_routes.specs.Tables.{referents}
use Rattle.bridge_routes.proofs.deliveries.any_as_published.Given as goal

abbrev pub invariant-loop-entry : goal.invariant-loop-entry
invariant-loop-entry l = any_as_published (referents (drop l.entry-index l.own)) ≡ any_as_published (referents l.own)
