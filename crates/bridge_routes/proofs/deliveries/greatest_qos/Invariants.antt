use Rattle.std.proofs.Common.{◌≡◌, max, drop}
use Rattle.bridge_routes.specs.Deliveries.{greatest_qos}
use Rattle.bridge_routes.specs.Tables.{referents}
use Rattle.bridge_routes.proofs.deliveries.greatest_qos.Given as goal

abbrev pub invariant-loop-entry : goal.invariant-loop-entry
invariant-loop-entry l = max l.greatest (greatest_qos (referents (drop l.entry-index l.own))) ≡ greatest_qos (referents l.own)
