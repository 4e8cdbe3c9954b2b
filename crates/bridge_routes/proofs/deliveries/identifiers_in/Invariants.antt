use Rattle.std.proofs.Common.{◌≡◌, drop, flat_map}
use Rattle.mqtt_message.specs.Identifiers.{identifiers_of}
use Rattle.bridge_routes.specs.Ascending.{put_numbers}
use Rattle.bridge_routes.specs.Deliveries.{identifiers_in}
use Rattle.bridge_routes.specs.Tables.{referents}
use Rattle.bridge_routes.proofs.deliveries.identifiers_in.Given as goal

abbrev pub invariant-loop-entry : goal.invariant-loop-entry
invariant-loop-entry l = put_numbers (flat_map (λ e. identifiers_of e.identifier) (referents (drop l.entry-index l.own))) l.numbers.items ≡ identifiers_in (referents l.own)
