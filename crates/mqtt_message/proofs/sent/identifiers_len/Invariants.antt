use Rattle.std.proofs.Common.{◌≡◌, ◌≤◌, ◌*◌, length, take}
use Rattle.std.specs.Prelude.{map}
use Rattle.mqtt_fields.specs.Block.{properties_bytes}
use Rattle.mqtt_message.specs.Sent.{identifier_property}
use Rattle.mqtt_message.proofs.sent.identifiers_len.Given as goal

abbrev pub invariant-loop-n : goal.invariant-loop-n
invariant-loop-n l = record {
  exact : l.total ≡ length (properties_bytes (map identifier_property (take l.n-index l.identifiers)));
  small : l.total ≤ 5 * l.n-index;
}
