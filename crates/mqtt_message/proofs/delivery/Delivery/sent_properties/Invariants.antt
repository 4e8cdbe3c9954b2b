use Rattle.std.proofs.Common.{◌≡◌, ◌++◌, take}
use Rattle.std.specs.Prelude.{map}
use Rattle.mqtt_message.specs.Expiry.{interval_left}
use Rattle.mqtt_message.specs.Sent.{interval_property, identifier_property}
use Rattle.mqtt_message.proofs.delivery.Delivery.sent_properties.Given as goal

abbrev pub invariant-loop-n : goal.invariant-loop-n
invariant-loop-n l =
    l.properties ≡ (l.self.message.properties ++ interval_property (interval_left l.now l.self.message.deadline)) ++ map identifier_property (take l.n-index l.n-items)
