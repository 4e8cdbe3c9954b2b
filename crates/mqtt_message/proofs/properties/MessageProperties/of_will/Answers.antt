use Rattle.mqtt_message.proofs.OwnLaws.{own_of_will}
use Rattle.mqtt_message.proofs.properties.MessageProperties.of_will.Goals as goal

pub invariant_of-result : goal.invariant_of-result
invariant_of-result c = rw c.in_ok-items.ensures (own_of_will _ c.requires)
