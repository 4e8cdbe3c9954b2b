use Rattle.mqtt_message.proofs.OwnLaws.{own_of_publish}
use Rattle.mqtt_message.proofs.properties.MessageProperties.of_publish.Goals as goal

pub invariant_of-result : goal.invariant_of-result
invariant_of-result c = rw c.in_ok-items.ensures (own_of_publish _ c.requires)
