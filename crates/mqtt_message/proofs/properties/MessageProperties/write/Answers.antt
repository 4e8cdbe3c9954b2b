use Rattle.mqtt_fields.specs.declared.table.Place.TheVariants as places
use Rattle.mqtt_fields.proofs.BlockLaws.{has_spelling}
use Rattle.mqtt_message.proofs.properties.MessageProperties.write.Goals as goal

pub write_properties-requires : goal.write_properties-requires
write_properties-requires c = has_spelling places.Publish c.self.inside.items c.self.invariant.fits
