use Rattle.std.proofs.Common.{arith}
use Rattle.mqtt_fields.specs.declared.table.Place.TheVariants as places
use Rattle.mqtt_fields.specs.Field.{IsBytes}
use Rattle.mqtt_fields.proofs.BlockLaws.{properties_is}
use Rattle.mqtt_message.proofs.properties.MessageProperties.at.Goals as goal

-- what is read as a block may stand there, and each property was looked at
pub invariant_of-result : goal.invariant_of-result
invariant_of-result c =
    let bytes : IsBytes c.args.bytes.now = λ i. omega (arith, c.type_inv.bytes i) in
    record {
      fits = ((properties_is places.Publish).takes c.args.bytes.now (c.in-Ok.items, c.in-Ok.rest.now) bytes c.in-Ok.ensures.exact).1;
      each = rw (← c.as_slice.ensures, ← c.are_allowed.ensures) c.if-not-are_allowed.false;
    }
