use Rattle.mqtt_fields.proofs.BlockLaws.{has_spelling}
use Rattle.mqtt_fields.specs.declared.table.Place.TheVariants as places
use Rattle.session_rows.proofs.WrittenLaws.{begins_either, begins_on, begins_three}
use Rattle.session_rows.proofs.will.put_will.Goals as goal

pub write_properties-requires : goal.write_properties-requires
write_properties-requires c = has_spelling places.Will _ c.requires.properties.fits

pub returns-in_err-put_u8-clause-begins : goal.returns-in_err-put_u8-clause-begins
returns-in_err-put_u8-clause-begins c =
    begins_either c.put_u8.result _ _ _ _ (begins_three _ _ _ _ _ _ _ c.in_ok-write.ensures.ok c.in_ok-put_long.ensures.ok (c.in_ok-write_properties.ensures.ok places.Will)) c.put_u8.ensures.ok c.put_u8.ensures.err

pub returns-clause-begins : goal.returns-clause-begins
returns-clause-begins c =
    begins_either c.put_flag.result _ _ _ _
    (begins_on _ _ _ _ (begins_three _ _ _ _ _ _ _ c.in_ok-write.ensures.ok c.in_ok-put_long.ensures.ok (c.in_ok-write_properties.ensures.ok places.Will)) c.in_ok-put_u8.ensures.ok) c.put_flag.ensures.ok c.put_flag.ensures.err
