use Rattle.mqtt_fields.proofs.FieldLaws.{read_from_the_left}
use Rattle.mqtt_fields.proofs.field_laws.read_from_the_left.Goals as goal

pub returns : goal.returns
returns c = read_from_the_left
