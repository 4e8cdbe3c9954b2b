use Rattle.mqtt_fields.proofs.VbiLaws.{one_spelling}
use Rattle.mqtt_fields.proofs.field_laws.one_spelling.Goals as goal

pub returns : goal.returns
returns c = one_spelling
