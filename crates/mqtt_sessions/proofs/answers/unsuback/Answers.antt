use Rattle.mqtt_sessions.proofs.LengthLaws.{unsuback_fit}
use Rattle.mqtt_sessions.proofs.answers.unsuback.Goals as goal

pub returns-clause-measured : goal.returns-clause-measured
returns-clause-measured c = λ limit le. rw (c.list_length-length.ensures, c.as_slice.ensures.value, c.reasons.ensures) (unsuback_fit c.args.id limit c.args.codes.items le)
