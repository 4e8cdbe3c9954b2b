use Rattle.mqtt_sessions.proofs.LengthLaws.{suback_fit}
use Rattle.mqtt_sessions.proofs.answers.suback.Goals as goal

pub returns-clause-measured : goal.returns-clause-measured
returns-clause-measured c = λ limit le. rw (c.list_length-length.ensures, c.as_slice.ensures.value, c.reasons.ensures) (suback_fit c.args.id limit c.args.codes.items le)
