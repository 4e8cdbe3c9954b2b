use Rattle.std.proofs.Common.{refl}
use Rattle.mqtt_sessions.proofs.LengthLaws.{pubrec_length}
use Rattle.mqtt_sessions.proofs.answers.pubrec.Goals as goal

pub returns-clause-measured : goal.returns-clause-measured
returns-clause-measured c = λ limit _. rw (c.ack_length.ensures, c.ack.ensures, pubrec_length c.args.id c.args.code) refl
