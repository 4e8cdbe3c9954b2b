use Rattle.std.proofs.Common.{refl}
use Rattle.mqtt_sessions.proofs.LengthLaws.{puback_length}
use Rattle.mqtt_sessions.proofs.answers.puback.Goals as goal

pub returns-clause-measured : goal.returns-clause-measured
returns-clause-measured c = λ limit _. rw (c.ack_length.ensures, c.ack.ensures, puback_length c.args.id c.args.code) refl
