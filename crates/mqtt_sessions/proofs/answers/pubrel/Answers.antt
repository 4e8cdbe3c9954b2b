use Rattle.std.proofs.Common.{refl}
use Rattle.mqtt_sessions.proofs.LengthLaws.{pubrel_length}
use Rattle.mqtt_sessions.proofs.answers.pubrel.Goals as goal

pub returns-clause-measured : goal.returns-clause-measured
returns-clause-measured c = λ limit _. rw (c.ack_length.ensures, c.ack.ensures, pubrel_length c.args.id c.args.code) refl
