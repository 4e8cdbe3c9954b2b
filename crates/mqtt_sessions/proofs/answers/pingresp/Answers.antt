use Rattle.std.proofs.Common.{refl}
use Rattle.mqtt_sessions.proofs.LengthLaws.{pingresp_length}
use Rattle.mqtt_sessions.proofs.answers.pingresp.Goals as goal

pub returns-clause-measured : goal.returns-clause-measured
returns-clause-measured c = λ limit _. rw pingresp_length refl
