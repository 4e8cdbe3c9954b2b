use Rattle.mqtt_sessions.proofs.SpelledLaws.{connack_spelled}
use Rattle.mqtt_sessions.proofs.answers.connack.Goals as goal

pub returns-clause-spelled : goal.returns-clause-spelled
returns-clause-spelled c = rw c.in_ok-connack.ensures (connack_spelled c.args.present c.args.given.now c.args.client.now c.assigned_length-length.ensures.text)
