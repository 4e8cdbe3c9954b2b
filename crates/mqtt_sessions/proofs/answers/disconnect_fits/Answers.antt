use Rattle.mqtt_sessions.proofs.LengthLaws.{disconnect_fit}
use Rattle.mqtt_sessions.proofs.answers.disconnect_fits.Goals as goal

pub returns : goal.returns
returns c = disconnect_fit c.args.limit c.args.code c.requires
