use Rattle.mqtt_message.proofs.WholeLaws.{read_as_spelled}
use Rattle.mqtt_message.proofs.laws.read_as_spelled.Goals as goal

pub returns : goal.returns
returns c = read_as_spelled
