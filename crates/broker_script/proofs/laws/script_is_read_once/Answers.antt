use Rattle.broker_script.proofs.Scripts.{one_reading}
use Rattle.broker_script.proofs.laws.script_is_read_once.Goals as goal

pub returns : goal.returns
returns c = one_reading
