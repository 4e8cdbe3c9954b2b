use Rattle.broker_script.proofs.Scripts.{stops_once}
use Rattle.broker_script.proofs.laws.first_fault_is_unique.Goals as goal

pub returns : goal.returns
returns c = λ script j k one other. stops_once script j k one.stops other.stops
