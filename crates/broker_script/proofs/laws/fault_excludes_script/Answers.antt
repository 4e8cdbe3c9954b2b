use Rattle.broker_script.proofs.Scripts.{stops_no_script}
use Rattle.broker_script.proofs.laws.fault_excludes_script.Goals as goal

pub returns : goal.returns
returns c = λ script k commands fault read. stops_no_script script k commands fault.stops read
