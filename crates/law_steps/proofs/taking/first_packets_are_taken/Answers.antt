use Rattle.law_steps.proofs.BareLaws.{first_packets_are_taken}
use Rattle.law_steps.proofs.taking.first_packets_are_taken.Goals as goal

pub returns : goal.returns
returns c = first_packets_are_taken
