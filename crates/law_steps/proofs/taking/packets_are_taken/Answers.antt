use Rattle.law_steps.proofs.TakenLaws.{packets_are_taken}
use Rattle.law_steps.proofs.taking.packets_are_taken.Goals as goal

pub returns : goal.returns
returns c = packets_are_taken
