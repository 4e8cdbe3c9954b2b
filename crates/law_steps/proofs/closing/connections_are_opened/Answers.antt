use Rattle.law_steps.proofs.DueLaws.{connections_are_opened}
use Rattle.law_steps.proofs.closing.connections_are_opened.Goals as goal

pub returns : goal.returns
returns c = connections_are_opened
