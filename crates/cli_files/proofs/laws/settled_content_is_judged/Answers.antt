use Rattle.cli_files.proofs.Looking.{settled_is_judged}
use Rattle.cli_files.proofs.laws.settled_content_is_judged.Goals as goal

pub returns : goal.returns
returns c = settled_is_judged
