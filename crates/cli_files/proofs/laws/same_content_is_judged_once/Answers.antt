use Rattle.cli_files.proofs.Looking.{same_is_judged_once}
use Rattle.cli_files.proofs.laws.same_content_is_judged_once.Goals as goal

pub returns : goal.returns
returns c = same_is_judged_once
