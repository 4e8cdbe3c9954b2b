use Rattle.law_runs.proofs.SubackLaws.{codes_are_exact}
use Rattle.law_runs.proofs.subscribing.codes_are_exact.Goals as goal

pub returns : goal.returns
returns c = codes_are_exact
