use Rattle.law_runs.proofs.SubackLaws.{offers_are_exact}
use Rattle.law_runs.proofs.subscribing.offers_are_exact.Goals as goal

pub returns : goal.returns
returns c = offers_are_exact
