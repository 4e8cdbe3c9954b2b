use Rattle.law_runs.proofs.HoldingLaws.{holdings_are_counts}
use Rattle.law_runs.proofs.holding.holdings_are_counts.Goals as goal

pub returns : goal.returns
returns c = holdings_are_counts
