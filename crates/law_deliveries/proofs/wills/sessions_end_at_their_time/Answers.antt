use Rattle.law_deliveries.proofs.OverLaws.{keeps_overs}
use Rattle.law_deliveries.proofs.wills.sessions_end_at_their_time.Goals as goal

pub returns : goal.returns
returns c = keeps_overs
