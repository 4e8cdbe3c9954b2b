use Rattle.law_deliveries.proofs.EndLaws.{keeps_end_codes}
use Rattle.law_deliveries.proofs.ends.ends_have_their_codes.Goals as goal

pub returns : goal.returns
returns c = keeps_end_codes
