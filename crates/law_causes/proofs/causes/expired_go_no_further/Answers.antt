use Rattle.law_causes.proofs.Expiring.{expired_go_no_further}
use Rattle.law_causes.proofs.causes.expired_go_no_further.Goals as goal

pub returns : goal.returns
returns c = expired_go_no_further
