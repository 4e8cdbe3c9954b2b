use Rattle.law_causes.proofs.GotLaws.{got_stays_true}
use Rattle.law_causes.proofs.gots.got_stays_true.Goals as goal

pub returns : goal.returns
returns c = got_stays_true
