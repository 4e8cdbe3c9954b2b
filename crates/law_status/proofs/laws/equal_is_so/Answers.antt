use Rattle.law_status.proofs.Shown.{caught_up_has_all, equal_has_all, equal_has_no_more}
use Rattle.law_status.proofs.laws.equal_is_so.Goals as goal

pub returns : goal.returns
returns c = record { peer = equal_has_all; no_more = equal_has_no_more; all = caught_up_has_all }
