use Rattle.law_deliveries.proofs.BusyLaws.{keeps_busy_told}
use Rattle.law_deliveries.proofs.quota.nothing_is_held_back_told.Goals as goal

pub returns : goal.returns
returns c = keeps_busy_told
