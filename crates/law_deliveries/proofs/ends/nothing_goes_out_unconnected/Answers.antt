use Rattle.law_deliveries.proofs.EndLaws.{keeps_mute}
use Rattle.law_deliveries.proofs.ends.nothing_goes_out_unconnected.Goals as goal

pub returns : goal.returns
returns c = keeps_mute
