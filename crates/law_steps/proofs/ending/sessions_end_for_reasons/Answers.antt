use Rattle.law_steps.proofs.OverLaws.{sessions_end_for_reasons}
use Rattle.law_steps.proofs.ending.sessions_end_for_reasons.Goals as goal

pub returns : goal.returns
returns c = sessions_end_for_reasons
