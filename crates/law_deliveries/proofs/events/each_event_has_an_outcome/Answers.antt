use Rattle.law_deliveries.proofs.OutcomeLaws.{keeps_outcome}
use Rattle.law_deliveries.proofs.events.each_event_has_an_outcome.Goals as goal

pub returns : goal.returns
returns c = keeps_outcome
