use Rattle.law_steps.proofs.TellingLaws.{clients_are_sent_on}
use Rattle.law_steps.proofs.tables.clients_are_sent_on.Goals as goal

pub returns : goal.returns
returns c = clients_are_sent_on
