use Rattle.law_sessions.proofs.DurableLaws.{stays-durable}
use Rattle.law_sessions.proofs.saved.stays_durable.Goals as goal

pub returns : goal.returns
returns c = stays-durable
