use Rattle.law_sessions.proofs.DurableLaws.{opens}
use Rattle.law_sessions.proofs.saved.durable_rows_open.Goals as goal

pub returns : goal.returns
returns c = opens
