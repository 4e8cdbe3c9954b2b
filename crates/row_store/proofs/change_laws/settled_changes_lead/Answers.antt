use Rattle.row_store.proofs.Leaving.{settled_lead}
use Rattle.row_store.proofs.change_laws.settled_changes_lead.Goals as goal

pub returns : goal.returns
returns c = settled_lead
