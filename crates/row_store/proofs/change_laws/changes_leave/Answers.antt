use Rattle.row_store.proofs.Leaving.{changes_leave}
use Rattle.row_store.proofs.change_laws.changes_leave.Goals as goal

pub returns : goal.returns
returns c = changes_leave
