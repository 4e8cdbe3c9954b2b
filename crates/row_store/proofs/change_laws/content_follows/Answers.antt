use Rattle.row_store.proofs.Leaving.{content_follows}
use Rattle.row_store.proofs.change_laws.content_follows.Goals as goal

pub returns : goal.returns
returns c = content_follows
