use Rattle.row_store.proofs.CellLemmas.{fill_shown}
use Rattle.replica_rows.proofs.listing.put_at.Goals as goal

pub returns : goal.returns
returns c = fill_shown c.args.cells.now.entries c.insert.new.self.entries c.args.key c.args.value c.in_ok-insert.ensures.updates.0
