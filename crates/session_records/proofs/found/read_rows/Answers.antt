use Rattle.std.proofs.Common.{rules}
use Rattle.session_records.specs.Stored.{IsShown}
use Rattle.row_store.proofs.Neighbours.{here}
use Rattle.session_records.proofs.found.read_rows.Goals as goal

pub returns-in-Err-clause-formed : goal.returns-in-Err-clause-formed
returns-in-Err-clause-formed c all =
    let read = c.read_row.ensures.formed (here IsShown c.args.found.now c.loop-row.row-index c.row-item.result (search rules) (search rules) all) in
    search (rules, read)
