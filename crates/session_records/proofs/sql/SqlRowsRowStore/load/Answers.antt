use Rattle.sqlite.specs.Held.{state}
use Rattle.session_records.proofs.Loads.{load_entries}
use Rattle.session_records.proofs.sql.SqlRowsRowStore.load.Goals as goal

pub returns-clause-ok : goal.returns-clause-ok
returns-clause-ok g c =
    let e = c.all_rows.ensures in
    rw (← c.self.view_is) (load_entries (state g.S.Store c.self.inside.conn) (state g.S.Store c.all_rows.new.conn) c.self.invariant.1 e.clean c.all_rows.result e.rows)
