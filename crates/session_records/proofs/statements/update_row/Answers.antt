use Rattle.sqlite.specs.Held.{state}
use Rattle.session_records.proofs.Updates.{updated}
use Rattle.session_records.proofs.statements.update_row.Goals as goal

pub returns-clause-goes : goal.returns-clause-goes
returns-clause-goes g c clean is =
    updated (state g.S.Store c.args.tx.now.conn.now) (state g.S.Store c.move_row.new.tx.conn.now) (c.args.kind, (c.args.owner.now, c.args.place.now)) c.args.value.now c.move_row.result (c.move_row.ensures.goes clean is)
