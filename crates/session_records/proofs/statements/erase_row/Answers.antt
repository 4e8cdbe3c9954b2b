use Rattle.std.proofs.Common.{refl}
use Rattle.sqlite.specs.Held.{state}
use Rattle.session_records.proofs.Effects.{erase_goes, keeps_run, begun_of}
use Rattle.session_records.proofs.statements.erase_row.Goals as goal

pub returns-clause-goes : goal.returns-clause-goes
returns-clause-goes g c clean is =
    erase_goes (state g.S.Store c.args.tx.now.conn.now) (state g.S.Store c.execute.new.self.conn.now) (c.args.kind, (c.args.owner.now, c.args.place.now)) c.execute.result (λ was. (_, (c.execute.ensures.ended was).0)) (λ was. rw (c.params-to_sql.ensures, c.params-to_sql-2.ensures, c.params-to_sql-3.ensures, c.from.ensures) at (c.execute.ensures.runs clean was)) is

pub returns-clause-kept : goal.returns-clause-kept
returns-clause-kept g c clean = keeps_run g.S.Store c.args.tx.now.conn.now c.execute.new.self.conn.now _ _ c.execute.result c.args.tx.now.conn.now.in_transaction refl (λ was. (c.execute.ensures.ended was).1) (λ was. c.execute.ensures.runs clean was)

pub returns-clause-begun : goal.returns-clause-begun
returns-clause-begun g c = begun_of c.args.tx.now.conn.now.in_transaction c.execute.result (λ was. (_, (c.execute.ensures.ended was).0))
