use Rattle.std.proofs.Common.{refl, ℕ, [], Result, Ok, Err, IfErr}
use Rattle.sqlite.specs.declared.error.Error.{Error}
use Rattle.sqlite.specs.State.{ExecutesInside}
use Rattle.session_records.specs.Connections.{IsExcused}
use Rattle.session_records.proofs.Means.{create_text}
use Rattle.session_records.proofs.Causes.{create_excused}
use Rattle.sqlite.specs.Held.{state}
use Rattle.session_records.proofs.Effects.{create_goes, keeps_run}
use Rattle.session_records.proofs.statements.create_table.Goals as goal

pub returns-clause-goes : goal.returns-clause-goes
returns-clause-goes g c clean has =
    create_goes (state g.S.Store c.args.tx.now.conn.now) (state g.S.Store c.execute.new.self.conn.now) c.execute.result (λ was. (_, (c.execute.ensures.ended was).0)) (λ was. c.execute.ensures.runs clean was) has

pub returns-clause-kept : goal.returns-clause-kept
returns-clause-kept g c clean = keeps_run g.S.Store c.args.tx.now.conn.now c.execute.new.self.conn.now _ _ c.execute.result c.args.tx.now.conn.now.in_transaction refl (λ was. (c.execute.ensures.ended was).1) (λ was. c.execute.ensures.runs clean was)

pub returns-clause-cause : goal.returns-clause-cause
returns-clause-cause g c clean has begun = fails_of c.execute.result (c.execute.ensures.runs clean begun)
  where
    fails_of : (r : Result ℕ Error) → ExecutesInside 0 create_text [] (state g.S.Store c.args.tx.now.conn.now) (state g.S.Store c.execute.new.self.conn.now) r → IfErr r (IsExcused (state g.S.Store c.args.tx.now.conn.now) (state g.S.Store c.execute.new.self.conn.now))
    fails_of (Ok count) ran = tt
    fails_of (Err e) ran = create_excused (state g.S.Store c.args.tx.now.conn.now) (state g.S.Store c.execute.new.self.conn.now) e has ran
