use Rattle.std.proofs.Common.{rules, arith, ◌≡◌, IfErr, refl, subst}
use Rattle.std.proofs.lemmas.Result.{err_from_is_err_and}
use Rattle.std.specs.Result.{OnErr}
use Rattle.sqlite.specs.Held.{state}
use Rattle.sqlite.specs.State.{HasCleanDisk, KeepsCommit}
use Rattle.session_records.specs.Connections.{IsExcused}
use Rattle.session_records.proofs.Causes.{commit_within, excused_within}
use Rattle.session_records.proofs.Effects.{commit_fails, keeps_begun}
use Rattle.session_records.proofs.statements.make_table.Goals as goal

pub returns-clause-err : goal.returns-clause-err
returns-clause-err g c clean up was has =
    let old = c.args.conn.now in
    let mid = c.create_table.new.tx.conn.now in
    let end = c.commit.new.self.0 in
    let begun = c.transaction-tx.ensures.begun in
    let same : end ≡ c.conn-2-1.given.0 = search rules in
    let late : HasCleanDisk (state g.S.Store end) = search rules in
    let later : HasCleanDisk (state g.S.Store mid) = omega (arith, c.commit.ensures.survives.clean) in
    let went = c.in_ok-create_table.ensures.goes later (rw begun has) in
    let kept : KeepsCommit (state g.S.Store old) (state g.S.Store mid) = keeps_begun g.S.Store old (state g.S.Store mid) (rw begun at (c.in_ok-create_table.ensures.kept later)) in
    subst (λ h. OnErr c.commit.result (((state g.S.Store h).now ≡ (state g.S.Store old).committed) × ((state g.S.Store h).committed ≡ (state g.S.Store old).committed))) same
    (commit_fails (state g.S.Store old) (state g.S.Store mid) (state g.S.Store end) c.commit.result kept went.shown.mode (rw same up) (c.commit.ensures.err late))

pub returns-clause-cause : goal.returns-clause-cause
returns-clause-cause g c clean has =
    let old = c.args.conn.now in
    let mid = c.create_table.new.tx.conn.now in
    let end = c.commit.new.self.0 in
    let begun = c.transaction-tx.ensures.begun in
    let same : end ≡ c.conn-2-1.given.0 = search rules in
    let late : HasCleanDisk (state g.S.Store end) = search rules in
    let later : HasCleanDisk (state g.S.Store mid) = omega (arith, c.commit.ensures.survives.clean) in
    let went = c.in_ok-create_table.ensures.goes later (rw begun has) in
    subst (λ h. IfErr c.commit.result (IsExcused (state g.S.Store old) (state g.S.Store h))) same
    (commit_within (state g.S.Store old) (state g.S.Store mid) (state g.S.Store end) c.commit.result went.shown.mode went.shown.is_open (rw begun at c.create_table.ensures.survives.counts) (c.commit.ensures.err late))

pub returns-in_err-create_table-clause-cause : goal.returns-in_err-create_table-clause-cause
returns-in_err-create_table-clause-cause g c clean has =
    let old = c.args.conn.now in
    let mid = c.create_table.new.tx.conn.now in
    let end = c.drop-tx.new.self.0 in
    let begun = c.transaction-tx.ensures.begun in
    let same : end ≡ c.conn-1.given.0 = search rules in
    let late : HasCleanDisk (state g.S.Store end) = search rules in
    let later : HasCleanDisk (state g.S.Store mid) = omega (arith, c.drop-tx.ensures.survives.clean) in
    let p = err_from_is_err_and c.from_residual.result c.from_residual.ensures.1 in
    let x : IsExcused (state g.S.Store old) (state g.S.Store mid) c.in_err-create_table.field-0.0 = rw begun at (c.in_err-create_table.ensures.cause later (rw begun has) (rw begun refl)) in
    let y = excused_within (state g.S.Store old) (state g.S.Store old) (state g.S.Store mid) (state g.S.Store end) c.in_err-create_table.field-0.0 (λ h. h) (omega arith) c.drop-tx.ensures.survives.counts x in
    rw (p.1, p.2) (subst (λ h. IsExcused (state g.S.Store old) (state g.S.Store h) c.in_err-create_table.field-0.0) same y)
