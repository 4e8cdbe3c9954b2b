use Rattle.std.proofs.Common.{rules, arith, ◌≡◌, inr, map, refl, sym, ap, ◌∙◌, Result, Err, None}
use Rattle.std.proofs.lemmas.Result.{err_from_is_err_and}
use Rattle.sqlite.specs.Effect.{Database}
use Rattle.sqlite.specs.Held.{state}
use Rattle.sqlite.specs.State.{HasCleanDisk}
use Rattle.row_store.specs.Rows.{entry_of}
use Rattle.row_store.specs.declared.store.RowFault.{RowFault}
use Rattle.row_store.specs.declared.store.RowFault.TheVariants.{Device}
use Rattle.session_records.specs.Table.{rows_schema}
use Rattle.session_records.proofs.Causes.{disk_within}
use Rattle.session_records.proofs.Orders.{found_formed}
use Rattle.session_records.proofs.sql.take_table.Goals as goal

pub returns-in_ok-all_rows-in-Ok-true-clause-ok : goal.returns-in_ok-all_rows-in-Ok-true-clause-ok
returns-in_ok-all_rows-in-Ok-true-clause-ok g c clean =
    let old = state g.S.Store c.args.conn.now in
    let mid = state g.S.Store c.has_form.new.conn in
    let new = state g.S.Store c.all_rows.new.conn in
    let early : HasCleanDisk mid = omega (arith, clean, c.all_rows.ensures.clean) in
    let has : old.now.schema ≡ rows_schema = sym c.schema-2.ensures.value ∙ c.is_ours.ensures.0 (search rules) in
    let one = c.in-Ok-true.ensures.same early has in
    let still : mid.now.schema ≡ rows_schema = ap (λ (d : Database). d.schema) one.now ∙ has in
    let rows = c.in_ok-all_rows-in-Ok-true.ensures.rows clean still in
    found_formed old mid new has (c.is_autocommit.ensures.settled (search rules)) ((c.in-Ok-true.ensures.typed early has).0 (search rules)) one (map entry_of c.in_ok-all_rows-in-Ok-true.field-0.items) rows.0 rows.1
    (c.in_ok-all_rows-in-Ok-true.ensures.same clean still (inr refl))

pub returns-in_err-all_rows-in-Ok-true-clause-cause : goal.returns-in_err-all_rows-in-Ok-true-clause-cause
returns-in_err-all_rows-in-Ok-true-clause-cause g c clean free device =
    let old = state g.S.Store c.args.conn.now in
    let mid = state g.S.Store c.has_form.new.conn in
    let new = state g.S.Store c.all_rows.new.conn in
    let early : HasCleanDisk mid = omega (arith, clean, c.all_rows.ensures.clean) in
    let has : old.now.schema ≡ rows_schema = sym c.schema-2.ensures.value ∙ c.is_ours.ensures.0 (search rules) in
    let one = c.in-Ok-true.ensures.same early has in
    let still : mid.now.schema ≡ rows_schema = ap (λ (d : Database). d.schema) one.now ∙ has in
    let limit : c.has_form.new.conn.step_limit ≡ None = c.has_form.ensures.limit ∙ free in
    let p = err_from_is_err_and c.from_residual.result c.from_residual.ensures.1 in
    let ends : ◌≡◌ {A = Result (Unit {0}) RowFault} (Err p.0) (Err Device) = sym p.1 ∙ device in
    let is : p.0 ≡ Device = cc in
    let told = c.in_err-all_rows-in-Ok-true.was ∙ ap Err (sym p.2 ∙ is) in
    disk_within old mid new new (λ shut. absurd (let f = sym one.is_open ∙ shut in cc)) (c.has_form.ensures.survives has).counts (omega arith) (c.all_rows.ensures.cause clean still limit told)
