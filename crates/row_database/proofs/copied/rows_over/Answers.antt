use Rattle.std.proofs.Common.{◌≡◌, ◌∙◌, Err, inl, inr, ap}
use Rattle.std.proofs.lemmas.Result.{IfOk-weaker}
use Rattle.std.specs.FinMap.{entries}
use Rattle.row_journal.specs.Journal.{shown}
use Rattle.session_records.specs.Stored.{held}
use Rattle.sqlite.specs.Files.{file_state}
use Rattle.row_database.specs.declared.fault.OpenFault.TheVariants.{Foreign}
use Rattle.row_database.specs.Opening.{fault_of_rows}
use Rattle.row_database.proofs.Copies.{never_dirty, bad_row, rows_answer}
use Rattle.row_database.proofs.copied.rows_over.Goals as goal

pub returns-in-Ok-open-clause-rows : goal.returns-in-Ok-open-clause-rows
returns-in-Ok-open-clause-rows g c honest =
    let clean = never_dirty g.D.Disk honest in
    let conn = c.in-Ok.rows.0 in
    let up = c.in-Ok.ensures.open (clean conn) in
    let now = c.in-Ok-open.rows.0.0 in
    IfOk-weaker c.rows_in.result _ _
    (λ loaded is. (held (file_state conn).committed, c.in-Ok.ensures.adopts (clean conn), is ∙ ap (λ rows. entries (shown rows)) (c.in-Ok-open.ensures.content (clean now) up)))
    (c.rows_in.ensures.loaded (λ rows. clean rows.0.0) (c.in-Ok-open.ensures.open (clean now) up))

pub returns-in-Ok-open-clause-foreign : goal.returns-in-Ok-open-clause-foreign
returns-in-Ok-open-clause-foreign g c honest is =
    let clean = never_dirty g.D.Disk honest in
    let up = c.in-Ok.ensures.open (clean c.in-Ok.rows.0) in
    absurd (c.rows_in.ensures.formed (λ rows. clean rows.0.0) (c.in-Ok-open.ensures.open (clean c.in-Ok-open.rows.0.0) up) is)

pub returns-in-Ok-clause-foreign : goal.returns-in-Ok-clause-foreign
returns-in-Ok-clause-foreign g c honest is =
    let clean = never_dirty g.D.Disk honest in
    let conn = c.in-Ok.rows.0 in
    let up = c.in-Ok.ensures.open (clean conn) in
    let told = c.fault_of_rows.ensures in
    let foreign : fault_of_rows c.in-Err-open.fault ≡ Foreign = cc in
    inr (held (file_state conn).committed, c.in-Ok.ensures.adopts (clean conn), c.in-Err-open.ensures.bad (clean c.in-Err-open.field-0-1.0) up (bad_row c.in-Err-open.fault foreign))

pub returns-clause-foreign : goal.returns-clause-foreign
returns-clause-foreign g c honest is =
    let told = c.fault_of_rows-in-Err.ensures in
    let foreign : fault_of_rows c.in-Err.fault ≡ Foreign = cc in
    inl (c.in-Err.ensures.foreign (never_dirty g.D.Disk honest) (ap Err (bad_row c.in-Err.fault foreign)))

pub returns-in-Ok-clause-named : goal.returns-in-Ok-clause-named
returns-in-Ok-clause-named g c = rw c.fault_of_rows.ensures (rows_answer c.in-Err-open.fault)
