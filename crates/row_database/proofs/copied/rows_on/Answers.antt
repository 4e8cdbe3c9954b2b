use Rattle.std.proofs.lemmas.Result.{IfOk-weaker}
use Rattle.sqlite.specs.Files.{file_state, image_of}
use Rattle.row_database.proofs.Copies.{clean_left, never_dirty, other}
use Rattle.row_database.proofs.Found.{is_found}
use Rattle.row_database.proofs.copied.rows_on.Goals as goal

pub returns-in-Ok-clause-rows : goal.returns-in-Ok-clause-rows
returns-in-Ok-clause-rows g c honest =
    let clean = never_dirty g.D.Disk honest c.in-Ok.conn in
    let opened = c.in-Ok.ensures.opened clean in
    let inside = is_found (image_of g.D.Disk c.args.files) (file_state c.in-Ok.conn) opened (c.in-Ok.ensures.found clean).holds (c.in-Ok.ensures.found clean).reads in
    IfOk-weaker c.rows_over.result _ _ (λ rows shown. (shown.0, record { database = (file_state c.in-Ok.conn).now; is_in = inside; are_its = shown.1 }, shown.2))
    (c.rows_over.ensures.rows honest)

pub returns-in-Ok-clause-foreign : goal.returns-in-Ok-clause-foreign
returns-in-Ok-clause-foreign g c honest is =
    let clean = never_dirty g.D.Disk honest c.in-Ok.conn in
    let opened = c.in-Ok.ensures.opened clean in
    let found = c.in-Ok.ensures.found clean in
    ((file_state c.in-Ok.conn).now, is_found (image_of g.D.Disk c.args.files) (file_state c.in-Ok.conn) opened found.holds found.reads, c.rows_over.ensures.foreign honest is)

pub returns-clause-named : goal.returns-clause-named
returns-clause-named g c honest =
    let told = other _ _ _ _ _ c.in-Err.error (c.in-Err.ensures.cause (clean_left g.D.Disk honest c.in-Err.field-0-1)) in
    rw c.fault_of_error.ensures told
