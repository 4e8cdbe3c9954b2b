use Rattle.sqlite.specs.Files.{file_state}
use Rattle.sqlite.specs.State.{HasCleanDisk}
use Rattle.sqlite.specs.WalFiles.{image_at}
use Rattle.std.proofs.Common.{ap}
use Rattle.row_journal.specs.Journal.{shown}
use Rattle.session_records.specs.Stored.{held}
use Rattle.row_database.proofs.Found.{rows_in}
use Rattle.row_database.proofs.open_rows.Goals as goal

pub returns-in-Ok-open-clause-rows : goal.returns-in-Ok-open-clause-rows
returns-in-Ok-open-clause-rows g c clean =
    let opened = file_state c.in-Ok.conn in
    let table = c.in-Ok-adopt.rows in
    let kept = c.in-Ok-open.ensures.was_clean clean in
    let early : HasCleanDisk opened = c.in-Ok-adopt.ensures.was_clean kept in
    let is = c.in-Ok.ensures.opened early in
    let found = rows_in (image_at g.S.Start) opened (file_state table.0) is.0 is.1 (c.in-Ok.ensures.found early) (c.in-Ok-adopt.ensures.adopts kept) in
    (held (file_state table.0).committed, found, ap shown (c.in-Ok-open.ensures.content clean (c.in-Ok-adopt.ensures.open kept)))
