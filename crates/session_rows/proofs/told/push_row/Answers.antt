use Rattle.session_rows.proofs.ToldLaws.{pushed-row}
use Rattle.session_rows.proofs.told.push_row.Goals as goal

pub returns : goal.returns
returns c = pushed-row _ _ c.in_ok-copy_row.field-0 _ _ _ c.in-Some.entry.now c.in_ok-push.ensures.items c.in_ok-copy_row.ensures c.in-Some.ensures
