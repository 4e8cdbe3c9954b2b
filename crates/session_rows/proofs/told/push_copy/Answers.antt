use Rattle.session_rows.proofs.ToldLaws.{pushed-put}
use Rattle.session_rows.proofs.told.push_copy.Goals as goal

pub returns-clause-ok : goal.returns-clause-ok
returns-clause-ok c = pushed-put _ _ c.in_ok-copy_row.field-0 _ _ _ _ c.in-Some.entry.now c.in_ok-push-2.ensures.items c.in_ok-copy_row.ensures c.in-Some.ensures
