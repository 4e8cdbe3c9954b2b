use Rattle.row_journal.proofs.calls.make_room.Goals as goal

pub returns-in_err-begin_fold-clause-kept : goal.returns-in_err-begin_fold-clause-kept
returns-in_err-begin_fold-clause-kept g c = λ clean up. c.begin_fold.ensures.kept (g.R.RowStore.content c.args.rows.now) (c.requires.kept clean up)

pub returns-clause-kept : goal.returns-clause-kept
returns-clause-kept g c = λ clean up. c.begin_fold.ensures.kept (g.R.RowStore.content c.args.rows.now) (c.requires.kept clean up)
