use Rattle.row_store.specs.Rows.{after_all}
use Rattle.row_journal.specs.Journal.{shown}
use Rattle.row_journal.proofs.CallLaws.{after_fold, applied, plainly_covers, plainly_kept, plainly_made}
use Rattle.row_journal.proofs.calls.make_plainly.Goals as goal

pub returns-clause-made : goal.returns-clause-made
returns-clause-made g c =
    let mid = c.fold.new.rows in
    let left = c.fold.new.journal in
    let changes = c.args.changes.now in
    let made = c.apply.ensures in
    after_fold g.R.RowStore c.args.rows.now mid c.apply.new.self c.apply.result changes c.in_ok-fold.ensures.made
    (applied g.R.RowStore mid c.apply.new.self c.apply.result changes (after_all (shown (g.R.RowStore.content mid)) changes)
    (plainly_made g.R.RowStore mid left.noted.items changes left.count c.in_ok-fold.ensures.empty c.requires.plain (λ clean up. (c.in_ok-fold.ensures.kept clean up).journal))
    made.ok made.err made.crash made.rows made.was_clean made.was_open)

pub returns-clause-kept : goal.returns-clause-kept
returns-clause-kept g c = λ clean up.
    let made = c.apply.ensures in
    let left = c.fold.new.journal in
    record {
      journal = plainly_kept g.R.RowStore c.fold.new.rows c.apply.new.self c.apply.result left.noted.items c.args.changes.now left.count c.in_ok-fold.ensures.empty c.requires.plain
          (λ clean up. (c.in_ok-fold.ensures.kept clean up).journal) made.ok made.err made.was_clean made.was_open clean up;
      covers = plainly_covers g.R.RowStore c.fold.new.rows c.apply.new.self c.apply.result c.args.changes.now left.tops.entries c.take_changes.new.tops.entries c.take_changes.ensures.grows c.in_ok-take_changes.ensures.taken
          (λ clean up. (c.in_ok-fold.ensures.kept clean up).covers) made.ok made.err made.was_clean made.was_open clean up;
    }
