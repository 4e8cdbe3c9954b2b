use Rattle.std.proofs.Common.{subst}
use Rattle.row_journal.specs.Journal.{IsNoted}
use Rattle.row_journal.proofs.CallLaws.{loaded, noted_none}
use Rattle.row_journal.proofs.calls.load_rows.Goals as goal

pub returns-clause-made : goal.returns-clause-made
returns-clause-made g c =
    let mid = c.fold.new.rows in
    let left = c.fold.new.journal in
    let made = c.load.ensures in
    loaded g.R.RowStore c.args.rows.now mid c.load.new.self c.load.result c.in_ok-fold.ensures.made
    (λ clean up. noted_none (g.R.RowStore.content mid) left.noted.items (subst (λ k. IsNoted (g.R.RowStore.content mid) left.noted.items k) c.in_ok-fold.ensures.empty (c.in_ok-fold.ensures.kept clean up).journal))
    made.ok made.same made.crash made.rows made.stays_open made.was_clean made.was_open
