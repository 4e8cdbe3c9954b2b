use Rattle.std.proofs.Common.{◌∙◌, ◌+◌, Err, ap, arith, map, sym, subst, take, drop}
use Rattle.std.proofs.lemmas.Result.{err_from_is_err_and}
use Rattle.row_store.specs.declared.store.RowFault.TheVariants.{BadRow}
use Rattle.row_store.specs.Rows.{entry_of}
use Rattle.row_journal.specs.Reading.{AreTurns, IsRead}
use Rattle.row_journal.proofs.ReadingLaws.{cut_behind, same_fault, taken_more}
use Rattle.row_journal.proofs.reading.read_journal.Goals as goal

pub loop-row-preserved : goal.loop-row-preserved
loop-row-preserved c =
    let rows = c.args.rows.now in
    let i = c.loop-row.row-index in
    let left = c.read_row.new.journal in
    record {
      read = subst (λ rs. IsRead rs left.noted.items left.count) (sym (taken_more rows i c.row-item.result c.loop-row-test.true c.row-item.is))
          (c.in_ok-read_row.ensures.read (map entry_of (take i rows)) c.loop-row.invariant.read);
      few = omega (arith, c.in_ok-read_row.ensures.few, c.loop-row.invariant.few);
    }

pub returns-in_err-read_row-clause-bad : goal.returns-in_err-read_row-clause-bad
returns-in_err-read_row-clause-bad c = λ turns is.
    let p = err_from_is_err_and c.from_residual.result c.from_residual.ensures.1 in
    let rows = c.args.rows.now in
    let i = c.loop-row.row-index in
    c.in_err-read_row.ensures.bad (ap Err (sym p.2 ∙ same_fault p.0 BadRow (sym p.1 ∙ is))) (map entry_of (take i rows)) (map entry_of (drop (i + 1) rows)) c.loop-row.invariant.read
    (subst (λ rs. AreTurns rs) (cut_behind rows i c.row-item.result c.loop-row-test.true c.row-item.is) turns)
