use Rattle.row_journal.proofs.ReadingLaws.{journaled_turns, read_noted}
use Rattle.row_journal.proofs.TopsLaws.{covers_rows}
use Rattle.row_store.specs.Rows.{entry_of}
use Rattle.std.proofs.Common.{◌∙◌, Err, ap, map, sym}
use Rattle.std.proofs.lemmas.Result.{err_from_is_err_and}
use Rattle.row_journal.proofs.reading.journal_of.Goals as goal

pub returns-clause-kept : goal.returns-clause-kept
returns-clause-kept c = λ d are.
    let j = c.in_ok-journal.journal in
    record {
      journal = read_noted d (map entry_of c.args.rows.now) j.noted.items j.count are c.in_ok-journal.ensures.few c.in_ok-journal.ensures.read;
      covers = covers_rows c.take_rows.new.tops.entries d c.args.rows.now are c.in_ok-take_rows.ensures.taken;
    }

pub returns-in_err-journal-clause-bad : goal.returns-in_err-journal-clause-bad
returns-in_err-journal-clause-bad c = λ d are journaled is.
    let p = err_from_is_err_and c.from_residual.result c.from_residual.ensures.1 in
    c.in_err-journal.ensures.bad (journaled_turns d (map entry_of c.args.rows.now) are journaled) (ap Err (sym p.2) ∙ sym p.1 ∙ is)
