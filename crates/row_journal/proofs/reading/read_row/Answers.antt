use Rattle.std.proofs.Common.{eq-eqb}
use Rattle.row_store.specs.Rows.{entry_of}
use Rattle.row_journal.proofs.ReadingLaws.{entry_step, next_entry}
use Rattle.row_journal.proofs.reading.read_row.Goals as goal

pub returns-then-row-clause-read : goal.returns-then-row-clause-read
returns-then-row-clause-read c =
    entry_step c.read_entry.result (entry_of c.args.row.now) c.args.journal.now.noted.items c.read_entry.new.journal.noted.items c.args.journal.now.count c.read_entry.new.journal.count
    c.read_entry.ensures.read c.read_entry.ensures.count

pub returns-then-row-clause-bad : goal.returns-then-row-clause-bad
returns-then-row-clause-bad c = λ is rows rest r a.
    c.read_entry.ensures.bad is _ (next_entry rows rest (entry_of c.args.row.now) c.args.journal.now.noted.items c.args.journal.now.count r (eq-eqb c.args.row.now.kind 240 c.if-row.true) a)
