use Rattle.std.proofs.Common.{take}
use Rattle.std.specs.List.{AllByRecursion}
use Rattle.row_journal.specs.Tops.{AllowsRow, Grows}
use Rattle.row_journal.proofs.tops.take_rows.Given as goal

abbrev pub invariant-loop-row : goal.invariant-loop-row
invariant-loop-row l = record {
  grows : Grows l.fn.tops.entries l.tops.entries;
  taken : AllByRecursion (AllowsRow l.tops.entries) (take l.row-index l.rows);
}
