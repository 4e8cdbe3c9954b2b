use Rattle.std.proofs.Common.{take}
use Rattle.std.specs.List.{AllByRecursion}
use Rattle.row_journal.specs.Tops.{Allows, Grows}
use Rattle.row_journal.proofs.tops.take_changes.Given as goal

abbrev pub invariant-loop-change : goal.invariant-loop-change
invariant-loop-change l = record {
  grows : Grows l.fn.tops.entries l.tops.entries;
  taken : AllByRecursion (Allows l.tops.entries) (take l.change-index l.changes);
}
