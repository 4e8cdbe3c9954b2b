use Rattle.std.proofs.Common.{◌<◌, ◌++◌, drop, length}
use Rattle.row_journal.specs.Repeats.{AreMarked}
use Rattle.row_journal.specs.Tops.{Leaves}
use Rattle.row_journal.proofs.repeats.left_of.Given as goal

abbrev pub invariant-loop-i : goal.invariant-loop-i
invariant-loop-i l = record {
  some : 0 < length l.marks;
  marked : AreMarked l.marks l.out.items;
  leaves : Leaves l.tops.entries (l.out.items ++ drop l.i l.changes) l.changes;
}
