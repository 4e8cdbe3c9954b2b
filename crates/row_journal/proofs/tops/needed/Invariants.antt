use Rattle.row_journal.specs.Tops.{IsNeeded}
use Rattle.row_journal.proofs.tops.needed.Given as goal

abbrev pub invariant-loop-change : goal.invariant-loop-change
invariant-loop-change l = IsNeeded l.tops.entries l.out.items l.yielded
