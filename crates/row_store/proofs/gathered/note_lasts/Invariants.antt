use Rattle.row_store.specs.Noted.{AreLast}
use Rattle.row_store.proofs.gathered.note_lasts.Given as goal

abbrev pub invariant-loop-change : goal.invariant-loop-change
invariant-loop-change l = AreLast l.lasts.entries l.yielded
