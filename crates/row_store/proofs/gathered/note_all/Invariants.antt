use Rattle.row_store.specs.Noted.{AreNoted}
use Rattle.row_store.proofs.gathered.note_all.Given as goal

abbrev pub invariant-loop-change : goal.invariant-loop-change
invariant-loop-change l = AreNoted l.kind l.befores.entries l.lefts.entries l.yielded
