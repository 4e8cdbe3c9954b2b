use Rattle.std.specs.FinMap as map
use Rattle.session_table.proofs.Taking.{Walks}
use Rattle.session_table.proofs.times.DueTimes.due.Given as goal

abbrev pub invariant-loop-due : goal.invariant-loop-due
invariant-loop-due l = Walks l.now (map.keys l.self) l.out.items l.due-iterator
