use Rattle.std.proofs.Common.{◌≡◌, ◌++◌}
use Rattle.std.specs.FinMap as map
use Rattle.session_table.proofs.times.DueTimes.into_pairs.Given as goal

abbrev pub invariant-loop-due : goal.invariant-loop-due
invariant-loop-due l = l.out.items ++ l.due-iterator ≡ map.keys l.fn.self
