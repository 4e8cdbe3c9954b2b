use Rattle.std.proofs.Common.{◌≡◌, ◌++◌}
use Rattle.replica_rows.proofs.reading.entries_of.Given as goal

abbrev pub invariant-loop-entry : goal.invariant-loop-entry
invariant-loop-entry l = l.entries.items ++ l.entry-iterator ≡ l.fn.standing.entries
