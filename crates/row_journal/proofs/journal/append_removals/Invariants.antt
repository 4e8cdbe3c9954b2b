use Rattle.std.proofs.Common.{◌≡◌, ◌++◌, map}
use Rattle.row_store.specs.Noted.{pair_of}
use Rattle.row_journal.specs.Journal.{removals}
use Rattle.row_journal.proofs.journal.append_removals.Given as goal

abbrev pub invariant-loop-at : goal.invariant-loop-at
invariant-loop-at l = map pair_of l.changes.items ≡ map pair_of l.fn.changes.items ++ removals l.at
