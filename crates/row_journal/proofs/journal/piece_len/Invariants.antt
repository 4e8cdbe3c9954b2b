use Rattle.std.proofs.Common.{◌≡◌}
use Rattle.row_journal.proofs.journal.piece_len.Given as goal

abbrev pub invariant-loop-change : goal.invariant-loop-change
invariant-loop-change l = l.count ≡ l.change-index
