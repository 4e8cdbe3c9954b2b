use Rattle.std.proofs.Common.{◌≡◌, ◌+◌}
use Rattle.row_journal.specs.Spelling.{common_end}
use Rattle.row_journal.proofs.EndLaws.{left_in}
use Rattle.row_journal.proofs.ends.common_end.Given as goal

abbrev pub invariant-loop-n : goal.invariant-loop-n
invariant-loop-n l = common_end l.xs l.ys ≡ l.n + left_in l.n l.xs l.ys
