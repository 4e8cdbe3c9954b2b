use Rattle.std.proofs.Common.{◌≡◌, ℕ, ◌<◌, ◌+◌, get_or, Less}
use Rattle.sqlite_value.specs.Order.{Row, value_cmp}
use Rattle.sqlite_trees.specs.Tree.{rowid}
use Rattle.session_records.proofs.found.are_numbered.Given as goal

abbrev pub invariant-loop-i : goal.invariant-loop-i
invariant-loop-i l = record { rising : (k : ℕ) (d : Row) → k + 1 < l.i → value_cmp (rowid (get_or l.rows k d)) (rowid (get_or l.rows (k + 1) d)) ≡ Less }
