use Rattle.std.proofs.Common.{◌≡◌, ℕ, ◌<◌, ◌+◌, get_or, Less}
use Rattle.row_store.specs.declared.row.Row.{Row}
use Rattle.row_store.specs.Rows.{key_cmp, key_of}
use Rattle.row_store.proofs.row.are_rising.Given as goal

abbrev pub invariant-loop-i : goal.invariant-loop-i
invariant-loop-i l = record { rising : (k : ℕ) (d : Row) → k + 1 < l.i → key_cmp (key_of (get_or l.rows k d)) (key_of (get_or l.rows (k + 1) d)) ≡ Less }
