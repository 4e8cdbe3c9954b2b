use Rattle.std.proofs.Common.{◌≡◌}
use Rattle.node_rows.proofs.Placing.{IsPlaced}
use Rattle.node_rows.proofs.versions.with_row.Given as goal

abbrev pub invariant-loop-i : goal.invariant-loop-i
invariant-loop-i l = (l.rows.items ≡ l.fn.rows.items) × IsPlaced l.rows.items l.i l.new
