use Rattle.std.proofs.Common.{ℕ, ◌<◌, get_or}
use Rattle.sqlite_value.specs.Order.{Row}
use Rattle.session_records.proofs.found.have_form.Given as goal
use Rattle.session_records.specs.Stored.{HasForm}

abbrev pub invariant-loop-row : goal.invariant-loop-row
invariant-loop-row l = record { formed : (k : ℕ) (d : Row) → k < l.row-index → HasForm (get_or l.rows k d) }
