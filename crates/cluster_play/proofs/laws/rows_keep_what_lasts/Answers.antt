use Rattle.cluster_play.proofs.Keeping.{faults_leave_rows, keeps_operations, restarts_with_what_lasts, rows_of_held, rows_of_node}
use Rattle.cluster_play.proofs.laws.rows_keep_what_lasts.Goals as goal

pub returns : goal.returns
returns c = record { held = rows_of_held; operations = keeps_operations; node = rows_of_node; restarts = restarts_with_what_lasts; faults = faults_leave_rows }
