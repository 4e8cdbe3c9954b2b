use Rattle.session_table.proofs.Walking.{Seeks}
use Rattle.session_table.proofs.table.elsewhere_in.Given as goal

abbrev pub invariant-loop-client : goal.invariant-loop-client
invariant-loop-client l = Seeks l.homes l.node l.seats.entries l.out.items l.client-iterator
