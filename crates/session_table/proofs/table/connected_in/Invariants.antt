use Rattle.std.proofs.Common.{◌≡◌, ◌++◌}
use Rattle.session_table.specs.Listing.{connected_of}
use Rattle.session_table.proofs.table.connected_in.Given as goal

abbrev pub invariant-loop-client : goal.invariant-loop-client
invariant-loop-client l = l.out.items ++ connected_of l.client-iterator ≡ connected_of l.seats.entries
