use Rattle.std.proofs.Common.{map as map_list, take}
use Rattle.std.specs.List.{AllByRecursion}
use Rattle.row_store.specs.Rows.{entry_of}
use Rattle.node_rows.specs.Sessions.{IsOf}
use Rattle.node_rows.proofs.sessions.count_of.Given as goal

abbrev pub invariant-loop-i : goal.invariant-loop-i
invariant-loop-i l = AllByRecursion (IsOf l.owner) (map_list entry_of (take l.i l.rows))
