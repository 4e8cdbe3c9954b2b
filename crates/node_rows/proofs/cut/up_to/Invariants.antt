use Rattle.std.proofs.Common.{◌≤◌, map as map_list, take}
use Rattle.std.specs.List.{AllByRecursion}
use Rattle.row_store.specs.Rows.{entry_of}
use Rattle.node_rows.proofs.cut.up_to.Given as goal

abbrev pub invariant-loop-i : goal.invariant-loop-i
invariant-loop-i l = AllByRecursion (λ e. e.0.0 ≤ l.kind) (map_list entry_of (take l.i l.rows))
