use Rattle.std.proofs.Common.{◌≡◌, ◌∷◌, map as map_list, take}
use Rattle.row_store.specs.Rows.{entry_of}
use Rattle.node_rows.proofs.sessions.rows_of.Given as goal

abbrev pub invariant-loop-row : goal.invariant-loop-row
invariant-loop-row l = map_list entry_of l.rows.items ≡ entry_of l.fn.own ∷ map_list entry_of (take l.row-index l.copies)
