use Rattle.std.proofs.Common.{drop, map as map_list, take}
use Rattle.row_store.specs.Rows.{entry_of}
use Rattle.node_rows.proofs.Walked.{IsWalked}
use Rattle.node_rows.proofs.sessions.read_sessions.Given as goal

abbrev pub invariant-loop-row : goal.invariant-loop-row
invariant-loop-row l =
    IsWalked (map_list entry_of l.own) (map_list entry_of l.copies) (map_list entry_of (take l.row-index l.own)) (map_list entry_of (drop l.row-index l.own)) (map_list entry_of l.rest) l.sessions
