use Rattle.std.proofs.Common.{map, take}
use Rattle.std.specs.List.{AllByRecursion}
use Rattle.row_store.specs.Rows.{entry_of}
use Rattle.bridge_lanes.specs.Reading.{IsPeers}
use Rattle.bridge_lanes.proofs.reading.count_of.Given as goal

abbrev pub invariant-loop-i : goal.invariant-loop-i
invariant-loop-i l = AllByRecursion (IsPeers l.peer) (map entry_of (take l.i l.rows))
