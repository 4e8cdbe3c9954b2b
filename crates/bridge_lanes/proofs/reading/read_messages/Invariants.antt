use Rattle.std.proofs.Common.{◌+◌, suc, map, take}
use Rattle.row_store.specs.Rows.{entry_of}
use Rattle.bridge_lanes.specs.Reading.{AreMessages}
use Rattle.bridge_lanes.proofs.reading.read_messages.Given as goal

abbrev pub invariant-loop-i : goal.invariant-loop-i
invariant-loop-i l = AreMessages l.peer (suc l.base) (map entry_of (take l.i l.rows)) l.messages.items
