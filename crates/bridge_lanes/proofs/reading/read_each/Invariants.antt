use Rattle.std.proofs.Common.{map}
use Rattle.row_store.specs.Rows.{entry_of}
use Rattle.bridge_lanes.specs.Reading.{lane_in}
use Rattle.bridge_lanes.proofs.Cuts.{IsReading}
use Rattle.bridge_lanes.proofs.reading.read_each.Given as goal

abbrev pub invariant-loop-peer : goal.invariant-loop-peer
invariant-loop-peer l = IsReading l.nodes l.peer (map entry_of l.messages) (map entry_of l.numbers) (map lane_in l.lanes.items) (map entry_of l.left) (map entry_of l.last)
