use Rattle.std.proofs.Common.{◌≡◌, ◌++◌, map, take}
use Rattle.row_store.specs.Rows.{entry_of}
use Rattle.bridge_lanes.specs.Rows.{each, waiting_of}
use Rattle.bridge_deltas.proofs.links.add_messages.Given as goal

abbrev pub invariant-loop-peer : goal.invariant-loop-peer
invariant-loop-peer l = map entry_of l.out.items ≡ map entry_of l.fn.out.items ++ each (λ p k. waiting_of p k.lane) 0 (take l.peer l.lanes.items)
