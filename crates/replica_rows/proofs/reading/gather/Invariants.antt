use Rattle.std.proofs.Common.{◌≡◌, ◌⊎◌, map, drop}
use Rattle.row_store.specs.Rows.{entry_of}
use Rattle.replica_rows.specs.Memory.{FirstWants}
use Rattle.replica_rows.specs.ReadingSteps.{said}
use Rattle.replica_rows.proofs.Told.{IsGathered}
use Rattle.replica_rows.proofs.reading.gather.Given as goal

abbrev pub invariant-loop-row : goal.invariant-loop-row
invariant-loop-row l = record {
  gathered : IsGathered (map entry_of l.rows) (map entry_of (drop l.row-index l.rows)) (said l.parts);
  begun : (l.row-index ≡ 0) ⊎ FirstWants l.rows;
}
