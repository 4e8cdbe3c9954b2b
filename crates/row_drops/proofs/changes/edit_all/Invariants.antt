use Rattle.std.proofs.Common.{◌≡◌, ◌++◌, drop, map}
use Rattle.bridge_lanes.specs.Changes.{left_of}
use Rattle.row_store.specs.Rows.{entry_of}
use Rattle.row_drops.specs.Dropping.{edit}
use Rattle.row_drops.specs.Editing.{edits}
use Rattle.row_drops.proofs.changes.edit_all.Given as goal

-- with those of the rows that are left, all are there
abbrev pub invariant-loop-row : goal.invariant-loop-row
invariant-loop-row l = map left_of l.changes.items ++ edits (edit l.target) (map entry_of (drop l.row-index l.rows)) ≡ edits (edit l.target) (map entry_of l.rows)
