use Rattle.std.proofs.Common.{◌≡◌, ◌≤◌, ◌-◌, length, drop}
use Rattle.sqlite.specs.State.{HasCleanDisk, Survives, KeepsCommit}
use Rattle.sqlite.specs.Held.{state}
use Rattle.session_records.proofs.statements.make_changes.Given as goal
use Rattle.session_records.specs.Connections.{GoesOn, IsBegun}
use Rattle.row_store.specs.Rows.{after_all}
use Rattle.session_records.specs.Stored.{IsFormed, held}

abbrev pub decreases-loop-made : goal.decreases-loop-made
decreases-loop-made g l = length l.changes - l.made

abbrev pub invariant-loop-made : goal.invariant-loop-made
invariant-loop-made g l =
    let old = state g.S.Store l.fn.tx.conn.now in
    let now = state g.S.Store l.tx.conn.now in
    record {
      within : l.made ≤ length l.changes;
      same : l.tx.conn.ghost_name ≡ l.fn.tx.conn.ghost_name;
      survives : Survives old now (λ _. ⊥);
      kept : HasCleanDisk now → KeepsCommit old now;
      goes : HasCleanDisk now → IsBegun old → IsFormed old.now → GoesOn old now (held now.now);
      left : HasCleanDisk now → IsBegun old → IsFormed old.now → after_all (held now.now) (drop l.made l.changes) ≡ after_all (held old.now) l.changes;
    }
