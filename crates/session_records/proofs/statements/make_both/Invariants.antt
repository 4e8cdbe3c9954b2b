use Rattle.std.proofs.Common.{◌≡◌, take}
use Rattle.sqlite.specs.State.{HasCleanDisk, Survives, KeepsCommit}
use Rattle.sqlite.specs.Held.{state}
use Rattle.session_records.proofs.statements.make_both.Given as goal
use Rattle.session_records.specs.Connections.{GoesOn, IsBegun}
use Rattle.row_store.specs.Rows.{after_all}
use Rattle.session_records.specs.Stored.{IsFormed, held}

abbrev pub invariant-loop-i : goal.invariant-loop-i
invariant-loop-i g l =
    let old = state g.S.Store l.fn.tx.conn.now in
    let now = state g.S.Store l.tx.conn.now in
    record {
      same : l.tx.conn.ghost_name ≡ l.fn.tx.conn.ghost_name;
      survives : Survives old now (λ _. ⊥);
      kept : HasCleanDisk now → KeepsCommit old now;
      goes : HasCleanDisk now → IsBegun old → IsFormed old.now → GoesOn old now (after_all (after_all (held old.now) (take l.i l.first)) (take l.i l.second));
    }
