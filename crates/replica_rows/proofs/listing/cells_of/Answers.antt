use Rattle.std.proofs.Common.{arith, ap, ◌<◌, length}
use Rattle.std.specs.FinMap as map
use Rattle.std.specs.Vec.Iter.{into_iter_items}
use Rattle.row_store.specs.Cells.{shown}
use Rattle.row_store.specs.Rows.{after_all}
use Rattle.mqtt_message.proofs.RoomLaws.{on_err}
use Rattle.replica_bytes.proofs.Loops.{no_items}
use Rattle.replica_rows.proofs.Ordered.{one_made, all_made}
use Rattle.replica_rows.proofs.listing.cells_of.Goals as goal

pub loop-change-preserved : goal.loop-change-preserved
loop-change-preserved c = record {
  made = one_made (shown c.loop-change.cells.entries) (shown c.put_in.new.cells.entries) (after_all map.empty c.args.changes.items) (into_iter_items c.loop-change.change-iterator) (into_iter_items c.next.new.self) c.in-Some.change c.in-Some.ensures.steps.0
      c.in_ok-put_in.ensures c.loop-change.invariant.made;
  left = let step = ap length c.in-Some.ensures.steps.0 in let left = c.loop-change.invariant.left in omega (arith, step, left);
}

pub returns-clause-cells : goal.returns-clause-cells
returns-clause-cells c = all_made (shown c.loop-change.cells.entries) (after_all map.empty c.args.changes.items) (into_iter_items c.loop-change.change-iterator) (no_items c.loop-change.change-iterator.rest.items (let h = c.in-None.ensures.steps in let k = c.loop-change.change-iterator.rest.ok in omega arith)) c.loop-change.invariant.made

pub returns-in_err-put_in-clause-memory : goal.returns-in_err-put_in-clause-memory
returns-in_err-put_in-clause-memory c = let step = ap length c.in-Some.ensures.steps.0 in let left = c.loop-change.invariant.left in on_err c.from_residual.result (0 < length c.args.changes.items) (omega (arith, step, left))
