use Rattle.std.proofs.Common.{◌+◌, inl, inr, map, drop, refl, rules}
use Rattle.std.specs.FinMap as maps
use Rattle.std.proofs.lemmas.Result.{err_from_is_err_and}
use Rattle.causal_context.specs.Dots.{dot_cmp}
use Rattle.row_store.specs.Rows.{entry_of}
use Rattle.replica_rows.specs.Memory.{FirstWants, RowWants}
use Rattle.replica_rows.specs.ReadingSteps.{said}
use Rattle.replica_rows.proofs.Told.{none_gathered, one_gathered, all_gathered, next_row, no_rows, row_stops}
use Rattle.replica_rows.proofs.Wanting.{first_wants, all_begun}
use Rattle.replica_rows.proofs.reading.gather.Goals as goal

pub loop-row-init : goal.loop-row-init
loop-row-init c =
    record {
      gathered = none_gathered (map entry_of c.args.rows.now) _ (λ i. record { taken = c.new.ensures i; seen = c.new-2.ensures i; standing = maps.from_entries {R = dot_cmp} (c.new-3.ensures.empty i); retained = c.new-4.ensures i }) c.requires;
      begun = inl refl;
    }

pub returns-in_err-take-clause-bad : goal.returns-in_err-take-clause-bad
returns-in_err-take-clause-bad c =
    let p = err_from_is_err_and c.from_residual.result c.from_residual.ensures.1 in
    row_stops c.args.rows.now (map entry_of (drop c.loop-row.row-index c.args.rows.now)) (map entry_of (drop (c.loop-row.row-index + 1) c.args.rows.now)) (entry_of c.row-item.result) (said c.loop-row.parts)
    (next_row c.args.rows.now c.loop-row.row-index c.row-item.result c.loop-row-test.true c.row-item.is) c.loop-row.invariant.gathered c.from_residual.result c.in_err-take.field-0.0 p.0 p.1 p.2 c.in_err-take.ensures.bad

pub loop-row-preserved : goal.loop-row-preserved
loop-row-preserved c =
    record {
      gathered = one_gathered (map entry_of c.args.rows.now) (map entry_of (drop c.loop-row.row-index c.args.rows.now)) _ (entry_of c.row-item.result) (said c.loop-row.parts) (said c.take.new.parts)
          (next_row c.args.rows.now c.loop-row.row-index c.row-item.result c.loop-row-test.true c.row-item.is) c.in_ok-take.ensures.ok c.loop-row.invariant.gathered;
      begun = inr (first_wants c.args.rows.now c.loop-row.row-index c.row-item.result c.loop-row-test.true c.row-item.is c.loop-row.invariant.begun c.in_ok-take.ensures.begun);
    }

pub returns-clause-ok : goal.returns-clause-ok
returns-clause-ok c = all_gathered (map entry_of c.args.rows.now) (map entry_of (drop c.loop-row.row-index c.args.rows.now)) (said c.loop-row.parts) (no_rows c.args.rows.now c.loop-row.row-index c.loop-row-test.false) c.loop-row.invariant.gathered

pub returns-in_err-take-clause-no_memory : goal.returns-in_err-take-clause-no_memory
returns-in_err-take-clause-no_memory c =
    let wants : RowWants (entry_of c.row-item.result) → FirstWants c.args.rows.now = first_wants c.args.rows.now c.loop-row.row-index c.row-item.result c.loop-row-test.true c.row-item.is c.loop-row.invariant.begun in
    search (rules, wants)

pub returns-clause-begun : goal.returns-clause-begun
returns-clause-begun c = all_begun c.args.rows.now c.loop-row.row-index c.loop-row-test.false c.loop-row.invariant.begun
