use Rattle.std.proofs.Common.{◌++◌, ◌∷◌, map, append-nil, sym, ap, ◌∙◌}
use Rattle.row_store.specs.Cells.{filled}
use Rattle.row_store.specs.Rows.{entry_of}
use Rattle.mqtt_message.proofs.RoomLaws.{on_err}
use Rattle.row_store.specs.Cells.{shown}
use Rattle.row_store.proofs.Sorted.{entries_filled}
use Rattle.replica_rows.proofs.Ordered.{some_filled}
use Rattle.replica_rows.proofs.listing.rows_in.Goals as goal

pub returns-clause-rows : goal.returns-clause-rows
returns-clause-rows c =
    sym (append-nil _) ∙ ap (λ cells. map entry_of c.loop-key.rows.items ++ filled cells) (sym c.in-None.ensures.steps.0) ∙ c.loop-key.invariant.listed ∙ entries_filled c.args.cells.entries c.into_iter-key-iterator.ensures.into_iter_gives.5

pub returns-in_err-push-clause-memory : goal.returns-in_err-push-clause-memory
returns-in_err-push-clause-memory c =
    on_err c.from_residual.result _ (some_filled (shown c.args.cells.entries) c.loop-key.rows.items c.loop-key.key-iterator c.next.new.self c.args.cells.entries c.in-Some.key c.in-Some-cell.value (c.in-Some.ensures.steps ∙ ap (λ cell. (c.in-Some.key, cell) ∷ c.next.new.self) c.in-Some-cell.is)
    c.loop-key.invariant.listed (entries_filled c.args.cells.entries c.into_iter-key-iterator.ensures.into_iter_gives.5))
