use Rattle.std.proofs.Common.{sym, ◌∙◌, true≢false}
use Rattle.std.specs.FinMap as map
use Rattle.row_store.specs.Cells.{shown}
use Rattle.row_store.specs.Rows.{after_all}
use Rattle.replica_rows.proofs.Empty.{below_nothing, nothing_below, nothing_listed}
use Rattle.replica_rows.proofs.Ordered.{rows_listed}
use Rattle.replica_rows.proofs.listing.rows.Goals as goal

pub returns-clause-rows : goal.returns-clause-rows
returns-clause-rows c = rows_listed (shown c.in_ok-cells.cells.entries) (after_all map.empty c.in_ok-puts.puts.items) c.args.store.now c.rows_in.result c.in_ok-cells.ensures.cells c.in_ok-puts.ensures.lead c.rows_in.ensures.rows

pub returns-then-is_below-clause-rows : goal.returns-then-is_below-clause-rows
returns-then-is_below-clause-rows c = nothing_listed _ c.args.store.now c.new.ensures.items (nothing_below c.args.store.now c.new-none.result c.new-none.ensures (c.is_below.ensures.0 c.if-is_below.true))

pub returns-in_err-puts-clause-none : goal.returns-in_err-puts-clause-none
returns-in_err-puts-clause-none c = λ same. absurd (true≢false (sym (c.is_below.ensures.1 (below_nothing c.args.store.now c.new-none.result c.new-none.ensures same)) ∙ c.if-is_below.false))

pub returns-in_err-cells-clause-none : goal.returns-in_err-cells-clause-none
returns-in_err-cells-clause-none c = λ same. absurd (true≢false (sym (c.is_below.ensures.1 (below_nothing c.args.store.now c.new-none.result c.new-none.ensures same)) ∙ c.if-is_below.false))

pub returns-clause-none : goal.returns-clause-none
returns-clause-none c = λ same. absurd (true≢false (sym (c.is_below.ensures.1 (below_nothing c.args.store.now c.new-none.result c.new-none.ensures same)) ∙ c.if-is_below.false))
