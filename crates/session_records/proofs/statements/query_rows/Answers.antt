use Rattle.std.proofs.Common.{[], Result, Ok, Err, IfOk, IfErr, None, Vec, Global, T, map, ◌≡◌}
use Rattle.std.specs.List.{All}
use Rattle.std.specs.List.Sorted.{IsPermutation}
use Rattle.std.specs.FinMap.{is_sorted}
use Rattle.sqlite_value.specs.Order.{Row}
use Rattle.sqlite.specs.declared.error.Error.{Error}
use Rattle.sqlite.specs.State.{State, Shown, FailsToQuery}
use Rattle.sqlite.specs.Held.{state}
use Rattle.row_store.specs.Rows.{key_cmp}
use Rattle.session_records.specs.Stored.{IsFormed, IsShown, entry_in, entry_shown}
use Rattle.session_records.specs.Connections.{IsExcused}
use Rattle.session_records.specs.Table.{rows_schema}
use Rattle.session_records.proofs.Causes.{all_excused}
use Rattle.session_records.proofs.Means.{all_text, all_plain}
use Rattle.session_records.proofs.Loads.{plain_text, shown_rows}
use Rattle.session_records.proofs.Orders.{shown_ordered}
use Rattle.session_records.proofs.statements.query_rows.Goals as goal

module _ (old new : State) where
  rows_of : (r : Result (Vec Row Global) Error) → old.now.schema ≡ rows_schema → IfOk r (λ v. Shown all_text [] old new v.items) → IfOk r (λ v. IsPermutation (map entry_in (old.now.trees 0)) (map entry_shown v.items))
  rows_of (Ok v) has shown = shown_rows old new v.items has shown
  rows_of (Err e) has shown = tt

  formed_of : (r : Result (Vec Row Global) Error) → IsFormed old.now → IfOk r (λ v. Shown all_text [] old new v.items) → IfOk r (λ v. All IsShown v.items × T (is_sorted key_cmp (map entry_shown v.items)))
  formed_of (Ok v) is shown = shown_ordered old new v.items is shown
  formed_of (Err e) is shown = tt

  cause_of : (r : Result (Vec Row Global) Error) → old.now.schema ≡ rows_schema → old.step_limit ≡ None → IfErr r (FailsToQuery all_text [] old new) → IfErr r (IsExcused old new)
  cause_of (Ok v) has free fails = tt
  cause_of (Err e) has free fails = all_excused old new e has free fails

pub returns-clause-cause : goal.returns-clause-cause
returns-clause-cause g c clean has free = cause_of (state g.S.Store c.args.conn.now) (state g.S.Store c.ask.new.conn) c.ask.result has free (c.ask.ensures.fails clean)

pub returns-clause-rows : goal.returns-clause-rows
returns-clause-rows g c clean has = rows_of (state g.S.Store c.args.conn.now) (state g.S.Store c.ask.new.conn) c.ask.result has (c.ask.ensures.shown clean)

pub returns-clause-formed : goal.returns-clause-formed
returns-clause-formed g c clean is = formed_of (state g.S.Store c.args.conn.now) (state g.S.Store c.ask.new.conn) c.ask.result is (c.ask.ensures.shown clean)

pub returns-clause-same : goal.returns-clause-same
returns-clause-same g c clean has = c.ask.ensures.same clean (plain_text all_text (state g.S.Store c.args.conn.now) has all_plain)

pub returns-clause-stays : goal.returns-clause-stays
returns-clause-stays g c clean has = c.ask.ensures.stays clean (plain_text all_text (state g.S.Store c.args.conn.now) has all_plain)

pub returns-clause-survives : goal.returns-clause-survives
returns-clause-survives g c has = c.ask.ensures.survives (plain_text all_text (state g.S.Store c.args.conn.now) has all_plain)
