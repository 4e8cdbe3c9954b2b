use Rattle.std.proofs.Common.{length, List, true≢false, sym, ap, ◌∙◌}
use Rattle.std.specs.Prelude.{◌==◌}
use Rattle.row_store.specs.declared.row.Row.{Row}
use Rattle.std.proofs.lemmas.Result.{err_from_is_err_and}
use Rattle.node_rows.proofs.Counted.{next_row}
use Rattle.node_rows.proofs.Reached.{begun, goes_on, handed, some_left, stops, told_so}
use Rattle.node_rows.proofs.sessions.read_sessions.Goals as goal

pub loop-row-init : goal.loop-row-init
loop-row-init c = begun c.args.own.now c.args.copies.now c.new-sessions.result c.new-sessions.ensures

pub returns-in_err-client : goal.returns-in_err-client
returns-in_err-client c =
    let p = err_from_is_err_and c.from_residual.result c.from_residual.ensures.1 in
    let next = next_row c.args.own.now c.loop-row.rest.now c.split_at.result.0.now c.split_at.result.1.now c.loop-row.row-index c.count_of.result c.row-item.result c.deref.result.now c.loop-row-test.true c.row-item.is c.deref.ensures.value c.split_at.ensures.by_index.0 c.split_at.ensures.front c.split_at.ensures.back c.count_of.ensures.own c.count_of.ensures.others in
    handed _ _ _ c.from_residual.result c.in_err-client.field-0.0 p.0 p.1 p.2 (stops c.args.own.now c.args.copies.now c.loop-row.row-index c.row-item.result c.loop-row.rest.now c.split_at.result.0.now c.split_at.result.1.now c.loop-row.sessions c.requires c.loop-row.invariant next) c.in_err-client.ensures

pub insert-requires : goal.insert-requires
insert-requires c = told_so _ c.in_ok-client.client c.in_ok-client.session c.in_ok-client.ensures

pub loop-row-preserved : goal.loop-row-preserved
loop-row-preserved c =
    let next = next_row c.args.own.now c.loop-row.rest.now c.split_at.result.0.now c.split_at.result.1.now c.loop-row.row-index c.count_of.result c.row-item.result c.deref.result.now c.loop-row-test.true c.row-item.is c.deref.ensures.value c.split_at.ensures.by_index.0 c.split_at.ensures.front c.split_at.ensures.back c.count_of.ensures.own c.count_of.ensures.others in
    goes_on c.args.own.now c.args.copies.now c.loop-row.row-index c.row-item.result c.loop-row.rest.now c.split_at.result.0.now c.split_at.result.1.now c.loop-row.sessions c.requires c.loop-row.invariant next c.in_ok-client.client c.in_ok-client.session c.insert.new.self c.in_ok-client.ensures c.in-Ok.ensures.ok

pub returns-then-not-is_empty : goal.returns-then-not-is_empty
returns-then-not-is_empty c =
    some_left c.args.own.now c.args.copies.now c.loop-row.row-index c.loop-row.rest.now c.loop-row.sessions c.loop-row.invariant c.loop-row-test.false
    (λ none. true≢false (sym (c.is_empty.ensures ∙ ap (λ (rs : List Row). length rs == 0) none) ∙ c.if-not-is_empty.true))
