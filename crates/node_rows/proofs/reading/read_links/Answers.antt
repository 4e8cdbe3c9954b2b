use Rattle.std.proofs.Common.{true≢false, map as map_list, sym, arith, ◌∙◌}
use Rattle.std.proofs.lemmas.Result.{err_from_is_err_and}
use Rattle.row_store.specs.Rows.{entry_of}
use Rattle.node_rows.proofs.Lanes.{not_to_others, to_others}
use Rattle.node_rows.proofs.Reached.{handed}
use Rattle.node_rows.proofs.reading.read_links.Goals as goal

pub returns-in_err-links : goal.returns-in_err-links
returns-in_err-links c =
    let p = err_from_is_err_and c.from_residual.result c.from_residual.ensures.1 in
    handed _ _ _ c.from_residual.result c.in_err-links.field-0.0 p.0 p.1 p.2 (λ none lanes are others. none lanes are) c.in_err-links.ensures

pub returns-then-is_new : goal.returns-then-is_new
returns-then-is_new c = to_others (map_list entry_of c.args.rows.now) c.args.id c.args.nodes c.in_ok-links.links c.in_ok-links.ensures (c.is_new.ensures.0 c.if-is_new.true)

pub returns-else-is_new : goal.returns-else-is_new
returns-else-is_new c =
    not_to_others (map_list entry_of c.args.rows.now) c.args.id c.args.nodes c.in_ok-links.links c.in_ok-links.ensures (let h = c.ranges.nodes.fits in omega (arith, h))
    (λ none. true≢false (sym (c.is_new.ensures.1 none) ∙ c.if-is_new.false))
