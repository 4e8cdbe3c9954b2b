use Rattle.std.proofs.Common.{map as map_list, arith}
use Rattle.std.proofs.lemmas.Result.{err_from_is_err_and}
use Rattle.row_store.specs.Rows.{entry_of}
use Rattle.node_rows.proofs.Counted.{behind, behind_sorted, no_rows}
use Rattle.node_rows.proofs.Opening.{new_found, no_lanes, no_mark, no_sessions, no_state, opened_so, own_sorted, said, whole_so}
use Rattle.node_rows.proofs.Reached.{handed}
use Rattle.node_rows.proofs.reading.read.Goals as goal

pub returns-in_default : goal.returns-in_default
returns-in_default c = new_found c.args.rows.now c.args.id c.args.nodes c.opened_new.result (no_rows c.args.rows.now c.in_default.len_below) (let h = c.ranges.nodes.fits in omega (arith, h)) c.opened_new.ensures.store c.opened_new.ensures.opened

pub cut-requires : goal.cut-requires
cut-requires c = behind_sorted c.args.rows.now c.requires

pub read_sessions-requires : goal.read_sessions-requires
read_sessions-requires c =
    own_sorted (map_list entry_of (behind c.args.rows.now)) (map_list entry_of c.cut.result.0.now) (map_list entry_of c.cut.result.1.now) (map_list entry_of c.cut.result.2.now) (map_list entry_of c.cut.result.3.now) (behind_sorted c.args.rows.now c.requires) c.cut.ensures

pub returns-in_default-named_in : goal.returns-in_default-named_in
returns-in_default-named_in c =
    let whole = whole_so c.args.rows.now c.first-item.result (map_list entry_of c.cut.result.0.now) (map_list entry_of c.cut.result.1.now) (map_list entry_of c.cut.result.2.now) (map_list entry_of c.cut.result.3.now) c.requires c.in-len1-up.len_at_least c.first-item.is c.cut.ensures in
    no_mark c.args.rows.now (entry_of c.first-item.result) (map_list entry_of c.cut.result.0.now) (map_list entry_of c.cut.result.1.now) c.cut.result.2.now (map_list entry_of c.cut.result.3.now) whole c.args.id c.args.nodes c.in_default-named_in.ensures

pub returns-in_err-store : goal.returns-in_err-store
returns-in_err-store c =
    let p = err_from_is_err_and c.from_residual.result c.from_residual.ensures.1 in
    let whole = whole_so c.args.rows.now c.first-item.result (map_list entry_of c.cut.result.0.now) (map_list entry_of c.cut.result.1.now) (map_list entry_of c.cut.result.2.now) (map_list entry_of c.cut.result.3.now) c.requires c.in-len1-up.len_at_least c.first-item.is c.cut.ensures in
    handed _ _ _ c.from_residual.result c.in_err-store.field-0.0 p.0 p.1 p.2
    (no_state c.args.rows.now (entry_of c.first-item.result) (map_list entry_of c.cut.result.0.now) (map_list entry_of c.cut.result.1.now) c.cut.result.2.now (map_list entry_of c.cut.result.3.now) whole c.args.id c.args.nodes) c.in_err-store.ensures

pub returns-in_err-sessions : goal.returns-in_err-sessions
returns-in_err-sessions c =
    let p = err_from_is_err_and c.from_residual-in_err-sessions.result c.from_residual-in_err-sessions.ensures.1 in
    let whole = whole_so c.args.rows.now c.first-item.result (map_list entry_of c.cut.result.0.now) (map_list entry_of c.cut.result.1.now) (map_list entry_of c.cut.result.2.now) (map_list entry_of c.cut.result.3.now) c.requires c.in-len1-up.len_at_least c.first-item.is c.cut.ensures in
    handed _ _ _ c.from_residual-in_err-sessions.result c.in_err-sessions.field-0.0 p.0 p.1 p.2
    (no_sessions c.args.rows.now (entry_of c.first-item.result) (map_list entry_of c.cut.result.0.now) (map_list entry_of c.cut.result.1.now) c.cut.result.2.now (map_list entry_of c.cut.result.3.now) whole c.args.id c.args.nodes) c.in_err-sessions.ensures

pub returns-in_err-links : goal.returns-in_err-links
returns-in_err-links c =
    let p = err_from_is_err_and c.from_residual-in_err-links.result c.from_residual-in_err-links.ensures.1 in
    let whole = whole_so c.args.rows.now c.first-item.result (map_list entry_of c.cut.result.0.now) (map_list entry_of c.cut.result.1.now) (map_list entry_of c.cut.result.2.now) (map_list entry_of c.cut.result.3.now) c.requires c.in-len1-up.len_at_least c.first-item.is c.cut.ensures in
    handed _ _ _ c.from_residual-in_err-links.result c.in_err-links.field-0.0 p.0 p.1 p.2
    (no_lanes c.args.rows.now (entry_of c.first-item.result) (map_list entry_of c.cut.result.0.now) (map_list entry_of c.cut.result.1.now) c.cut.result.2.now (map_list entry_of c.cut.result.3.now) whole c.args.id c.args.nodes) c.in_err-links.ensures

pub returns : goal.returns
returns c =
    let whole = whole_so c.args.rows.now c.first-item.result (map_list entry_of c.cut.result.0.now) (map_list entry_of c.cut.result.1.now) (map_list entry_of c.cut.result.2.now) (map_list entry_of c.cut.result.3.now) c.requires c.in-len1-up.len_at_least c.first-item.is c.cut.ensures in
    opened_so c.args.rows.now c.args.id c.args.nodes _
    (said c.args.rows.now (entry_of c.first-item.result) (map_list entry_of c.cut.result.0.now) (map_list entry_of c.cut.result.1.now) c.cut.result.2.now (map_list entry_of c.cut.result.3.now) whole c.args.id c.args.nodes c.in-Some.named c.in_ok-store.store c.in_ok-sessions.sessions c.in_ok-links.links
    (let h = c.ranges.nodes.fits in omega (arith, h)) c.in-Some.ensures c.in_ok-store.ensures c.in_ok-sessions.ensures c.in_ok-links.ensures)
