use Rattle.std.proofs.Common.{◌≡◌, ◌<◌, ◌≤◌, map as map_list, length, ap, arith, sym, refl, ◌∙◌, Less, Equal, Greater}
use Rattle.std.specs.FinMap.Entries.{put}
use Rattle.row_store.specs.Rows.{entry_of, key_cmp, key_of}
use Rattle.node_rows.proofs.Placing.{placed_before, placed_behind, placed_last, placed_over}
use Rattle.node_rows.proofs.versions.with_row.Goals as goal

pub returns-in-Less : goal.returns-in-Less
returns-in-Less c =
    let inv = c.loop-i.invariant in
    let lt : c.loop-i.i < length c.loop-i.rows.items = omega (arith, ap length inv.0) in
    ap (map_list entry_of) c.in_ok-insert-in-Less.ensures.items
    ∙ placed_before c.loop-i.rows.items c.loop-i.i c.index.result.now c.args.new lt c.index.ensures inv.1 (sym c.compare_keys.ensures ∙ c.in-Less.is)
    ∙ ap (λ rs. put key_cmp (key_of c.args.new) c.args.new.value.items (map_list entry_of rs)) inv.0

pub returns-in-Equal : goal.returns-in-Equal
returns-in-Equal c =
    let inv = c.loop-i.invariant in
    let lt : c.loop-i.i < length c.loop-i.rows.items = omega (arith, ap length inv.0) in
    placed_over c.loop-i.rows.items c.loop-i.i c.index.result.now c.args.new lt c.index.ensures inv.1 (sym c.compare_keys.ensures ∙ c.in-Equal.is)
    ∙ ap (λ rs. put key_cmp (key_of c.args.new) c.args.new.value.items (map_list entry_of rs)) inv.0

pub returns : goal.returns
returns c =
    let inv = c.loop-i.invariant in
    let end : length c.loop-i.rows.items ≤ c.loop-i.i = omega (arith, ap length inv.0) in
    ap (map_list entry_of) c.in_ok-push.ensures.items ∙ placed_last c.loop-i.rows.items c.loop-i.i c.args.new end inv.1
    ∙ ap (λ rs. put key_cmp (key_of c.args.new) c.args.new.value.items (map_list entry_of rs)) inv.0

pub loop-i-preserved : goal.loop-i-preserved
loop-i-preserved c =
    let inv = c.loop-i.invariant in
    let lt : c.loop-i.i < length c.loop-i.rows.items = omega (arith, ap length inv.0) in
    (inv.0, placed_behind c.loop-i.rows.items c.loop-i.i c.index.result.now c.args.new lt c.index.ensures inv.1 (sym c.compare_keys.ensures ∙ c.in-Greater.is))
