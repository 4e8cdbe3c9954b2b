use Rattle.std.proofs.Common.{map, ap, ◌∙◌}
use Rattle.row_store.specs.Rows.{after_all, entry_of}
use Rattle.row_drops.proofs.Nodes.{content_drops}
use Rattle.row_drops.proofs.store.drop_in.Goals as goal

pub returns-clause-ok : goal.returns-clause-ok
returns-clause-ok g c = λ clean was_open.
    let still_clean = c.in_ok-apply.ensures.was_clean clean in
    let still_open = c.in_ok-loaded.ensures.stays_open still_clean was_open in
    let applied = c.in_ok-apply.ensures.ok clean still_open in
    content_drops c.args.id c.args.nodes c.args.target.now c.deref.result.now c.in_ok-changes.changes.items (g.R.RowStore.content c.args.rows.now) (g.R.RowStore.content c.apply.new.self)
    c.in_ok-changes.ensures (ap (map entry_of) c.deref.ensures.value ∙ c.in_ok-loaded.ensures.ok still_clean was_open)
    (applied.1 ∙ λ i. after_all (c.in_ok-loaded.ensures.same still_clean still_open i) (c.deref-2.ensures.value i))
