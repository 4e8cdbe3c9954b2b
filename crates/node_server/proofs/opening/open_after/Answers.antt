use Rattle.std.proofs.Common.{◌≡◌, ◌<◌, ◌∙◌, ap, subst, sym}
use Rattle.home_table.specs.Table.{Table}
use Rattle.node_keeper.specs.Keeping.{OpensFromRows}
use Rattle.node_keeper.specs.Views.{node_of, rows_of}
use Rattle.node_work.specs.View.{NodeView, place_of}
use Rattle.node_server.proofs.Opened.{IsStoreOf, is_before}
use Rattle.node_server.proofs.opening.open_after.Goals as goal

-- the rows are those of the node that was opened, and its store is what lasts in them
pub returns-then-version-newest-clause-older : goal.returns-then-version-newest-clause-older
returns-then-version-newest-clause-older g c clean up version told =
    let homes = c.args.homes in
    let place = place_of c.args.id homes in
    let rows = g.R.RowStore.content c.args.rows in
    let left = c.into_rows.result in
    let n = node_of c.in-Ok.keeper in
    let store = c.store.result.now in
    let newest = c.newest_of-newest.result in
    let opened = (c.in-Ok.ensures.ok (subst (λ r. g.R.RowStore.is_clean r) c.into_rows.ensures clean) up).1 in
    let from = subst (λ r. OpensFromRows place homes rows (g.R.RowStore.content r) n) (sym c.into_rows.ensures) opened in
    let is = subst (λ (m : NodeView). IsStoreOf m store) c.node.ensures c.store.ensures in
    let table = c.homes.ensures ∙ ap (λ (m : NodeView). m.homes) c.node-2.ensures ∙ c.in-Ok.ensures.homes in
    let less = subst (λ v. v < newest) (c.version.ensures ∙ ap (λ (t : Table). t.version) table) c.if-version-newest.true in
    is_before place homes rows (g.R.RowStore.content left) n store newest version from is c.newest_of-newest.ensures less told
