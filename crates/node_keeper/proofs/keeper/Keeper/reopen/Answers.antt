use Rattle.std.proofs.Common.{◌≡◌, ◌∙◌, ap, subst, sym}
use Rattle.home_table.specs.Table.{Table}
use Rattle.node_keeper.specs.Keeping.{OpensFromRows}
use Rattle.node_work.specs.View.{NodeView, Place, place_of}
use Rattle.node_keeper.proofs.keeper.Keeper.reopen.Goals as goal

-- its table is a copy, and its number the same
pub returns-in-Ok-wake-clause-ok : goal.returns-in-Ok-wake-clause-ok
returns-in-Ok-wake-clause-ok g c clean up =
    let n = c.args.self.now.node in
    let before = g.R.RowStore.content c.args.self.now.rows in
    let after = g.R.RowStore.content c.wake.new.rows in
    let ok = c.in-Ok-wake.ensures.ok clean up in
    let homes = c.in-Ok.ensures ∙ c.homes.ensures ∙ ap (λ (m : NodeView). m.homes) c.stop.ensures in
    let id = c.id.ensures ∙ ap (λ (m : NodeView). m.place.id) c.stop.ensures in
    let place = subst (λ (m : NodeView). m.place ≡ place_of m.place.id m.homes) c.stop.ensures c.has_place.ensures.place in (
      ok.0,
      subst (λ (p : Place). OpensFromRows p n.homes before after c.in-Ok-wake.node) (sym place)
          (subst (λ (t : Table). OpensFromRows (place_of n.place.id t) t before after c.in-Ok-wake.node) homes
          (subst (λ i. OpensFromRows (place_of i c.in-Ok.homes) c.in-Ok.homes before after c.in-Ok-wake.node) id ok.1)),
    )
