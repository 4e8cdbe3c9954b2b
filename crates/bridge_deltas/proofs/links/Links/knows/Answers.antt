use Rattle.std.proofs.Common.{◌<◌, length, subst, sym, arith}
use Rattle.bridge_deltas.specs.Links.{LinksView}
use Rattle.bridge_deltas.proofs.Confirming.{known_still}
use Rattle.bridge_deltas.proofs.links.Links.knows.Goals as goal

pub count_confirmed-requires : goal.count_confirmed-requires
count_confirmed-requires c =
    let links = c.self.inside in
    let one : c.args.peer < links.nodes = subst (λ (l : LinksView). c.args.peer < l.nodes) (sym c.self.view_is) c.requires in
    let inside : c.args.peer < length links.beliefs.items = omega (arith, one, c.self.invariant.0.beliefs) in
    known_still links.beliefs.items links.confirmed.items links.deltas.items c.args.peer c.index_mut.result.now c.args.dots.now c.join.new.self c.index.result.now c.index-known.result.now
    inside c.self.invariant.1 c.index_mut.ensures.value c.in_ok-join.ensures.ok c.index.ensures c.index-known.ensures
