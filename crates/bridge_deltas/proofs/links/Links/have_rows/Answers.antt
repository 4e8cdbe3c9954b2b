use Rattle.std.proofs.Common.{subst}
use Rattle.bridge_lanes.specs.Changes.{now_of}
use Rattle.bridge_lanes.specs.Reading.{AreLanes}
use Rattle.bridge_deltas.specs.Links.{LinksView}
use Rattle.bridge_deltas.proofs.Telling.{lanes_are}
use Rattle.bridge_deltas.proofs.links.Links.have_rows.Goals as goal

pub returns : goal.returns
returns c = subst (λ (l : LinksView). AreLanes l.nodes (now_of l.lanes)) c.self.view_is (lanes_are c.self.inside.nodes c.self.inside.lanes.items c.self.invariant.0.lanes c.are_lanes.ensures)
