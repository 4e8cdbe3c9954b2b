use Rattle.std.proofs.Common.{subst}
use Rattle.node_work.specs.Lasting.{CanLast}
use Rattle.node_work.specs.View.{HeldView}
use Rattle.node_work.proofs.held.Held.can_last.Goals as goal

pub returns : goal.returns
returns c = subst (λ (h : HeldView). CanLast h) c.self.view_is (record { named = c.self.invariant.2; sessions = c.are_durable.ensures; store = c.self.invariant.3; lanes = c.are_lanes.ensures })
