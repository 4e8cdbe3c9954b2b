use Rattle.bridge_routes.specs.Routes.{IsHomed}
use Rattle.bridge_routes.proofs.Pairs.{pairs_step}
use Rattle.bridge_routes.proofs.destinations.homed_picks.Goals as goal

pub loop-pick-preserved : goal.loop-pick-preserved
loop-pick-preserved c =
    pairs_step (IsHomed c.args.table.now) c.args.picks.now c.loop-pick.pick-index c.pick-item.result c.loop-pick.out.items c.push.new.self.items c.in_ok-homed.field-0
    c.loop-pick-test.true c.pick-item.is c.in_ok-push.ensures.items c.in_ok-homed.ensures c.loop-pick.invariant
