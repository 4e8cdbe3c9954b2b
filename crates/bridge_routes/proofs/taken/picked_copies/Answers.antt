use Rattle.subscription_set.specs.Standing.{live}
use Rattle.bridge_routes.specs.Taken.{IsPickedCopy}
use Rattle.bridge_routes.proofs.Pairs.{pairs_step}
use Rattle.bridge_routes.proofs.taken.picked_copies.Goals as goal

pub loop-pick-preserved : goal.loop-pick-preserved
loop-pick-preserved c =
    pairs_step (IsPickedCopy (live c.args.subscriptions.now) c.args.message.now) c.args.picks.now c.loop-pick.pick-index c.pick-item.result c.loop-pick.out.items c.push.new.self.items c.in_ok-picked_copy.field-0
    c.loop-pick-test.true c.pick-item.is c.in_ok-push.ensures.items c.in_ok-picked_copy.ensures c.loop-pick.invariant
