use Rattle.std.proofs.Common.{take}
use Rattle.subscription_set.specs.Standing.{live}
use Rattle.bridge_routes.specs.Routes.{Pairwise}
use Rattle.bridge_routes.specs.Taken.{IsPickedCopy}
use Rattle.bridge_routes.proofs.taken.picked_copies.Given as goal

abbrev pub invariant-loop-pick : goal.invariant-loop-pick
invariant-loop-pick l = Pairwise (IsPickedCopy (live l.subscriptions) l.message) (take l.pick-index l.picks) l.out.items
