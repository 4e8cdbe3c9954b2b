use Rattle.std.proofs.Common.{◌≡◌, ◌++◌, drop}
use Rattle.bridge_routes.specs.Routes.{picks_at}
use Rattle.bridge_routes.proofs.destinations.picks_at.Given as goal

abbrev pub invariant-loop-homed : goal.invariant-loop-homed
invariant-loop-homed l = l.out.items ++ picks_at l.node (drop l.homed-index l.picks) ≡ picks_at l.node l.picks
