use Rattle.std.proofs.Common.{◌≡◌, drop}
use Rattle.bridge_routes.specs.Routes.{is_at}
use Rattle.bridge_routes.proofs.destinations.is_at.Given as goal

abbrev pub invariant-loop-home : goal.invariant-loop-home
invariant-loop-home l = is_at l.node (drop l.home-index l.homes) ≡ is_at l.node l.homes
