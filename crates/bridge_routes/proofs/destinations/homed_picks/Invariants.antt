use Rattle.std.proofs.Common.{take}
use Rattle.bridge_routes.specs.Routes.{IsHomed, Pairwise}
use Rattle.bridge_routes.proofs.destinations.homed_picks.Given as goal

abbrev pub invariant-loop-pick : goal.invariant-loop-pick
invariant-loop-pick l = Pairwise (IsHomed l.table) (take l.pick-index l.picks) l.out.items
