use Rattle.std.proofs.Common.{◌≡◌, ◌++◌, flat_map}
use Rattle.bridge_routes.specs.Gathered.{by_group}
use Rattle.bridge_routes.specs.Picks.{pick_of, picked}
use Rattle.bridge_routes.specs.Tables.{referents, shown}
use Rattle.bridge_routes.proofs.groups.picks_of.Given as goal

abbrev pub invariant-loop-group : goal.invariant-loop-group
invariant-loop-group l = l.out.items ++ flat_map (λ g. pick_of l.message (picked l.turn g.1)) (shown l.group-iterator) ≡ flat_map (λ g. pick_of l.message (picked l.turn g.1)) (by_group (referents l.shared))
