use Rattle.std.proofs.Common.{◌≡◌, false, map, take}
use Rattle.std.specs.FinMap as finite
use Rattle.home_table.specs.Table.{stands_twice, home_of_row}
use Rattle.home_table.proofs.table.place_homes.Given as goal

-- the homes so far are placed, and none of their prefixes stands twice
abbrev pub invariant-loop-home : goal.invariant-loop-home
invariant-loop-home l =
    (l.prefixes ≡ finite.from_entries (map (home_of_row l.nodes) (take l.home-index l.homes)))
    × (stands_twice (map (λ h. h.prefix) (take l.home-index l.homes)) ≡ false)
