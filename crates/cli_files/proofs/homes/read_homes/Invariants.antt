use Rattle.std.proofs.Common.{◌≡◌, Some, map, take}
use Rattle.toml.specs.View.{view}
use Rattle.home_table.specs.Document.{each}
use Rattle.cli_files.specs.Listed.{listed_in, placed}
use Rattle.cli_files.proofs.homes.read_homes.Given as goal

-- the homes so far
abbrev pub invariant-loop-value : goal.invariant-loop-value
invariant-loop-value l = each (listed_in l.homes) (map view (take l.value-index l.values)) ≡ Some (map placed l.read.items)
