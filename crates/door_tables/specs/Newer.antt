-- Which table of homes may take the place of another one.
use Rattle.std.specs.Prelude.{◌≡◌, ◌<◌, length}
use Rattle.home_table.specs.Table.{Table}

-- one with a greater version, for as many nodes
pub record IsNewer (homes other : Table) : Type 0 where
  pub version : homes.version < other.version
  pub nodes : length other.nodes ≡ length homes.nodes
