-- How a node is opened from its rows.
use Rattle.std.specs.Prelude.{◌≡◌, ℕ, List, Some, length}
use Rattle.home_table.specs.Table.{Table}
use Rattle.node_rows.specs.Reading.{IsLasting, Say}
use Rattle.node_rows.specs.Rows.{Lasting}
use Rattle.node_work.specs.Lasting.{IsWoken}
use Rattle.node_work.specs.View.{HeldView, NodeView, place_of}
use Rattle.row_store.specs.declared.row.Row.{Row}

-- it runs, and holds its table of homes and what its rows say
pub record IsOpenedFrom (rows : List Row) (id : ℕ) (homes : Table) (n : NodeView) : Type 0 where
  pub lasting : Lasting
  pub held : HeldView
  pub can_last : IsLasting id (length homes.nodes) lasting
  pub say : Say rows id lasting
  pub woken : IsWoken homes lasting held
  pub is : n ≡ record { place = place_of id homes; homes = homes; up = Some held }
