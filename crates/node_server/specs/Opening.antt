-- With which table of homes a node is opened.
use Rattle.std.specs.Prelude.{◌≡◌, ◌<◌, ◌≤◌, ℕ, Some}
use Rattle.home_table.specs.Table.{Table}
use Rattle.node_keeper.specs.declared.keeper.Keeper.{Keeper}
use Rattle.node_keeper.specs.Keeping.{AreLasting, OpensFromRows, marked_or_raised}
use Rattle.node_keeper.specs.Views.{node_of, rows_of}
use Rattle.node_rows.specs.Rows.{Lasting}
use Rattle.node_work.specs.View.{HeldView, NodeView, Place}
use Rattle.row_store.specs.Rows.{Content}
use Rattle.replica_store.specs.Newest.{newest_of}

-- a node that runs goes by a table of homes whose version isn't below that of a subscription which it made itself and which stands
abbrev pub IsNotOlder : NodeView → Type 0
IsNotOlder n = (h : HeldView) → n.up ≡ Some h → newest_of n.place.id h.store ≤ n.homes.version

-- the rows tell of a subscription that the node made under this version, and of none under a later one, and that of the table is less. Where there were none
-- they are the mark of a new node; those of version 1 or 2 are in version 3 now; and others are as they were
pub record IsTableBefore (p : Place) (rows rows' : Content) (homes : Table) (version : ℕ) : Type 0 where
  pub left : marked_or_raised p.id rows rows'
  pub lasting : Lasting
  pub are : AreLasting p rows' lasting
  pub newest : newest_of p.id lasting.store ≡ version
  pub older : homes.version < version

module _ {R : Type 0} (is_clean is_open : R → Type 0) (content : R → Content) (p : Place) (homes : Table) (rows : R) where
  -- a node was opened from these rows, as what they say, with this table of homes, which isn't older than they tell
  pub record WasOpened : Type 0 where
    pub keeper : Keeper R
    pub by : (node_of keeper).homes ≡ homes
    pub newest : IsNotOlder (node_of keeper)
    pub opens : is_clean (rows_of keeper) → is_open rows → is_open (rows_of keeper) × OpensFromRows p homes (content rows) (content (rows_of keeper)) (node_of keeper)
