-- What the rows of a node say, with what it is opened again, and what a fault leaves.
use Rattle.std.specs.Prelude.{◌≡◌, ℕ, List, Some, length, slice_get}
use Rattle.std.specs.FinSet as set
use Rattle.causal_context.specs.Dots.{Dot}
use Rattle.home_table.specs.Table.{Table}
use Rattle.replica_store.specs.StateOf.{IsStateOf}
use Rattle.node_keeper.specs.declared.fault.KeeperFault.{KeeperFault}
use Rattle.node_keeper.specs.Keeping.{AreLasting, AreOf, AreOfNone}
use Rattle.node_rows.specs.Reading.{IsLasting}
use Rattle.node_rows.specs.Rows.{Lasting}
use Rattle.node_work.specs.Lasting.{lasting, IsWoken}
use Rattle.node_work.specs.View.{HeldView, fresh}
use Rattle.law_nodes.specs.Moves.{Moves}
use Rattle.cluster_play.specs.Worlds.{Site, World, Faulted, Restarted, Happens, stopped}
use Rattle.cluster_play.specs.Runs.{Played}
use Rattle.cluster_play.specs.Histories.{IsFirst, Reached, homes_after, site, taken, operations, moves_at}
use Rattle.cluster_play.specs.Agreement.{Holds}

-- the rows of a running node are those of what it holds, which can be read from them again
abbrev pub RowsAreOfWhatIsHeld : Type 0
RowsAreOfWhatIsHeld =
    (run : List Played) (w : World) → Reached run w → (i : ℕ) (h : HeldView) (at : Holds w i h)
    → AreOf at.site.node.place at.site.rows h × IsLasting i (length w.sites) (lasting h)

-- the rows of a node, also of one that is down, say that it has the state of the operations that it has taken, and lists their dots
pub record KeepsIts (run : List Played) (i : ℕ) (s : Site) : Type 0 where
  pub said : Lasting
  pub are : AreLasting s.node.place s.rows said
  pub state : IsStateOf (operations i run) said.store
  pub listed : (d : Dot) → set.contains said.store.taken d ≡ taken i run d

abbrev pub RowsKeepItsOperations : Type 0
RowsKeepItsOperations = (run : List Played) (w : World) → Reached run w → (i : ℕ) (s : Site) → slice_get w.sites i ≡ Some s → KeepsIts run i s

-- so no restart ever finds rows that aren't those of its node
abbrev pub RowsAreOfTheirNode : Type 0
RowsAreOfTheirNode = (run : List Played) (w : World) → Reached run w → (i : ℕ) (s : Site) → slice_get w.sites i ≡ Some s → ¬ AreOfNone s.node.place s.rows

-- a node holds this, or held it last: the run's acts and losses lead to it, and the rows are its
pub record HeldLast (run : List Played) (start : World) (i : ℕ) (s : Site) (h : HeldView) : Type 0 where
  pub first : Table
  pub is_first : IsFirst start i first
  pub moves : Moves s.node.place (fresh first) (moves_at i run) h
  pub homes : s.node.homes ≡ h.homes
  pub rows : AreOf s.node.place s.rows h
  pub up : (g : HeldView) → s.node.up ≡ Some g → g ≡ h

-- a node that is restarted holds its table of homes, and what lasts of what it held last
pub record WakesFrom (run : List Played) (start w : World) (i : ℕ) (homes : Table) (h' : HeldView) : Type 0 where
  pub site : Site
  pub at : slice_get w.sites i ≡ Some site
  pub held : HeldView
  pub last : HeldLast run start i site held
  pub woken : IsWoken homes (lasting held) h'

abbrev pub RestartsWithWhatLasts : Type 0
RestartsWithWhatLasts =
    (run : List Played) (w w' : World) (m : Played) (r : Reached run w) → Happens w m.step m.fate w' → (i : ℕ) (homes : Table) → m.fate ≡ Restarted i homes
    → (h' : HeldView) → Holds w' i h' → WakesFrom run r.start w i homes h'

-- the table of homes of a node, also of one that is down, is the last of those that its committed steps gave it and with which it was opened, the first time and again
abbrev pub KeepsItsTable : Type 0
KeepsItsTable =
    (run : List Played) (w : World) (r : Reached run w) (i : ℕ) (s : Site) → slice_get w.sites i ≡ Some s
    → (first : Table) × IsFirst r.start i first × (s.node.homes ≡ homes_after first (moves_at i run))

-- a fault leaves the rows of its node as they were
abbrev pub FaultsLeaveRows : Type 0
FaultsLeaveRows =
    (run : List Played) (w w' : World) (m : Played) → Reached run w → Happens w m.step m.fate w' → (i : ℕ) (fault : KeeperFault) → m.fate ≡ Faulted i fault
    → (s s' : Site) → slice_get w.sites i ≡ Some s → slice_get w'.sites i ≡ Some s' → s' ≡ stopped s
