-- A node and its rows.
use Rattle.std.specs.Prelude.{◌≡◌, ◌≢◌, ℕ, ◌<◌, ◌≤◌, ◌^◌, ◌-◌, ◌⊎◌, false, List, [], length, Option, Some, None, Result, Ok, Vec}
use Rattle.std.specs.FinMap as map
use Rattle.std.specs.declared.alloc.Global.{Global}
use Rattle.broker_node.specs.declared.event.Event.{Event}
use Rattle.broker_node.specs.Idle.{IsIdle}
use Rattle.broker_node.specs.Step.{IsDone, StopsAtEnd, may_move_in}
use Rattle.home_table.specs.Table.{Table}
use Rattle.node_keeper.specs.declared.fault.KeeperFault.{KeeperFault}
use Rattle.node_keeper.specs.declared.fault.KeeperFault.TheVariants.{NoMemory, Rows, NumbersAtEnd, Stopped}
use Rattle.node_rows.specs.Reading.{IsLasting}
use Rattle.node_rows.specs.Rows.{Lasting, mark, mark_key, node_row}
use Rattle.node_rows.specs.Versions.{AreOlder, raised_content}
use Rattle.node_work.specs.Lasting.{IsWoken, held_row}
use Rattle.node_work.specs.View.{HeldView, NodeView, Place, nodes_of}
use Rattle.node_work.specs.declared.outcome.Output.{Output}
use Rattle.row_store.specs.declared.row.Change.{Change}
use Rattle.row_store.specs.declared.store.RowFault.{RowFault}
use Rattle.row_store.specs.declared.store.RowFault.TheVariants as row_faults
use Rattle.row_store.specs.Rows.{Content, Key, after_all}

-- ---- rows and what a node holds

-- the rows are those of what the node holds
abbrev pub AreOf : Place → Content → HeldView → Type 0
AreOf p c h = (key : Key) → map.get c key ≡ held_row p.id h key

-- while it runs
abbrev pub RowsAreKept : NodeView → Content → Type 0
RowsAreKept n c = (h : HeldView) → n.up ≡ Some h → AreOf n.place c h

-- the rows are those of what lasts of a node
abbrev pub AreLasting : Place → Content → Lasting → Type 0
AreLasting p c x = IsLasting p.id (nodes_of p) x × ((key : Key) → map.get c key ≡ node_row p.id x key)

-- they are those in version 1 or 2: in version 3 they are its rows
abbrev pub AreOlderLasting : Place → Content → Lasting → Type 0
AreOlderLasting p c x = IsLasting p.id (nodes_of p) x × AreOlder (map.entries c) × ((key : Key) → map.get (raised_content c) key ≡ node_row p.id x key)

-- in any version
abbrev pub LastsIn : Place → Content → Lasting → Type 0
LastsIn p c x = AreLasting p c x ⊎ AreOlderLasting p c x

-- no such node has these rows
abbrev pub AreOfNone : Place → Content → Type 0
AreOfNone p rows = (x : Lasting) → LastsIn p rows x → ⊥

-- ---- an event

-- an event is taken: the rows are changed as the step tells, and its outputs are given out
pub record Commits (n : NodeView) (rows : Content) (e : Event) (outputs : List Output) (n' : NodeView) (rows' : Content) : Type 0 where
  pub changes : List Change
  pub done : IsDone n e outputs changes n'
  pub written : rows' ≡ after_all rows changes
  pub kept : RowsAreKept n rows → RowsAreKept n' rows'

-- the outputs are those of a step
abbrev pub GivesOut : NodeView → Event → List Output → NodeView → Type 0
GivesOut n e outputs n' = (changes : List Change) × IsDone n e outputs changes n'

-- the rows after the changes of a step
pub record AreStepped (n : NodeView) (rows : Content) (e : Event) (rows' : Content) : Type 0 where
  pub outputs : List Output
  pub changes : List Change
  pub after : NodeView
  pub done : IsDone n e outputs changes after
  pub written : rows' ≡ after_all rows changes

-- what a crash leaves of the rows: those before the event, or those after a step of it
abbrev pub MayBeLeft : NodeView → Content → Event → Content → Type 0
MayBeLeft n rows e c = (c ≡ rows) ⊎ AreStepped n rows e c

-- the table of homes that is kept for a node whose step isn't written: the one that it has, where the event may bring it another one
abbrev pub KeepsTable : NodeView → Event → Option Table → Type 0
KeepsTable n e (Some homes) = (homes ≡ n.homes) × (length homes.nodes ≡ n.place.nodes)
KeepsTable n e None = (may_move_in n.up e.kind ≡ false) ⊎ (2 ^ 62 ≤ e.at)

-- an event comes to nothing: nothing is given out, and nothing fails
abbrev pub KeeperRests : Result (Vec Output Global) KeeperFault → Type 0
KeeperRests result = (outputs : Vec Output Global) × (result ≡ Ok outputs) × (outputs.items ≡ [])

-- ---- faults

-- why a node that runs stops: memory is wanting or the rows can't be written, at an event below 2^62 that isn't idle; or a
-- number can't be had
abbrev pub KeeperHasCause : Place → HeldView → Event → KeeperFault → Type 0
KeeperHasCause p h e NoMemory = (e.at < 2 ^ 62) × (¬ IsIdle p h e)
KeeperHasCause p h e (Rows fault) = (e.at < 2 ^ 62) × (¬ IsIdle p h e)
KeeperHasCause p h e NumbersAtEnd = StopsAtEnd p h e
KeeperHasCause p h e Stopped = ⊥

-- a node that has stopped answers so; another one has its cause
abbrev pub KeeperHasCauseAt : Option HeldView → Place → Event → KeeperFault → Type 0
KeeperHasCauseAt None p e fault = fault ≡ Stopped
KeeperHasCauseAt (Some h) p e fault = KeeperHasCause p h e fault

-- only a fault of the rows leaves them in doubt
abbrev pub KeepsRows : {R : Type 0} → R → R → KeeperFault → Type 0
KeepsRows rows rows' (Rows fault) = Unit {0}
KeepsRows rows rows' NoMemory = rows' ≡ rows
KeepsRows rows rows' NumbersAtEnd = rows' ≡ rows
KeepsRows rows rows' Stopped = rows' ≡ rows

-- one more failure of a device is counted, up to 2^64 - 1
abbrev pub IsOneFailureMore : ℕ → ℕ → Type 0
IsOneFailureMore before after = (before < after) ⊎ (after ≡ 2 ^ 64 - 1)

-- an opening fails by want of memory, whoever wants it, or by its rows for another cause
abbrev pub CannotOpen : KeeperFault → Type 0
CannotOpen fault = (fault ≡ NoMemory) ⊎ ((cause : RowFault) × (cause ≢ row_faults.NoMemory) × (fault ≡ Rows cause))

-- ---- opening

-- a node that is opened from its rows, with a table of homes: it runs, and holds what lasts
pub record HoldsWhatLasts (p : Place) (homes : Table) (rows : Content) (n : NodeView) : Type 0 where
  pub lasting : Lasting
  pub held : HeldView
  pub are : AreLasting p rows lasting
  pub woken : IsWoken homes lasting held
  pub is : n ≡ record { place = p; homes = homes; up = Some held }

-- the mark of a new node alone
abbrev pub only_mark : ℕ → Content
only_mark id = map.insert map.empty mark_key (mark id 0)

-- rows of version 1 or 2 in version 3, and others as they are
abbrev pub are_raised : Content → Content → Type 0
are_raised rows rows' = (AreOlder (map.entries rows) × (rows' ≡ raised_content rows)) ⊎ ((¬ AreOlder (map.entries rows)) × (rows' ≡ rows))

-- the rows of a node: where there are none, its mark
abbrev pub given_mark : ℕ → Content → Content → Type 0
given_mark id rows rows' = ((rows ≡ map.empty) × (rows' ≡ only_mark id)) ⊎ ((¬ (rows ≡ map.empty)) × (rows' ≡ rows))

-- the rows with which a node is opened: where there are none, its mark; and in version 3
abbrev pub marked_or_raised : ℕ → Content → Content → Type 0
marked_or_raised id rows rows' = ((rows ≡ map.empty) × (rows' ≡ only_mark id)) ⊎ ((¬ (rows ≡ map.empty)) × are_raised rows rows')

-- the same where the mark may be wanting, in the version that they have
abbrev pub may_be_marked : ℕ → Content → Content → Type 0
may_be_marked id rows rows' = (rows' ≡ rows) ⊎ ((rows ≡ map.empty) × (rows' ≡ only_mark id))

-- what a crash leaves while a node is opened
abbrev pub may_be_raised : ℕ → Content → Content → Type 0
may_be_raised id rows rows' = may_be_marked id rows rows' ⊎ (AreOlder (map.entries rows) × (rows' ≡ raised_content rows))

-- the node is opened: it has the rows in version 3, and its mark where there were none
pub record OpensFromRows (p : Place) (homes : Table) (rows rows' : Content) (n : NodeView) : Type 0 where
  pub mark : marked_or_raised p.id rows rows'
  pub reopened : HoldsWhatLasts p homes rows' n
  pub kept : RowsAreKept n rows'

-- ---- laws

-- rows that a crash leaves while a node is opened say what they said, in any version
abbrev pub OpeningKeepsWhatLasts : Type 0
OpeningKeepsWhatLasts = (p : Place) (rows rows' : Content) (x : Lasting) → may_be_raised p.id rows rows' → LastsIn p rows x → LastsIn p rows' x

-- rows aren't of version 3 and of an older one
abbrev pub HaveOneVersion : Type 0
HaveOneVersion = (p : Place) (rows : Content) (x y : Lasting) → AreLasting p rows x → AreOlderLasting p rows y → ⊥
