-- What comes of a table of homes that a node is handed, and of the one with which it begins its work (MQTT 5.0, 4.11).
use Rattle.std.specs.Prelude.{◌≡◌, ◌⊎◌, ℕ, ◌<◌, true, false, List, [], ◌∷◌, ◌++◌, length, Some}
use Rattle.home_table.specs.Table.{Table}
use Rattle.session_table.specs.Seats.{AreElsewhere}
use Rattle.node_work.specs.declared.counts.Missed.TheVariants.{TableRefused}
use Rattle.node_work.specs.Acts.{Act, MomentTaken, Moved, Bridge, Runs}
use Rattle.node_work.specs.Held.Bridge.{Left_out}
use Rattle.node_work.specs.Held.Sessions.{more}
use Rattle.node_work.specs.View.{Place, HeldView, nodes_of}
use Rattle.broker_node.specs.declared.event.Event.{Event}
use Rattle.broker_node.specs.declared.event.EventKind.TheVariants as kinds
use Rattle.broker_node.specs.Turns.{Decides}
use Rattle.law_steps.specs.Going.{Goes}

-- ---- who goes
-- one after the other
abbrev pub GoInTurn : Place → List (List ℕ) → HeldView → List Act → HeldView → Type 0
GoInTurn p [] h acts last = (acts ≡ []) × (last ≡ h)
GoInTurn p (client ∷ clients) h acts last =
    (own : List Act) × (mid : HeldView) × (rest : List Act) × (acts ≡ own ++ rest) × Runs p h own mid × Goes p client h own mid × GoInTurn p clients mid rest last

-- the clients with sessions here whose home is elsewhere, in the order of their bytes, and nobody else
pub record ClientsGo (p : Place) (h : HeldView) (acts : List Act) (last : HeldView) : Type 0 where
  pub away : List (List ℕ)
  pub are : AreElsewhere h.homes p.id h.sessions away
  pub go : GoInTurn p away h acts last

-- ---- a table that a node is handed
-- for as many nodes, and newer than the one that the node holds
abbrev pub IsNewer : Place → HeldView → Table → Type 0
IsNewer p h homes = (length homes.nodes ≡ nodes_of p) × (h.homes.version < homes.version)

-- first the node does what it does at a Tick of that moment: what is due
pub record TicksFirst (e : Event) (p : Place) (h : HeldView) : Type 0 where
  pub due : List Act
  pub does : Decides (record { at = e.at; kind = kinds.Tick }) (Some tt) p h due
  pub left : HeldView
  pub runs : Runs p h due left

-- such a table is the node's from then on, and clients go by it
pub record TableIsTaken (e : Event) (p : Place) (h : HeldView) (homes : Table) (acts : List Act) (last : HeldView) : Type 0 where
  pub first : TicksFirst e p h
  pub rest : List Act
  pub is : acts ≡ first.due ++ Moved homes ∷ rest
  pub sends : ClientsGo p (record first.left { homes = homes }) rest last

-- another one is counted, and changes nothing
pub record TableIsRefused (e : Event) (p : Place) (h : HeldView) (acts : List Act) (last : HeldView) : Type 0 where
  pub first : TicksFirst e p h
  pub is : acts ≡ first.due ++ Bridge (Left_out TableRefused) ∷ []
  pub counted : last ≡ record first.left { counts = record first.left.counts { tables_refused = more 1 first.left.counts.tables_refused } }

-- in every step of a node that has started
abbrev pub TablesAreTaken : Type 0
TablesAreTaken =
    (e : Event) (homes : Table) (p : Place) (h last : HeldView) (acts : List Act) → e.kind ≡ kinds.Table homes → h.started ≡ true → Decides e (Some tt) p h acts → Runs p h acts last
    → (IsNewer p h homes × TableIsTaken e p h homes acts last) ⊎ ((¬ (IsNewer p h homes)) × TableIsRefused e p h acts last)

-- before that it takes the moment alone
abbrev pub TablesWait : Type 0
TablesWait =
    (e : Event) (homes : Table) (p : Place) (h : HeldView) (acts : List Act) → e.kind ≡ kinds.Table homes → h.started ≡ false → Decides e (Some tt) p h acts → acts ≡ MomentTaken e.at ∷ []

-- ---- the table with which a node begins its work
-- once it has closed the stored sessions and done what is due, clients go by the table that it holds
pub record BeginsWork (p : Place) (h : HeldView) (acts : List Act) (last : HeldView) : Type 0 where
  pub first : List Act
  pub left : HeldView
  pub runs : Runs p h first left
  pub homes : left.homes ≡ h.homes
  pub rest : List Act
  pub is : acts ≡ first ++ rest
  pub sends : ClientsGo p left rest last

abbrev pub StartsSendAway : Type 0
StartsSendAway = (e : Event) (p : Place) (h last : HeldView) (acts : List Act) → e.kind ≡ kinds.Started → h.started ≡ false → Decides e (Some tt) p h acts → Runs p h acts last → BeginsWork p h acts last
