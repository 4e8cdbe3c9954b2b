-- What a table of homes, and the first Started, come to, and nothing else (MQTT 5.0, 4.11).
use Rattle.std.specs.Prelude.{◌≡◌, ℕ, cond, List, [], ◌∷◌, ◌++◌, Option, Some, None}
use Rattle.home_table.specs.Homes.{IsHome}
use Rattle.home_table.specs.Table.{Table}
use Rattle.law_sessions.specs.Runs.{finishes}
use Rattle.session_table.specs.Seats.{AreElsewhere, connected}
use Rattle.node_work.specs.declared.counts.Missed.TheVariants.{TableRefused}
use Rattle.node_work.specs.Acts.{Act, Began, Bridge, MomentTaken, Moved, Runs, next}
use Rattle.node_work.specs.Held.Bridge.{Left_out}
use Rattle.node_work.specs.Held.Sessions.{connection_at}
use Rattle.node_work.specs.View.{Place, HeldView}
use Rattle.node_clients.specs.Connecting.{address_of}
use Rattle.broker_node.specs.Moving.{is_newer_table}
use Rattle.law_steps.specs.Going.{IsToldItsHome}
use Rattle.law_steps.specs.Starting.{AreClosed}
use Rattle.law_steps.specs.Ending.{AllDueIsDone, ClosesOn, OwnIsDone}

-- ---- clients go
-- one that is connected is told the address that the table has of its home, unless that is longer than it takes; and its connection is closed
pub record SentOnAlone (p : Place) (h : HeldView) (c : ℕ) (client : List ℕ) (acts : List Act) : Type 0 where
  pub home : ℕ
  pub is_home : IsHome h.homes client home
  pub told : List Act
  pub rest : List Act
  pub is : acts ≡ told ++ rest
  pub is_told : IsToldItsHome c client h (address_of h home) told
  pub closes : ClosesOn p h c client rest

abbrev pub PartsAlone : Place → HeldView → List ℕ → Option ℕ → List Act → Type 0
PartsAlone p h client None acts = acts ≡ []
PartsAlone p h client (Some c) acts = SentOnAlone p h c client acts

-- and then its session ends, whatever its expiry
pub record GoesAlone (p : Place) (h : HeldView) (client : List ℕ) (acts : List Act) : Type 0 where
  pub parting : List Act
  pub ending : List Act
  pub is : acts ≡ parting ++ ending
  pub parts : PartsAlone p h client (connection_at client h) parting
  pub left : HeldView
  pub leaves : Runs p h parting left
  pub ends : OwnIsDone finishes p left client ending

-- one after the other
abbrev pub GoInTurnAlone : Place → List (List ℕ) → HeldView → List Act → Type 0
GoInTurnAlone p [] h acts = acts ≡ []
GoInTurnAlone p (client ∷ clients) h acts =
    (own : List Act) × (mid : HeldView) × (rest : List Act) × (acts ≡ own ++ rest) × Runs p h own mid × GoesAlone p h client own × GoInTurnAlone p clients mid rest

-- the clients with sessions here whose home is elsewhere, in the order of their bytes
pub record ClientsGoAlone (p : Place) (h : HeldView) (acts : List Act) : Type 0 where
  pub away : List (List ℕ)
  pub are : AreElsewhere h.homes p.id h.sessions away
  pub go : GoInTurnAlone p away h acts

-- ---- a table that the node is handed
-- one for as many nodes, and newer than its own, is the node's from then on, and clients go by it; another one is counted
abbrev pub TableAlone : Place → HeldView → Table → List Act → Type 0
TableAlone p h homes acts =
    cond (is_newer_table homes p h) ((rest : List Act) × (acts ≡ Moved homes ∷ rest) × ClientsGoAlone p (next h (Moved homes)) rest) (acts ≡ Bridge (Left_out TableRefused) ∷ [])

-- ---- the first Started
-- the moment is taken, and the node has started; the stored sessions that were connected are closed, by their clients' bytes; what is due is done; and
-- then the clients go whose home is elsewhere
pub record StartsAlone (p : Place) (h : HeldView) (at : ℕ) (acts : List Act) : Type 0 where
  pub closed : List Act
  pub due : List Act
  pub away : List Act
  pub is : acts ≡ MomentTaken at ∷ Began ∷ (closed ++ (due ++ away))
  pub mid : HeldView
  pub closes_all : AreClosed p (connected h.sessions) (next (next h (MomentTaken at)) Began) closed mid
  pub left : HeldView
  pub leaves : Runs p mid due left
  pub does : AllDueIsDone p mid due left
  pub goes : ClientsGoAlone p left away
