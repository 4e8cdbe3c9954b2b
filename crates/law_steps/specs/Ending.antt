-- What is due of a session is done, and nothing else (MQTT 5.0, 3.1.2.5, 3.1.2.10 and 3.1.2.11.2).
use Rattle.std.specs.Prelude.{◌≡◌, ℕ, max, cond, List, [], ◌∷◌, ◌++◌, Option, Some, None}
use Rattle.session_table.specs.Dues.{Due}
use Rattle.home_table.specs.Homes.{IsHome}
use Rattle.law_sessions.specs.Runs.{Event, ticks}
use Rattle.session_table.specs.Seats.{run_outs, wills_due, ends_due}
use Rattle.subscription_set.specs.Standing.{any_below}
use Rattle.node_work.specs.declared.outcome.Output.TheVariants.{Close}
use Rattle.node_work.specs.Acts.{Act, MomentTaken, Store, Made, Connection, Session, Out, Runs, next}
use Rattle.node_work.specs.Held.Connections.{Closed}
use Rattle.node_work.specs.Held.Making.{removal_below}
use Rattle.node_work.specs.Held.Sessions.{SessionStep, Called, Over, has_session, will_is_due, end_is_due}
use Rattle.node_work.specs.View.{Place, HeldView}
use Rattle.node_clients.specs.Ending.{ends_below}
use Rattle.law_steps.specs.Due.{InOrder, TimesOut}
use Rattle.law_steps.specs.Starting.{IsClosed}
use Rattle.law_steps.specs.Passing.{PassesWillOn}

-- ---- the end of a session
-- one Remove of exactly what the client subscribed to under a version below this, where anything of that stands
abbrev pub removed_below : ℕ → List ℕ → ℕ → HeldView → List Act
removed_below id client version h = cond (any_below client version h.store.subscriptions) (Store (Made (removal_below id client version h.store)) ∷ []) []

-- by the version of the node's table: with it where the client's home is here, and below it where that is elsewhere; then the session is over
pub record EndsAlone (p : Place) (h : HeldView) (client : List ℕ) (acts : List Act) : Type 0 where
  pub home : ℕ
  pub is_home : IsHome h.homes client home
  pub is : acts ≡ removed_below p.id client (ends_below home p h) h ++ Session (Over client) ∷ []

-- ---- a tick of a session, or its end now
-- its call; the will that it asks to pass on; and its end, where it says that it is over
pub record DoesOwn (event : ℕ → Event) (p : Place) (h : HeldView) (client : List ℕ) (acts : List Act) : Type 0 where
  pub call : SessionStep
  pub asked : List Act
  pub ended : List Act
  pub is : acts ≡ Session (Called call) ∷ (asked ++ ended)
  pub of : call.client ≡ client
  pub event_is : call.event ≡ event h.at
  pub asks : PassesWillOn (next h (Session (Called call))) call.reaction.ask asked
  pub held : HeldView
  pub runs : Runs p (next h (Session (Called call))) asked held
  pub ends : cond call.reaction.over (EndsAlone p held client ended) (ended ≡ [])

abbrev pub OwnIsDone : (ℕ → Event) → Place → HeldView → List ℕ → List Act → Type 0
OwnIsDone event p h client acts = cond (has_session client h) (DoesOwn event p h client acts) (acts ≡ [])

abbrev pub TickIsDone : Place → HeldView → Due → List Act → Type 0
TickIsDone p h d acts = OwnIsDone ticks p h d.1 acts

-- ---- what is due
-- the connections whose Keep Alive has run out, by rising number; then the wills that are due, by their moment and their client; then the sessions
-- whose end has come, by that moment and their client
pub record AllDueIsDone (p : Place) (h : HeldView) (acts : List Act) (last : HeldView) : Type 0 where
  pub outs : List Act
  pub wills : List Act
  pub ends : List Act
  pub is : acts ≡ outs ++ (wills ++ ends)
  pub mid : HeldView
  pub outs_are : InOrder TimesOut p (run_outs h.sessions h.at) h outs mid
  pub mid2 : HeldView
  pub wills_are : InOrder (TickIsDone p) p (wills_due mid.sessions mid.at) mid wills mid2
  pub ends_are : InOrder (TickIsDone p) p (ends_due mid2.sessions mid2.at) mid2 ends last

-- ---- a client that goes away
-- its session is told, and does its will and its end where they are due then
pub record Parts (p : Place) (h : HeldView) (client : List ℕ) (acts : List Act) : Type 0 where
  pub told : List Act
  pub wills : List Act
  pub ends : List Act
  pub is : acts ≡ told ++ (wills ++ ends)
  pub tells : cond (has_session client h) (IsClosed h client told) (told ≡ [])
  pub left : HeldView
  pub leaves : Runs p h told left
  pub wills_are : cond (will_is_due client left) (OwnIsDone ticks p left client wills) (wills ≡ [])
  pub held : HeldView
  pub runs : Runs p left wills held
  pub ends_are : cond (end_is_due client held) (OwnIsDone ticks p held client ends) (ends ≡ [])

-- the node closes the connection of a client
abbrev pub ClosesOn : Place → HeldView → ℕ → List ℕ → List Act → Type 0
ClosesOn p h c client acts = (rest : List Act) × (acts ≡ Connection (Closed c) ∷ Out (Close c) ∷ rest) × Parts p (next h (Connection (Closed c))) client rest

-- the client, or the network, has closed it; before a client was accepted nothing else is done
abbrev pub LeavesFrom : Place → HeldView → ℕ → Option (List ℕ) → List Act → Type 0
LeavesFrom p h c None acts = acts ≡ Connection (Closed c) ∷ []
LeavesFrom p h c (Some client) acts = (rest : List Act) × (acts ≡ Connection (Closed c) ∷ rest) × Parts p (next h (Connection (Closed c))) client rest
