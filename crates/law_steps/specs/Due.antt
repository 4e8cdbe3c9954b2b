-- What comes first in a step of a node that has started: what is due (MQTT 5.0, 3.1.2.5, 3.1.2.10 and 3.1.2.11.2).
use Rattle.std.specs.Prelude.{◌≡◌, ◌≢◌, ◌↔◌, ℕ, ◌+◌, ◌*◌, ◌<◌, ◌≤◌, max, true, false, cond, List, [], ◌∷◌, ◌++◌, Option, Some, None}
use Rattle.std.specs.FinMap as map
use Rattle.session_table.specs.Dues.{Due}
use Rattle.mqtt_sessions.specs.State.{Link}
use Rattle.law_sessions.specs.Runs.{closes, ticks}
use Rattle.session_table.specs.Seats.{Seat, run_outs, wills_due, ends_due}
use Rattle.node_work.specs.declared.outcome.Output.TheVariants.{Close}
use Rattle.node_work.specs.Acts.{Act, MomentTaken, Connection, Session, Out, Runs}
use Rattle.node_work.specs.Held.Connections.{Closed}
use Rattle.node_work.specs.Held.Sessions.{SessionStep, Called, has_session, takes_disconnect}
use Rattle.node_work.specs.View.{Place, HeldView}
use Rattle.broker_node.specs.declared.event.Event.{Event}
use Rattle.broker_node.specs.declared.event.EventKind.TheVariants as kinds
use Rattle.broker_node.specs.Turns.{Decides}
use Rattle.law_runs.specs.StepSending.{IsIn}

-- ---- what is due
-- the Keep Alive of a client's connection has run out: at this moment no packet has come for one and a half times its seconds
pub record HasRunOut (h : HeldView) (c : ℕ) (client : List ℕ) : Type 0 where
  pub seat : Seat
  pub found : map.get h.sessions client ≡ Some seat
  pub on : seat.connection ≡ Some c
  pub link : Link
  pub linked : seat.session.link ≡ Some link
  pub counts : 0 < link.keep_alive
  pub late : link.last + 1500 * link.keep_alive ≤ h.at

-- those connections, each with its client, and no others
abbrev pub RunOutsAreExact : Type 0
RunOutsAreExact = (h : HeldView) (d : Due) → IsIn d (run_outs h.sessions h.at) ↔ HasRunOut h d.0 d.1

-- ---- what is done of it
-- Keep Alive timeout: the client's session ends the connection with 0x8D, or without a DISCONNECT where that is longer than the client takes; the
-- connection is closed, and a close goes out; and the session is told
pub record TimesOut (h : HeldView) (d : Due) (acts : List Act) : Type 0 where
  pub call : SessionStep
  pub leave : SessionStep
  pub is : acts ≡ Session (Called call) ∷ Connection (Closed d.0) ∷ Out (Close d.0) ∷ Session (Called leave) ∷ []
  pub of : call.client ≡ d.1
  pub on : call.on ≡ Some d.0
  pub event : call.event ≡ ticks h.at
  pub ends : call.reaction.end ≡ Some (cond (takes_disconnect d.1 141 h) 141 0)
  pub leave_of : leave.client ≡ d.1
  pub off : leave.on ≡ None
  pub leave_event : leave.event ≡ closes h.at

-- a client's session does one thing that is due of it: its will, which the node is asked to pass on, or its end; where it is neither nothing follows
pub record IsTicked (h : HeldView) (client : List ℕ) (acts : List Act) : Type 0 where
  pub call : SessionStep
  pub follows : List Act
  pub is : acts ≡ Session (Called call) ∷ follows
  pub of : call.client ≡ client
  pub event : call.event ≡ ticks h.at
  pub quiet : call.reaction.ask ≡ None → call.reaction.over ≡ false → follows ≡ []

abbrev pub OneTick : HeldView → Due → List Act → Type 0
OneTick h d acts = cond (has_session d.1 h) (IsTicked h d.1 acts) (acts ≡ [])

-- each of these in turn
abbrev pub InOrder : (HeldView → Due → List Act → Type 0) → Place → List Due → HeldView → List Act → HeldView → Type 0
InOrder One p [] h acts last = (acts ≡ []) × (last ≡ h)
InOrder One p (d ∷ ds) h acts last = (own : List Act) × (mid : HeldView) × (rest : List Act) × (acts ≡ own ++ rest) × Runs p h own mid × One h d own × InOrder One p ds mid rest last

-- the connections whose Keep Alive has run out, by rising number; then the wills that are due, by their moment and their client; then the sessions
-- whose end has come, by that moment and their client
pub record DueIsDone (p : Place) (h : HeldView) (acts : List Act) (last : HeldView) : Type 0 where
  pub outs : List Act
  pub wills : List Act
  pub ends : List Act
  pub is : acts ≡ outs ++ (wills ++ ends)
  pub mid : HeldView
  pub outs_are : InOrder TimesOut p (run_outs h.sessions h.at) h outs mid
  pub mid2 : HeldView
  pub wills_are : InOrder OneTick p (wills_due mid.sessions mid.at) mid wills mid2
  pub ends_are : InOrder OneTick p (ends_due mid2.sessions mid2.at) mid2 ends last

-- ---- in a step
-- a Tick is just that, at the moment that it brings
pub record TickIsDue (p : Place) (h : HeldView) (at : ℕ) (acts : List Act) (last : HeldView) : Type 0 where
  pub own : List Act
  pub is : acts ≡ MomentTaken at ∷ own
  pub done : DueIsDone p (record h { at = max h.at at }) own last

abbrev pub TicksDoWhatIsDue : Type 0
TicksDoWhatIsDue =
    (e : Event) (p : Place) (h last : HeldView) (acts : List Act) → Decides e (Some tt) p h acts → Runs p h acts last → e.kind ≡ kinds.Tick → h.started ≡ true → TickIsDue p h e.at acts last

-- another event comes after it: first the node does what it does at a Tick of that moment
pub record DueFirst (p : Place) (h : HeldView) (at : ℕ) (acts : List Act) : Type 0 where
  pub due : List Act
  pub rest : List Act
  pub is : acts ≡ due ++ rest
  pub ticks : Decides (record { at = at; kind = kinds.Tick }) (Some tt) p h due
  pub held : HeldView
  pub runs : Runs p h due held

abbrev pub EventsComeAfterDue : Type 0
EventsComeAfterDue = (e : Event) (p : Place) (h : HeldView) (acts : List Act) → Decides e (Some tt) p h acts → h.started ≡ true → e.kind ≢ kinds.Started → DueFirst p h e.at acts
