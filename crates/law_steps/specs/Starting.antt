-- What comes of Started.
use Rattle.std.specs.Prelude.{◌≡◌, ◌≢◌, ℕ, max, true, false, cond, List, [], ◌∷◌, ◌++◌, Some, None}
use Rattle.law_sessions.specs.Runs.{closes}
use Rattle.session_table.specs.Seats.{connected}
use Rattle.node_work.specs.Acts.{Act, MomentTaken, Began, Session, Runs}
use Rattle.node_work.specs.Held.Sessions.{SessionStep, Called, has_session}
use Rattle.node_work.specs.View.{Place, HeldView}
use Rattle.broker_node.specs.declared.event.Event.{Event}
use Rattle.broker_node.specs.declared.event.EventKind.TheVariants as kinds
use Rattle.broker_node.specs.Turns.{Decides}
use Rattle.law_steps.specs.Tables.{ClientsGo}
use Rattle.law_steps.specs.Due.{DueIsDone}

-- a session is told that its connection is closed, and nothing follows
pub record IsClosed (h : HeldView) (client : List ℕ) (acts : List Act) : Type 0 where
  pub call : SessionStep
  pub is : acts ≡ Session (Called call) ∷ []
  pub of : call.client ≡ client
  pub off : call.on ≡ None
  pub event : call.event ≡ closes h.at

-- each of these clients' in turn
abbrev pub AreClosed : Place → List (List ℕ) → HeldView → List Act → HeldView → Type 0
AreClosed p [] h acts last = (acts ≡ []) × (last ≡ h)
AreClosed p (client ∷ clients) h acts last =
    (own : List Act) × (mid : HeldView) × (rest : List Act) × (acts ≡ own ++ rest) × Runs p h own mid × cond (has_session client h) (IsClosed h client own) (own ≡ []) × AreClosed p clients mid rest last

-- the moment is taken, and the node has started; the stored sessions that were connected are closed, by their clients' bytes; what is due is done; and
-- then the clients go whose home is elsewhere. Nothing else is done.
pub record BeginsAtStart (p : Place) (h : HeldView) (at : ℕ) (acts : List Act) (last : HeldView) : Type 0 where
  pub closed : List Act
  pub due : List Act
  pub away : List Act
  pub is : acts ≡ MomentTaken at ∷ Began ∷ (closed ++ (due ++ away))
  pub mid : HeldView
  pub closes_all : AreClosed p (connected h.sessions) (record h { at = max h.at at; started = true }) closed mid
  pub mid2 : HeldView
  pub does_due : DueIsDone p mid due mid2
  pub sends : ClientsGo p mid2 away last

abbrev pub StartsBegin : Type 0
StartsBegin =
    (e : Event) (p : Place) (h last : HeldView) (acts : List Act) → Decides e (Some tt) p h acts → Runs p h acts last → e.kind ≡ kinds.Started → h.started ≡ false → BeginsAtStart p h e.at acts last

-- a second one does nothing
abbrev pub StartsComeOnce : Type 0
StartsComeOnce = (e : Event) (p : Place) (h : HeldView) (acts : List Act) → Decides e (Some tt) p h acts → e.kind ≡ kinds.Started → h.started ≡ true → acts ≡ MomentTaken e.at ∷ []

-- and before it nothing else does anything
abbrev pub AllWaitForStart : Type 0
AllWaitForStart = (e : Event) (p : Place) (h : HeldView) (acts : List Act) → Decides e (Some tt) p h acts → e.kind ≢ kinds.Started → h.started ≡ false → acts ≡ MomentTaken e.at ∷ []
