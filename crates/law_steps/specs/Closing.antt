-- What comes of a connection that a client has opened, and of one that its client or the network has closed (MQTT 5.0, 3.1.2.5 and 3.14.4).
use Rattle.std.specs.Prelude.{◌≡◌, ℕ, true, cond, List, [], ◌∷◌, Option, Some, None}
use Rattle.law_sessions.specs.Runs.{closes}
use Rattle.node_work.specs.Acts.{Act, Connection, Session}
use Rattle.node_work.specs.Held.Connections.{Closed, Opened, client_at, is_open}
use Rattle.node_work.specs.Held.Sessions.{SessionStep, Called, has_session}
use Rattle.node_work.specs.View.{Place, HeldView}
use Rattle.broker_node.specs.declared.event.Event.{Event}
use Rattle.broker_node.specs.declared.event.EventKind.TheVariants as kinds
use Rattle.broker_node.specs.Turns.{Decides}
use Rattle.law_steps.specs.Due.{DueFirst}

-- ---- opened
-- first comes what is due; one that isn't open then is opened, and nothing else is done
pub record IsOpenedLast (p : Place) (h : HeldView) (at c : ℕ) (acts : List Act) : Type 0 where
  pub first : DueFirst p h at acts
  pub opened : cond (is_open c first.held) (first.rest ≡ []) (first.rest ≡ Connection (Opened c) ∷ [])

-- in each step of a node that has started
abbrev pub ConnectionsAreOpened : Type 0
ConnectionsAreOpened = (e : Event) (p : Place) (h : HeldView) (acts : List Act) → Decides e (Some tt) p h acts → (c : ℕ) → e.kind ≡ kinds.Opened c → h.started ≡ true → IsOpenedLast p h e.at c acts

-- ---- closed
-- the client's session is told next, before its will or its end where that is due then
pub record IsTold (h : HeldView) (client : List ℕ) (acts : List Act) : Type 0 where
  pub call : SessionStep
  pub follows : List Act
  pub is : acts ≡ Session (Called call) ∷ follows
  pub of : call.client ≡ client
  pub off : call.on ≡ None
  pub event : call.event ≡ closes h.at

-- the connection is taken out; of one without a client nothing else is done
abbrev pub IsLeft : HeldView → ℕ → Option (List ℕ) → List Act → Type 0
IsLeft h c None acts = acts ≡ Connection (Closed c) ∷ []
IsLeft h c (Some client) acts = (own : List Act) × (acts ≡ Connection (Closed c) ∷ own) × cond (has_session client h) (IsTold h client own) (own ≡ [])

-- first comes what is due; of a connection that isn't open then nothing is done
pub record IsClosedLast (p : Place) (h : HeldView) (at c : ℕ) (acts : List Act) : Type 0 where
  pub first : DueFirst p h at acts
  pub left : cond (is_open c first.held) (IsLeft first.held c (client_at c first.held) first.rest) (first.rest ≡ [])

-- in each step of a node that has started
abbrev pub ClosesAreTold : Type 0
ClosesAreTold = (e : Event) (p : Place) (h : HeldView) (acts : List Act) → Decides e (Some tt) p h acts → (c : ℕ) → e.kind ≡ kinds.Closed c → h.started ≡ true → IsClosedLast p h e.at c acts
