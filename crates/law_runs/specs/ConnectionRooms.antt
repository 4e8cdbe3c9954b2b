-- What a node does where a connection is told how many bytes of PUBLISHes at QoS 1 and 2 it takes from now on.
use Rattle.std.specs.Prelude.{◌≡◌, ℕ, max, true, cond, List, [], ◌∷◌, Option, Some, None}
use Rattle.law_sessions.specs.Runs.{rooms}
use Rattle.node_work.specs.Acts.{Act, MomentTaken, Connection, Session}
use Rattle.node_work.specs.Held.Connections.{Roomed, client_at, is_open}
use Rattle.node_work.specs.Held.Sessions.{SessionStep, Called, has_session}
use Rattle.node_work.specs.View.{Place, HeldView}
use Rattle.broker_node.specs.declared.event.Event.{Event}
use Rattle.broker_node.specs.declared.event.EventKind.TheVariants as kinds
use Rattle.broker_node.specs.Idle.{NothingDue}
use Rattle.broker_node.specs.Turns.{Decides}

-- the client's session is called with it, once
pub record CallsWithRoom (client : List ℕ) (bytes at : ℕ) (acts : List Act) : Type 0 where
  pub call : SessionStep
  pub is : acts ≡ Session (Called call) ∷ []
  pub of : call.client ≡ client
  pub event : call.event ≡ rooms bytes at

-- before its client is accepted an open connection keeps it; afterwards the session of that client is told
abbrev pub IsToldOf : ℕ → ℕ → ℕ → HeldView → Option (List ℕ) → List Act → Type 0
IsToldOf c bytes at h None acts = acts ≡ Connection (Roomed c bytes) ∷ []
IsToldOf c bytes at h (Some client) acts = cond (has_session client h) (CallsWithRoom client bytes at acts) (acts ≡ [])

-- of a node that has started, at which nothing is due, these are all acts after the moment is taken; where the connection isn't open
-- there is none
abbrev pub RoomIsTold : Type 0
RoomIsTold =
    (e : Event) (p : Place) (h : HeldView) (acts : List Act) → Decides e (Some tt) p h acts
    → (c bytes : ℕ) → e.kind ≡ kinds.Room c bytes → h.started ≡ true → NothingDue (record h { at = max h.at e.at })
    → (own : List Act) × (acts ≡ MomentTaken e.at ∷ own) × cond (is_open c h) (IsToldOf c bytes (max h.at e.at) h (client_at c h) own) (own ≡ [])
