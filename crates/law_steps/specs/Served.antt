-- That each client that is connected is served, in every run.
use Rattle.std.specs.Prelude.{◌≡◌, ℕ, true, false, List, ◌∷◌, ◌++◌, Some}
use Rattle.std.specs.FinMap as map
use Rattle.node_work.specs.Acts.{Act}
use Rattle.node_work.specs.Held.Connections.{client_at}
use Rattle.node_work.specs.View.{Place, HeldView, ConnectionView}
use Rattle.broker_node.specs.declared.event.Event.{Event}
use Rattle.broker_node.specs.declared.event.EventKind.TheVariants as kinds
use Rattle.cluster_play.specs.Worlds.{World}
use Rattle.cluster_play.specs.Runs.{Played}
use Rattle.cluster_play.specs.Histories.{Reached, acts_of, event_committed}
use Rattle.cluster_play.specs.Agreement.{Holds}
use Rattle.law_steps.specs.Due.{DueFirst}
use Rattle.law_steps.specs.Lifted.{IsStepOf}
use Rattle.law_steps.specs.Taking.{IsServed, TakeNothing, TakesBytes}

-- each open connection that has a client is the one that its client's session is on
abbrev pub ConnectionsAreServed : HeldView → Type 0
ConnectionsAreServed h = (c : ℕ) (client : List ℕ) → client_at c h ≡ Some client → IsServed h c client

abbrev pub ConnectionsStayServed : Type 0
ConnectionsStayServed = (run : List Played) (w : World) → Reached run w → (i : ℕ) (h : HeldView) → Holds w i h → ConnectionsAreServed h

-- ---- bytes in a run
-- what is due comes first; where the connection has a client then, its session takes the packets that the bytes make whole
pub record BytesOfClient (p : Place) (h : HeldView) (at c : ℕ) (bytes : List ℕ) (acts : List Act) : Type 0 where
  pub first : DueFirst p h at acts
  pub none : TakeNothing first.due
  pub taken :
      (found : ConnectionView) (client : List ℕ) → map.get first.held.connections c ≡ Some found → found.client ≡ Some client → found.stream.failed ≡ false
      → TakesBytes p first.held c client bytes found first.rest

-- of each step of a node that has started
abbrev pub PacketsOfRunsAreTaken : Type 0
PacketsOfRunsAreTaken =
    (run later : List Played) (m : Played) (w : World) → Reached (run ++ m ∷ later) w → (e : Event) → event_committed m.fate ≡ Some e
    → (c : ℕ) (bytes : List ℕ) → e.kind ≡ kinds.Piece c bytes
    → (s : IsStepOf run m e) × (s.held.started ≡ true → BytesOfClient s.holds.site.node.place s.held e.at c bytes (acts_of m.fate))
