-- A turn over sockets of a node that is served behind its doors, in a world of nodes.
use Rattle.std.specs.Prelude.{◌≡◌, ℕ, List, Bool, Option}
use Rattle.std.specs.declared.net.socket_addr.SocketAddr.{SocketAddr}
use Rattle.broker_sockets.specs.declared.bridge.Given.{Given}
use Rattle.broker_sockets.specs.declared.bridge.PeerEvent.{PeerEvent}
use Rattle.broker_sockets.specs.declared.events.Event.{Event}
use Rattle.broker_sockets.specs.declared.events.Output.{Output}
use Rattle.broker_sockets.specs.declared.network.Answer.{Answer}
use Rattle.broker_sockets.specs.declared.ready.Ready.{Ready}
use Rattle.broker_sockets.specs.declared.ready.Watched.{Watched}
use Rattle.broker_turns.specs.declared.setting.Setting.{Setting}
use Rattle.broker_turns.specs.Turns.{IsStart, IsTurn, Site as Seat}
use Rattle.door_log.specs.Views.{inside_of as limited_in}
use Rattle.cluster_play.specs.Worlds.{World, world_with}
use Rattle.node_keeper.specs.declared.batch.BatchKeeper.{BatchKeeper}
use Rattle.node_keeper.specs.Batches.{Answered}
use Rattle.node_keeper.specs.BatchViews.{rows_in}
use Rattle.node_server.specs.declared.served.ServedNode.{ServedNode}
use Rattle.node_server.specs.Stack.{TalliedNode, node_behind}
use Rattle.node_server.specs.Views.{keeper_of}
use Rattle.row_store.specs.Rows.{Content}
use Rattle.node_server.specs.Viewing.{inside_of as looked_at}
use Rattle.node_server.specs.declared.viewed.Viewed.{Viewed}
use Rattle.status_tally.specs.Views.{inside_of as logged_in}
use Rattle.law_serving.specs.Settling.{EventsAreTaken, TurnBegins, served_site}
use Rattle.law_serving.specs.Turns.{IsRunOf, frames_of}

-- a served node behind newer tables of homes, users, limits, a log and counts, and behind somebody who looks at it
abbrev pub Door : Type 0 → Type 0 → Type 0 → Type 0 → Type 0 → Type 0
Door R F G E W = Viewed (TalliedNode R F G E) W

-- the served node behind its doors
abbrev pub behind_doors : {R F G E W : Type 0} → Door R F G E W → ServedNode R
behind_doors d = node_behind (limited_in (logged_in (looked_at d)))

-- the served node among the sockets
abbrev pub served_in : {S R F G E W T : Type 0} → Seat S (Door R F G E W) T → ServedNode R
served_in v = behind_doors v.place.reach.near.handler

module _ {R : Type 0} (is_open : R → Type 0) (content : R → Content) where
  -- node i of the world is the served node as it was at its last commit, and it has taken these events since
  pub record HasTakenSince (w : World) (i : ℕ) (pending : List Answered) (s : ServedNode R) : Type 0 where
    pub before : BatchKeeper R
    pub begins : TurnBegins is_open content w i before
    pub taken : EventsAreTaken before pending (keeper_of s)

  -- a run of node i with these events leads to the served node as it is, which has committed all
  pub record HasCommitted (w : World) (i : ℕ) (answered : List Answered) (s : ServedNode R) : Type 0 where
    pub run : IsRunOf w i answered (served_site content (keeper_of s))
    pub begins : TurnBegins is_open content (world_with w i (served_site content (keeper_of s)) (frames_of answered)) i (keeper_of s)

  -- before the first turn a node that stands is told that it has started, which waits for the first commit
  abbrev pub StartIsTaken : (S T F G E W : Type 0) → (Door R F G E W → Event → List Output → Door R F G E W → Type 0) → Type 0
  StartIsTaken S T F G E W handles =
      (at : ℕ) (old new : Seat S (Door R F G E W) T) → IsStart handles at old new
      → (w : World) (i : ℕ) (pending : List Answered) → HasTakenSince w i pending (served_in old) → (more : List Answered) × HasTakenSince w i more (served_in new)

module _ {R F G E W S L T : Type 0} (is_clean is_open : R → Type 0) (content : R → Content)
    (accepts : S → L → Option T → S → Type 0) (watches : S → T → Watched → Bool → S → Type 0) (connects : S → SocketAddr → Option T → S → Type 0)
    (reads : S → T → Answer → List ℕ → S → T → Type 0) (writes : S → T → List ℕ → Answer → S → T → Type 0) (finds : S → Ready → S → Type 0)
    (handles : Door R F G E W → Event → List Output → Door R F G E W → Type 0) (hears : Door R F G E W → PeerEvent → Given → Door R F G E W → Type 0)
    (settles : Door R F G E W → Door R F G E W → Type 0) where
  -- a turn, with what was taken before it, is a run, and all of it is committed; where the rows are clean after it, they were before it
  abbrev pub SocketTurnIsRun : Type 0
  SocketTurnIsRun =
      (setting : Setting L) (at : ℕ) (old new : Seat S (Door R F G E W) T) → IsTurn accepts watches connects reads writes finds handles hears settles setting at old new
      → (w : World) (i : ℕ) (pending : List Answered) → HasTakenSince is_open content w i pending (served_in old) → is_clean (rows_in (keeper_of (served_in new)))
      → (answered : List Answered) × HasCommitted is_open content w i answered (served_in new) × is_clean (rows_in (keeper_of (served_in old)))
