-- Serving over sockets as a run of the node among the others.
use Rattle.std.specs.Prelude.{◌≡◌, ◌<◌, ℕ, List, [], ◌∷◌, ◌++◌, flat_map, Bool, Option}
use Rattle.std.specs.declared.net.socket_addr.SocketAddr.{SocketAddr}
use Rattle.broker_sockets.specs.declared.bridge.Given.{Given}
use Rattle.broker_sockets.specs.declared.bridge.PeerEvent.{PeerEvent}
use Rattle.broker_sockets.specs.declared.events.Event.{Event}
use Rattle.broker_sockets.specs.declared.events.Output.{Output}
use Rattle.broker_sockets.specs.declared.network.Answer.{Answer}
use Rattle.broker_sockets.specs.declared.ready.Ready.{Ready}
use Rattle.broker_sockets.specs.declared.ready.Watched.{Watched}
use Rattle.broker_turns.specs.declared.setting.Setting.{Setting}
use Rattle.broker_turns.specs.Serving.{IsServed}
use Rattle.broker_turns.specs.Turns.{IsStart, IsTurn, Site as Seat}
use Rattle.cluster_play.specs.Worlds.{World, world_with}
use Rattle.law_doors.specs.Calls.{Call}
use Rattle.node_keeper.specs.declared.batch.BatchKeeper.{BatchKeeper}
use Rattle.node_keeper.specs.Batches.{Answered}
use Rattle.node_keeper.specs.BatchViews.{rows_in}
use Rattle.node_server.specs.Events.{event_of, peer_event_of, table_event}
use Rattle.node_server.specs.Outputs.{AreForClients, AreForPeers}
use Rattle.node_server.specs.Views.{keeper_of}
use Rattle.row_store.specs.Rows.{Content}
use Rattle.law_serving.specs.Settling.{EventsAreTaken, TurnBegins, served_site}
use Rattle.law_serving.specs.Turns.{IsRunOf, frames_of}
use Rattle.door_tables.specs.Calls.{Handled, Heard, Made, Plain, Settled, Taken}
use Rattle.law_serving.specs.Traces.{IsServing, Round}
use Rattle.law_serving.specs.Doors.{ArePassedDown, Whole, calls_of, node_in}

-- ---- what the node is called, and what it makes of it

-- each event in order, at its moment, and no other; and of each was given out just what the node gave out
abbrev pub AreAnswersTo : List Made → List Answered → Type 0
AreAnswersTo [] [] = Unit {0}
AreAnswersTo [] (a ∷ answered) = ⊥
AreAnswersTo (Plain Settled ∷ made) answered = AreAnswersTo made answered
AreAnswersTo (Plain (Handled e outputs) ∷ made) [] = ⊥
AreAnswersTo (Plain (Handled e outputs) ∷ made) (a ∷ answered) = (a.0 ≡ event_of e) × AreForClients a.1 outputs × AreAnswersTo made answered
AreAnswersTo (Plain (Heard e given) ∷ made) [] = ⊥
AreAnswersTo (Plain (Heard e given) ∷ made) (a ∷ answered) =
    (a.0 ≡ peer_event_of e) × AreForClients a.1 given.outputs.items × AreForPeers a.1 given.frames.items × AreAnswersTo made answered
AreAnswersTo (Taken at homes outputs ∷ made) [] = ⊥
AreAnswersTo (Taken at homes outputs ∷ made) (a ∷ answered) = (a.0 ≡ table_event at homes) × AreForClients a.1 outputs × AreAnswersTo made answered

-- ---- a run

module _ {R : Type 0} (is_open : R → Type 0) (content : R → Content) where
  -- The node takes these events and commits them: in each world in which node i stands so before them it is a run of just these events and what was given
  -- out at them, and leads to the world in which it stands so after them.
  pub record IsCommit (k : BatchKeeper R) (answered : List Answered) (k' : BatchKeeper R) : Type 0 where
    pub run : (w : World) (i : ℕ) → TurnBegins is_open content w i k → IsRunOf w i answered (served_site content k')
    pub stands : (w : World) (i : ℕ) → TurnBegins is_open content w i k → TurnBegins is_open content (world_with w i (served_site content k') (frames_of answered)) i k'

  abbrev pub AreCommits : BatchKeeper R → List (List Answered) → BatchKeeper R → Type 0
  AreCommits k [] k' = k' ≡ k
  AreCommits k (events ∷ more) k' = (m : BatchKeeper R) × IsCommit k events m × AreCommits m more k'

  -- what it has answered was committed so, one part after another, and the rest waits
  pub record IsRunSoFar (k : BatchKeeper R) (answered : List Answered) (k' : BatchKeeper R) : Type 0 where
    pub commits : List (List Answered)
    pub waits : List Answered
    pub all : answered ≡ flat_map (λ (events : List Answered). events) commits ++ waits
    pub last : BatchKeeper R
    pub runs : AreCommits k commits last
    pub taken : EventsAreTaken last waits k'

-- all calls of the handler, in order
abbrev pub hub_calls : {T : Type 0} → List (Round T) → List Call
hub_calls rounds = flat_map calls_of (flat_map (λ (round : Round _). round.calls) rounds)

module _
    {R F G E W S L T C : Type 0} (accepts : S → L → Option T → S → Type 0) (watches : S → T → Watched → Bool → S → Type 0) (connects : S → SocketAddr → Option T → S → Type 0)
    (reads : S → T → Answer → List ℕ → S → T → Type 0) (writes : S → T → List ℕ → Answer → S → T → Type 0) (finds : S → Ready → S → Type 0)
    (handles : Whole R F G E W → Event → List Output → Whole R F G E W → Type 0) (hears : Whole R F G E W → PeerEvent → Given → Whole R F G E W → Type 0)
    (settles : Whole R F G E W → Whole R F G E W → Type 0) (tells : C → ℕ → C → Type 0)
    (is_clean is_open : R → Type 0) (content : R → Content) where
  -- All that passes at the doors of the hub is this. The handlers pass it down to the node, each as its limits say, and nothing else. The node's events are
  -- just that, in order, and what it gave out goes up the same way. They are runs of the cluster, one for each commit, and after each turn all is committed.
  pub record IsServedRun (setting : Setting L) (turns : ℕ) (c : C) (old : Seat S (Whole R F G E W) T) (c' : C) (new : Seat S (Whole R F G E W) T) : Type 0 where
    pub trace : IsServing accepts watches connects reads writes finds handles hears settles tells setting turns c old c' new
    pub made : List Made
    pub passed : ArePassedDown old.place.reach.near.handler new.place.reach.near.handler (hub_calls (trace.first ∷ trace.rounds)) made
    pub answered : List Answered
    pub just : AreAnswersTo made answered
    pub run : IsRunSoFar is_open content (keeper_of (node_in old.place.reach.near.handler)) answered (keeper_of (node_in new.place.reach.near.handler))
    pub committed : 0 < turns → run.waits ≡ []

  -- whatever turns the program makes
  abbrev pub ServeIsARun : Type 0
  ServeIsARun =
      (setting : Setting L) (turns : ℕ) (c c' : C) (old new : Seat S (Whole R F G E W) T)
      → IsServed tells (IsStart handles) (IsTurn accepts watches connects reads writes finds handles hears settles setting) turns c old c' new
      → is_clean (rows_in (keeper_of (node_in new.place.reach.near.handler)))
      → IsServedRun setting turns c old c' new
