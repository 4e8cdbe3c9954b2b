-- A served node's turn in a world of nodes: the events that it decides, the commit, and a crash before it, amid it and after it.
use Rattle.std.specs.Prelude.{◌≡◌, ◌⊎◌, ℕ, List, [], ◌∷◌, Some, slice_get}
use Rattle.broker_node.specs.declared.event.Event.{Event}
use Rattle.cluster_play.specs.Worlds.{Site, World, world_with}
use Rattle.node_keeper.specs.declared.batch.BatchKeeper.{BatchKeeper}
use Rattle.node_keeper.specs.Batches.{Answered}
use Rattle.node_keeper.specs.BatchViews.{node_in, rows_in, waiting_in}
use Rattle.node_keeper.specs.declared.fault.KeeperFault.{KeeperFault}
use Rattle.node_server.specs.Serving.{IsCommitted, IsCutOff, IsHalted, IsTaken}
use Rattle.node_work.specs.View.{HeldView}
use Rattle.row_store.specs.Rows.{Content}
use Rattle.law_serving.specs.Turns.{CutAfter, CutBefore, IsRunOf, down, frames_of}

-- events are taken, one after another
abbrev pub EventsAreTaken : {R : Type 0} → BatchKeeper R → List Answered → BatchKeeper R → Type 0
EventsAreTaken k [] k' = k' ≡ k
EventsAreTaken {R = R} k (a ∷ more) k' = (m : BatchKeeper R) × IsTaken k a.0 a.1 m × EventsAreTaken m more k'

-- a node with what its rows hold
abbrev pub served_site : {R : Type 0} → (R → Content) → BatchKeeper R → Site
served_site content k = record { node = node_in k; rows = content (rows_in k) }

-- node i of the world is this one, it runs, nothing waits, and its rows are open: a turn begins, or what comes after a commit
pub record TurnBegins {R : Type 0} (is_open : R → Type 0) (content : R → Content) (w : World) (i : ℕ) (k : BatchKeeper R) : Type 0 where
  pub at : slice_get w.sites i ≡ Some (served_site content k)
  pub held : HeldView
  pub up : (node_in k).up ≡ Some held
  pub nothing : waiting_in k ≡ []
  pub stands : is_open (rows_in k)

module _ {R : Type 0} (is_open : R → Type 0) (content : R → Content) (may_leave : R → Content → Type 0) where
  -- a crash before the commit leaves the rows of before the events, and is a run in which none of them happened
  abbrev pub CrashBeforeCommit : Type 0
  CrashBeforeCommit =
      (w : World) (i : ℕ) (k k' : BatchKeeper R) (answered : List Answered) → TurnBegins is_open content w i k → EventsAreTaken k answered k'
      → (c : Content) → may_leave (rows_in k') c → CutBefore w i (down (node_in k) c)

  -- so it is where the node stops at an event
  abbrev pub CrashWhereHalted : Type 0
  CrashWhereHalted =
      (w : World) (i : ℕ) (k k' k'' : BatchKeeper R) (answered : List Answered) (e : Event) (fault : KeeperFault) → TurnBegins is_open content w i k → EventsAreTaken k answered k'
      → IsHalted k' e fault k'' → (c : Content) → may_leave (rows_in k'') c → CutBefore w i (down (node_in k) c)

module _ {R : Type 0} (is_clean is_open : R → Type 0) (content : R → Content) (may_leave : R → Content → Type 0) where
  -- events that are taken and committed are a run, and after it the next ones may begin
  abbrev pub SettledIsRun : Type 0
  SettledIsRun =
      (w : World) (i : ℕ) (k k' k'' : BatchKeeper R) (answered : List Answered) → TurnBegins is_open content w i k → EventsAreTaken k answered k'
      → IsCommitted is_clean is_open content may_leave k' k'' → is_clean (rows_in k'')
      → IsRunOf w i answered (served_site content k'') × TurnBegins is_open content (world_with w i (served_site content k'') (frames_of answered)) i k'' × is_clean (rows_in k)

  -- where the commit fails a crash leaves the rows of before the events or of after them all, and is a run in which none of them happened,
  -- or all
  abbrev pub CrashAmidCommit : Type 0
  CrashAmidCommit =
      (w : World) (i : ℕ) (k k' k'' : BatchKeeper R) (answered : List Answered) (fault : KeeperFault) → TurnBegins is_open content w i k → EventsAreTaken k answered k'
      → IsCutOff is_clean is_open content may_leave k' fault k'' → is_clean (rows_in k'')
      → (c : Content) → may_leave (rows_in k'') c → CutBefore w i (down (node_in k) c) ⊎ CutAfter w i answered (down (node_in k') c)

  -- a crash after the commit leaves the rows of after them all, whatever of their outputs was sent
  abbrev pub CrashAfterCommit : Type 0
  CrashAfterCommit =
      (w : World) (i : ℕ) (k k' k'' : BatchKeeper R) (answered : List Answered) → TurnBegins is_open content w i k → EventsAreTaken k answered k'
      → IsCommitted is_clean is_open content may_leave k' k'' → is_clean (rows_in k'')
      → (c : Content) → may_leave (rows_in k'') c → CutAfter w i answered (down (node_in k') c)
