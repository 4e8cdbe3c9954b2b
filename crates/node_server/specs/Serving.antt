-- What a node that is served makes of an event, and when its rows are changed.
use Rattle.std.specs.Prelude.{◌≡◌, ◌≢◌, ◌⊎◌, List, [], None}
use Rattle.broker_node.specs.declared.event.Event.{Event}
use Rattle.broker_sockets.specs.declared.bridge.Given.{Given}
use Rattle.broker_sockets.specs.declared.events.Output.{Output as Handed}
use Rattle.node_keeper.specs.declared.batch.BatchKeeper.{BatchKeeper}
use Rattle.node_keeper.specs.Batches.{IsDecided, IsOfRows}
use Rattle.node_keeper.specs.BatchViews.{node_in, rows_in, waiting_in}
use Rattle.node_keeper.specs.declared.fault.KeeperFault.{KeeperFault}
use Rattle.node_keeper.specs.Keeping.{KeeperHasCauseAt}
use Rattle.node_server.specs.Outputs.{AreForClients, AreForPeers}
use Rattle.node_work.specs.declared.outcome.Output.{Output}
use Rattle.row_store.specs.Rows.{Content, after_all}

module _ {R : Type 0} where
  -- a crash: the node is down, its rows stay, and what waited is gone
  pub record IsCrashed (k k' : BatchKeeper R) : Type 0 where
    pub node : node_in k' ≡ record (node_in k) { up = None }
    pub rows : rows_in k' ≡ rows_in k
    pub nothing : waiting_in k' ≡ []

  -- the node decides the event, which gives these outputs; the changes of its rows wait
  pub record IsTaken (k : BatchKeeper R) (e : Event) (made : List Output) (k' : BatchKeeper R) : Type 0 where
    pub decided : IsDecided (node_in k) (waiting_in k) e made (node_in k') (waiting_in k')
    pub rows : rows_in k' ≡ rows_in k

  -- and the sockets are given of the outputs what they are to have
  pub record IsAnswered (k : BatchKeeper R) (e : Event) (handed : List Output → Type 0) (k' : BatchKeeper R) : Type 0 where
    pub made : List Output
    pub taken : IsTaken k e made k'
    pub passed : handed made

  -- at an event of clients they are given what is for clients
  abbrev pub IsAnsweredToClients : BatchKeeper R → Event → List Handed → BatchKeeper R → Type 0
  IsAnsweredToClients k e handed k' = IsAnswered k e (λ made. AreForClients made handed) k'

  -- at an event of other nodes they are given all
  abbrev pub IsAnsweredToAll : BatchKeeper R → Event → Given → BatchKeeper R → Type 0
  IsAnsweredToAll k e given k' = IsAnswered k e (λ made. AreForClients made given.outputs.items × AreForPeers made given.frames.items) k'

  -- the node has stopped with a cause, also where there is no memory for what it gave out; its rows are as they were, and what waited is
  -- gone
  pub record IsHalted (k : BatchKeeper R) (e : Event) (fault : KeeperFault) (k' : BatchKeeper R) : Type 0 where
    pub down : (node_in k').up ≡ None
    pub cause : KeeperHasCauseAt (node_in k).up (node_in k).place e fault
    pub rows : rows_in k' ≡ rows_in k
    pub nothing : waiting_in k' ≡ []

-- the rows after all changes that wait
abbrev pub committed : {R : Type 0} → (R → Content) → BatchKeeper R → Content
committed content k = after_all (content (rows_in k)) (waiting_in k)

module _ {R : Type 0} (is_clean is_open : R → Type 0) (content : R → Content) (may_leave : R → Content → Type 0) where
  -- the changes that waited are made, at once, and a crash from then on leaves them made; where none waited the rows are as they were
  pub record IsCommitted (k k' : BatchKeeper R) : Type 0 where
    pub node : node_in k' ≡ node_in k
    pub nothing : waiting_in k' ≡ []
    pub same : waiting_in k ≡ [] → rows_in k' ≡ rows_in k
    pub was_clean : is_clean (rows_in k') → is_clean (rows_in k)
    pub written : is_clean (rows_in k') → is_open (rows_in k) → is_open (rows_in k') × (content (rows_in k') ≡ committed content k)
    pub left : is_clean (rows_in k') → is_open (rows_in k) → (c : Content) → may_leave (rows_in k') c → c ≡ committed content k

  -- changes waited and can't be made, and the node has stopped; a crash leaves the rows as they were, or with all of these changes
  pub record IsCutOff (k : BatchKeeper R) (fault : KeeperFault) (k' : BatchKeeper R) : Type 0 where
    pub down : (node_in k').up ≡ None
    pub nothing : waiting_in k' ≡ []
    pub some : waiting_in k ≢ []
    pub cause : IsOfRows fault
    pub kept : is_clean (rows_in k') → is_open (rows_in k') → content (rows_in k') ≡ content (rows_in k)
    pub left :
        is_clean (rows_in k') → is_open (rows_in k) → (c : Content) → may_leave (rows_in k') c
        → (c ≡ content (rows_in k)) ⊎ (c ≡ committed content k)
