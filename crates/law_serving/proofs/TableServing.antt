-- A served node that has started goes by the newer table of homes that it took last.
use Rattle.std.proofs.Common.{◌≡◌, ◌⊎◌, inl, inr, ℕ, ◌<◌, Bool, true, false, cond, List, [], ◌∷◌, ◌++◌, length, Option, Some, refl, sym, ap, subst, ◌∙◌}
use Rattle.std.proofs.lemmas.Option.{same_Some}
use Rattle.broker_node.proofs.Tables.{nodes_stay, table_stays}
use Rattle.broker_node.specs.declared.event.Event.{Event}
use Rattle.broker_node.specs.declared.event.EventKind.TheVariants as kinds
use Rattle.broker_node.specs.Step.{MayBringTables, Steps, may_move}
use Rattle.broker_sockets.specs.declared.bridge.Given.{Given}
use Rattle.broker_sockets.specs.declared.bridge.PeerEvent.{PeerEvent}
use Rattle.broker_sockets.specs.declared.bridge.PeerEventKind.{PeerEventKind}
use Rattle.broker_sockets.specs.declared.bridge.PeerEventKind.TheVariants as peers
use Rattle.broker_sockets.specs.declared.events.Event.{Event as Told}
use Rattle.broker_sockets.specs.declared.events.EventKind.{EventKind as ToldKind}
use Rattle.broker_sockets.specs.declared.events.EventKind.TheVariants as told
use Rattle.broker_sockets.specs.declared.events.Output.{Output as Handed}
use Rattle.home_table.specs.Table.{Table}
use Rattle.law_steps.proofs.Having.{due_tables}
use Rattle.law_steps.proofs.TableLaws.{tables_are_taken}
use Rattle.law_steps.specs.Tables as moves
use Rattle.node_keeper.specs.Batches.{IsDecided}
use Rattle.node_keeper.specs.BatchViews.{waiting_in}
use Rattle.node_server.specs.declared.served.ServedNode.{ServedNode}
use Rattle.node_server.specs.Events.{event_of, kind_of, peer_event_of, peer_kind_of, table_event}
use Rattle.node_server.specs.Serving.{IsAnsweredToAll, IsAnsweredToClients}
use Rattle.node_server.specs.Stack.{TabledNode}
use Rattle.node_server.specs.Views.{keeper_of}
use Rattle.node_work.proofs.Homes.{homes_stay}
use Rattle.node_work.proofs.Working.{gather-append}
use Rattle.node_work.specs.Acts.{Act, MomentTaken, Began, Moved, Store, Connection, Session, Bridge, Out, Named, Acknowledged, Passed, Dropped, Runs, gather, moved_in, next}
use Rattle.node_work.specs.declared.outcome.Output.{Output}
use Rattle.node_work.specs.Held.Bridge.{BridgeAct, Put, Took, Got, Believed, Greeted, Gave, Left_out, bridged}
use Rattle.node_work.specs.Held.Connections.{ConnectionAct, Opened, Fed, Roomed, Accepted, Closed, after_connection_act}
use Rattle.node_work.specs.Held.Sessions.{SessionAct, Begun, Called, Over, called}
use Rattle.node_work.specs.View.{HeldView, NodeView, Place, nodes_of}
use Rattle.law_runs.proofs.Splits.{runs_split, tail_is}
use Rattle.row_store.specs.declared.row.Change.{Change}
use Rattle.law_serving.specs.Tabled.{HasStarted, ServedTablesRise, node_of}
use Rattle.door_tables.proofs.Taking.{KeepsTable, versions_rise}
use Rattle.door_tables.specs.Answering.{IsAnswered as IsTabled, IsHeard as IsTabledOfPeers, IsSettled as IsSettledWithTables}
use Rattle.door_tables.specs.Calls as calls
use Rattle.door_tables.specs.Newer.{IsNewer}

-- ---- what has started stays so

connection_started : (h : HeldView) (a : ConnectionAct) → (after_connection_act h a).started ≡ h.started
connection_started h (Opened c) = refl
connection_started h (Fed c piece) = refl
connection_started h (Roomed c bytes) = refl
connection_started h (Accepted c client) = refl
connection_started h (Closed c) = refl

session_started : (h : HeldView) (a : SessionAct) → (called h a).started ≡ h.started
session_started h (Begun client) = refl
session_started h (Called s) = refl
session_started h (Over client) = refl

bridge_started : (h : HeldView) (a : BridgeAct) → (bridged h a).started ≡ h.started
bridge_started h (Put peer m) = refl
bridge_started h (Took peer number m copies lost) = refl
bridge_started h (Got peer number) = refl
bridge_started h (Believed peer dots) = refl
bridge_started h (Greeted peer g) = refl
bridge_started h (Gave f) = refl
bridge_started h (Left_out what) = refl

act_started : (h : HeldView) (a : Act) → h.started ≡ true → (next h a).started ≡ true
act_started h (MomentTaken at) started = started
act_started h Began started = refl
act_started h (Moved homes) started = started
act_started h (Store a) started = started
act_started h (Connection a) started = connection_started h a ∙ started
act_started h (Session a) started = session_started h a ∙ started
act_started h (Bridge a) started = bridge_started h a ∙ started
act_started h (Out o) started = started
act_started h (Named number) started = started
act_started h (Acknowledged client packet at grants offers) started = started
act_started h (Passed m copies lost routes) started = started
act_started h Dropped started = started

started_on : (p : Place) (acts : List Act) (h h' : HeldView) → Runs p h acts h' → h.started ≡ true → h'.started ≡ true
started_on p [] h h' ran started = ap (λ (v : HeldView). v.started) ran ∙ started
started_on p (a ∷ acts) h h' ran started = started_on p acts ran.0 h' ran.2 (ap (λ (v : HeldView). v.started) ran.1.1 ∙ act_started h a started)

-- ---- a step

module _ (n n' : NodeView) (waiting waiting' : List Change) (e : Event) (made : List Output) (d : IsDecided n waiting e made n' waiting') (s : HasStarted n) where
  abbrev last : HeldView
  last = d.done.after

  steps : Steps n.place s.held e d.done.acts made last
  steps = subst (λ (h : HeldView). Steps n.place h e d.done.acts made last) (same_Some d.done.before s.held (sym d.done.was ∙ s.up)) d.done.steps

  still : HasStarted n'
  still = record {
    held = last;
    up = d.done.is;
    started = started_on n.place d.done.acts s.held last steps.runs s.started;
    homes = d.done.homes;
    nodes = subst (λ (p : Place). length last.homes.nodes ≡ nodes_of p) (sym d.place) (nodes_stay n.place d.done.acts s.held last steps.runs s.nodes);
  }

  -- at which no table comes
  same_table : may_move true e.kind ≡ false → n'.homes ≡ n.homes
  same_table none =
      d.done.homes ∙ table_stays n.place s.held last e.kind d.done.acts (ap (λ b. may_move b e.kind) s.started ∙ none) steps.moved steps.runs ∙ sym s.homes

-- a newer table is the node's from then on
module _ (n n' : NodeView) (waiting waiting' : List Change) (at : ℕ) (homes : Table) (made : List Output) (d : IsDecided n waiting (table_event at homes) made n' waiting')
    (s : HasStarted n) (newer : IsNewer n.homes homes) where
  is_newer : moves.IsNewer n.place s.held homes
  is_newer = (newer.nodes ∙ ap (λ (t : Table). length t.nodes) s.homes ∙ s.nodes, subst (λ (t : Table). t.version < homes.version) s.homes newer.version)

  abbrev now : HeldView
  now = d.done.after

  took : Steps n.place s.held (table_event at homes) d.done.acts made now
  took = steps n n' waiting waiting' (table_event at homes) made d s

  brings : (gather moved_in d.done.acts ≡ []) ⊎ (gather moved_in d.done.acts ≡ homes ∷ [])
  brings = subst (λ b. cond b (MayBringTables (kinds.Table homes) (gather moved_in d.done.acts)) (gather moved_in d.done.acts ≡ [])) s.started took.moved

  module _ (x : moves.TableIsTaken (table_event at homes) n.place s.held homes d.done.acts now) where
    one : gather moved_in d.done.acts ≡ homes ∷ gather moved_in x.rest
    one =
        ap (gather moved_in) x.is ∙ gather-append moved_in x.first.due (Moved homes ∷ x.rest)
        ∙ (λ i. due_tables (table_event at homes) n.place s.held x.first i ++ (homes ∷ gather moved_in x.rest))

    no_more : gather moved_in x.rest ≡ []
    no_more = elim brings [
      | inl none ↦ absurd (let z : homes ∷ gather moved_in x.rest ≡ [] = sym one ∙ none in cc)
      | inr some ↦ (let z : homes ∷ gather moved_in x.rest ≡ homes ∷ [] = sym one ∙ some in tail_is z)
    ]

    goes_by_it : now.homes ≡ homes
    goes_by_it =
        let split = runs_split n.place x.first.due (Moved homes ∷ x.rest) s.held now (subst (λ xs. Runs n.place s.held xs now) x.is took.runs) in
        homes_stay n.place x.rest split.2.0 now split.2.2 no_more ∙ ap (λ (v : HeldView). v.homes) split.2.1.1

  new_table : n'.homes ≡ homes
  new_table = elim (tables_are_taken (table_event at homes) homes n.place s.held now d.done.acts refl s.started took.does took.runs) [
    | inl taken ↦ d.done.homes ∙ goes_by_it taken.1
    | inr refused ↦ absurd (refused.0 is_newer)
  ]

-- ---- the served node

clients_bring : (kind : ToldKind) → may_move true (kind_of kind) ≡ false
clients_bring told.Started = refl
clients_bring (told.Opened connection) = refl
clients_bring (told.Piece connection bytes) = refl
clients_bring (told.Room connection bytes) = refl
clients_bring (told.Closed connection) = refl
clients_bring told.Tick = refl

peers_bring : (kind : PeerEventKind) → may_move true (peer_kind_of kind) ≡ false
peers_bring (peers.Linked peer) = refl
peers_bring (peers.Frame bytes) = refl
peers_bring (peers.Ship peer) = refl
peers_bring (peers.More peer after) = refl

module _ {R : Type 0} (handles : ServedNode R → Told → List Handed → ServedNode R → Type 0) (hears : ServedNode R → PeerEvent → Given → ServedNode R → Type 0)
    (settles : ServedNode R → ServedNode R → Type 0) (takes : ServedNode R → ℕ → Table → List Handed → ServedNode R → Type 0)
    (by_clients : (s : ServedNode R) (e : Told) (outputs : List Handed) (s' : ServedNode R) → handles s e outputs s' → IsAnsweredToClients (keeper_of s) (event_of e) outputs (keeper_of s'))
    (by_peers : (s : ServedNode R) (e : PeerEvent) (given : Given) (s' : ServedNode R) → hears s e given s' → IsAnsweredToAll (keeper_of s) (peer_event_of e) given (keeper_of s'))
    (by_commit : (s s' : ServedNode R) → settles s s' → node_of s' ≡ node_of s)
    (by_tables : (s : ServedNode R) (at : ℕ) (homes : Table) (outputs : List Handed) (s' : ServedNode R) → takes s at homes outputs s' → IsAnsweredToClients (keeper_of s) (table_event at homes) outputs (keeper_of s')) where
  goes_on : (call : calls.Call) (s s' : ServedNode R) → HasStarted (node_of s) → calls.IsCalled handles hears settles call s s'
      → HasStarted (node_of s') × ((node_of s').homes ≡ (node_of s).homes)
  goes_on (calls.Handled e outputs) s s' runs is =
      let a = by_clients s e outputs s' is in
      let k = keeper_of s in
      let k' = keeper_of s' in (
        still (node_of s) (node_of s') (waiting_in k) (waiting_in k') (event_of e) a.made a.taken.decided runs,
        same_table (node_of s) (node_of s') (waiting_in k) (waiting_in k') (event_of e) a.made a.taken.decided runs (clients_bring e.kind),
      )
  goes_on (calls.Heard e given) s s' runs is =
      let a = by_peers s e given s' is in
      let k = keeper_of s in
      let k' = keeper_of s' in (
        still (node_of s) (node_of s') (waiting_in k) (waiting_in k') (peer_event_of e) a.made a.taken.decided runs,
        same_table (node_of s) (node_of s') (waiting_in k) (waiting_in k') (peer_event_of e) a.made a.taken.decided runs (peers_bring e.kind),
      )
  goes_on calls.Settled s s' runs is =
      (subst HasStarted (sym (by_commit s s' is)) runs, ap (λ (n : NodeView). n.homes) (by_commit s s' is))

  goes_by_new : (at : ℕ) (homes : Table) (outputs : List Handed) (s s' : ServedNode R) → HasStarted (node_of s) → IsNewer (node_of s).homes homes → takes s at homes outputs s'
      → HasStarted (node_of s') × ((node_of s').homes ≡ homes)
  goes_by_new at homes outputs s s' runs newer is =
      let a = by_tables s at homes outputs s' is in
      let k = keeper_of s in
      let k' = keeper_of s' in (
        still (node_of s) (node_of s') (waiting_in k) (waiting_in k') (table_event at homes) a.made a.taken.decided runs,
        new_table (node_of s) (node_of s') (waiting_in k) (waiting_in k') at homes a.made a.taken.decided runs newer,
      )

  pub served_keeps : KeepsTable handles hears settles (λ s. (node_of s).homes) takes (λ s. HasStarted (node_of s))
  served_keeps = record { called = goes_on; taken = goes_by_new }

  module _ {F : Type 0} (offers : F → ℕ → Table → Option Table → F → Type 0) where
    abbrev goes_by : ServedNode R → Table
    goes_by s = (node_of s).homes

    pub served_tables_rise : ServedTablesRise handles hears settles goes_by takes
        (IsTabled handles takes goes_by offers) (IsTabledOfPeers hears) (IsSettledWithTables settles)
    served_tables_rise cs d d' started all =
        versions_rise handles hears settles goes_by takes offers (IsTabledOfPeers hears) (IsSettledWithTables settles) (λ d e given d' is. is.0) (λ d d' is. is.0)
        (λ s. HasStarted (node_of s)) served_keeps cs d d' started all
