-- What a node does in a step: a list of acts, each of which is one small step of what the node holds. An act says where it
-- may stand (Allowed), and what it leaves (next).
use Rattle.std.specs.Prelude.{◌≡◌, ◌⊎◌, ℕ, ◌+◌, ◌<◌, ◌^◌, max, true, List, [], ◌∷◌, ◌++◌, length, Option, Some}
use Rattle.std.specs.FinMap as map
use Rattle.home_table.specs.Table.{Table, IsTable}
use Rattle.mqtt_message.specs.declared.delivery.Delivery.{Delivery}
use Rattle.mqtt_message.specs.declared.message.Message.{Message}
use Rattle.replica_store.specs.declared.operation.Operation.{Operation}
use Rattle.replica_store.specs.declared.operation.Operation.TheVariants.{Subscribe, Remove, Put}
use Rattle.replica_store.specs.Making.{NumberAtEnd, CountAtEnd, subscribe_of, remove_of, remove_below_of, put_of}
use Rattle.replica_store.specs.States.{State, state_join}
use Rattle.replica_store.specs.StateOf.{delta_of}
use Rattle.node_work.specs.declared.granted.Granted.{Granted}
use Rattle.node_work.specs.declared.outcome.Output.{Output}
use Rattle.node_work.specs.declared.outcome.Output.TheVariants.{Send, Close, Frame as Release}
use Rattle.bridge_routes.specs.declared.destinations.Route.{Route}
use Rattle.node_bridge.specs.View.{keeps}
use Rattle.node_work.specs.Held.Bridge.{BridgeAct, MayBridge, bridged, bridge_outputs, heard_of}
use Rattle.node_work.specs.Held.Connections.{ConnectionAct, MayActOnConnection, after_connection_act}
use Rattle.node_work.specs.Held.Sessions.{SessionAct, MayCall, called, session_outputs, more}
use Rattle.node_work.specs.Offers.{AreOffered}
use Rattle.bridge_routes.specs.declared.plain.PlainCopy.{PlainCopy as Copy}
use Rattle.node_work.specs.Passing.{IsPassed}
use Rattle.node_work.specs.View.{Place, HeldView, nodes_of}

-- what is done to the replicated state
pub data StoreAct : Type 0 where
  Made : (o : Operation) → StoreAct
  Merged : (s : State) → StoreAct

-- one thing that a node does: it takes a moment, begins its work, takes a newer table of homes, changes the replicated state, its
-- connections, its sessions or what it keeps for the other nodes, gives something out, or gives a client its identifier by a number; it
-- begins to offer the retained messages that answer a SUBSCRIBE, or to make the copies of a message, each of which is a call of a
-- session after it, and to hand it to other nodes; or it drops a retained message for want of room
pub data Act : Type 0 where
  MomentTaken : (at : ℕ) → Act
  Began : Act
  Moved : (homes : Table) → Act
  Store : (a : StoreAct) → Act
  Connection : (a : ConnectionAct) → Act
  Session : (a : SessionAct) → Act
  Bridge : (a : BridgeAct) → Act
  Out : (o : Output) → Act
  Named : (number : ℕ) → Act
  Acknowledged : (client : List ℕ) (packet at : ℕ) (grants : List Granted) (offers : List Delivery) → Act
  Passed : (m : Message) (copies : List Copy) (lost : ℕ) (routes : List (ℕ × Route)) → Act
  Dropped : Act

-- a Remove takes what stands of a client, or of a client to a filter, or of a client and under a version below one
abbrev pub IsRemove : ℕ → State → Operation → Type 0
IsRemove id s o =
    ((client : List ℕ) × (to : Option (List ℕ)) × (Some o ≡ remove_of id client to s))
    ⊎ ((client : List ℕ) × (version : ℕ) × (Some o ≡ remove_below_of id client version s))

-- the next operation of the node, looking at what was taken before it; a subscription is made under the version of its table of homes
abbrev pub IsMade : ℕ → ℕ → State → Operation → Type 0
IsMade id version s (Subscribe dot entry cover) = (¬ NumberAtEnd id s) × (Subscribe dot entry cover ≡ subscribe_of id entry s) × (entry.version ≡ version)
IsMade id version s (Remove dot cover) = (¬ NumberAtEnd id s) × IsRemove id s (Remove dot cover)
IsMade id version s (Put dot stamp content) = (¬ NumberAtEnd id s) × (¬ CountAtEnd s) × (Put dot stamp content ≡ put_of id content s)

abbrev pub MayStore : ℕ → ℕ → State → StoreAct → Type 0
MayStore id version s (Made o) = IsMade id version s o
MayStore id version s (Merged t) = Unit {0}

-- a table of homes that a node may take: for as many nodes, and newer than the one that it holds
pub record MayMove (p : Place) (h : HeldView) (homes : Table) : Type 0 where
  pub table : IsTable homes
  pub nodes : length homes.nodes ≡ nodes_of p
  pub newer : h.homes.version < homes.version

-- what is joined to the state
abbrev pub delta_in : StoreAct → State
delta_in (Made o) = delta_of o
delta_in (Merged t) = t

abbrev pub stored : State → StoreAct → State
stored s a = state_join s (delta_in a)

-- packets and closes; a frame goes out as an act of its own
abbrev pub IsForClient : Output → Type 0
IsForClient (Send connection bytes) = Unit {0}
IsForClient (Close connection) = Unit {0}
IsForClient (Release frame) = ⊥

-- the offers of a SUBACK are the retained messages that answer, at the node's moment, each filter that asks for them
abbrev pub AreAnswers : HeldView → ℕ → List Granted → List Delivery → Type 0
AreAnswers h at grants offers = (at ≡ h.at) × AreOffered h.at (map.entries h.store.retained) grants offers

-- where each act may stand
abbrev pub Allowed : Place → HeldView → Act → Type 0
Allowed p h (MomentTaken at) = Unit {0}
Allowed p h Began = Unit {0}
Allowed p h (Moved homes) = MayMove p h homes
Allowed p h (Store a) = MayStore p.id h.homes.version h.store a
Allowed p h (Connection a) = MayActOnConnection h a
Allowed p h (Session a) = MayCall h a
Allowed p h (Bridge a) = MayBridge p h a
Allowed p h (Out o) = IsForClient o
Allowed p h (Named number) = h.named < number
Allowed p h (Acknowledged client packet at grants offers) = AreAnswers h at grants offers
Allowed p h (Passed m copies lost routes) = (h.turn < 2 ^ 62) × IsPassed p h m copies lost routes
Allowed p h Dropped = Unit {0}

-- what it leaves
abbrev pub next : HeldView → Act → HeldView
next h (MomentTaken at) = record h { at = max h.at at }
next h Began = record h { started = true }
next h (Moved homes) = record h { homes = homes }
next h (Store a) = record h { store = stored h.store a; bridge = keeps (delta_in a) h.bridge }
next h (Connection a) = after_connection_act h a
next h (Session a) = called h a
next h (Bridge a) = bridged h a
next h (Out o) = h
next h (Named number) = record h { named = number }
next h (Acknowledged client packet at grants offers) = h
next h (Passed m copies lost routes) = record h { turn = h.turn + 1; counts = record h.counts { picks_lost = more lost h.counts.picks_lost } }
next h Dropped = record h { counts = record h.counts { retained_full = more 1 h.counts.retained_full } }

abbrev pub Does : Place → HeldView → Act → HeldView → Type 0
Does p h a h' = Allowed p h a × (h' ≡ next h a)

-- several, one after the other
abbrev pub Runs : Place → HeldView → List Act → HeldView → Type 0
Runs p h [] h' = h' ≡ h
Runs p h (a ∷ rest) h' = (mid : HeldView) × Does p h a mid × Runs p mid rest h'

-- the part of the acts that a law reads
abbrev pub gather : {A : Type 0} → (Act → List A) → List Act → List A
gather f [] = []
gather f (a ∷ rest) = f a ++ gather f rest

-- the operations that were made
abbrev pub op_in : Act → List Operation
op_in (Store (Made o)) = o ∷ []
op_in a = []

-- the states that were merged
abbrev pub merge_in : Act → List State
merge_in (Store (Merged s)) = s ∷ []
merge_in a = []

-- the tables of homes that were taken
abbrev pub moved_in : Act → List Table
moved_in (Moved homes) = homes ∷ []
moved_in a = []

-- what was taken from another node but states: a message of its lane, how many of this node's it has taken, and its dots
abbrev pub heard_in : Act → List BridgeAct
heard_in (Bridge a) = heard_of a
heard_in a = []

-- what was given out
abbrev pub output_in : Act → List Output
output_in (Session a) = session_outputs a
output_in (Bridge a) = bridge_outputs a
output_in (Out o) = o ∷ []
output_in a = []
