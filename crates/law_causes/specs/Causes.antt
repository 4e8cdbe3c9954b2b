-- Why a step makes an operation: a filter that is subscribed to or unsubscribed from, a message with RETAIN, a session's end, or an
-- eviction (MQTT 5.0, 3.1.2.11.2, 3.3.1.3, 3.8.4 and 3.10.4).
use Rattle.std.specs.Prelude.{◌≡◌, ◌≢◌, ◌⊎◌, ℕ, ◌+◌, Bool, true, List, [], ◌∷◌, ◌++◌, Some, None}
use Rattle.std.specs.List.{AllByRecursion}
use Rattle.causal_context.specs.Dots.{Dot, Dots}
use Rattle.home_table.specs.Homes.{IsHome}
use Rattle.home_table.specs.Table.{Table}
use Rattle.mqtt_message.specs.declared.message.Message.{Message}
use Rattle.mqtt_packets.specs.declared.packet.Packet.TheVariants as packets
use Rattle.mqtt_packets.specs.declared.subscribe.Subscribe.{Subscribe}
use Rattle.mqtt_packets.specs.declared.subscribe.SubscribeFilter.{SubscribeFilter}
use Rattle.mqtt_packets.specs.declared.unsubscribe.Unsubscribe.{Unsubscribe}
use Rattle.mqtt_sessions.specs.declared.reaction.Ask.TheVariants as asks
use Rattle.replica_store.specs.declared.operation.Operation.{Operation}
use Rattle.replica_store.specs.declared.operation.Operation.TheVariants as operations
use Rattle.replica_store.specs.Stamps.{Stamp}
use Rattle.law_sessions.specs.Runs.{takes}
use Rattle.node_work.specs.Acts.{Act, Store, Made, Session}
use Rattle.node_work.specs.Held.Sessions.{SessionStep, Called, Over}
use Rattle.node_work.specs.Passing.{content_given}
use Rattle.node_work.specs.View.{HeldView}
use Rattle.node_clients.specs.Subscribing.{subscription_entry, identifier_of}
use Rattle.broker_node.specs.declared.event.EventKind.{EventKind}
use Rattle.broker_node.specs.declared.event.EventKind.TheVariants as kinds
use Rattle.law_runs.specs.StepSending.{IsIn}
use Rattle.cluster_play.specs.Worlds.{World}
use Rattle.cluster_play.specs.Runs.{Played}
use Rattle.cluster_play.specs.Histories.{Reached, site, acts_of, operations_amid}
use Rattle.cluster_play.specs.NextOperations.{CoversWhatStands, CoversWhatStandsBelow}
use Rattle.cluster_play.specs.Agreement.{HoldsAmid}

-- ---- acts that only make operations
abbrev pub IsOperation : Act → Type 0
IsOperation (Store (Made o)) = Unit {0}
IsOperation a = ⊥

abbrev pub AreOperations : List Act → Type 0
AreOperations acts = AllByRecursion IsOperation acts

-- these acts end with a call of a session, after which only operations are made
pub record AfterCall (before : List Act) : Type 0 where
  pub call : SessionStep
  pub earlier : List Act
  pub made : List Act
  pub is : before ≡ earlier ++ Session (Called call) ∷ made
  pub alone : AreOperations made

-- and with the call itself
pub record DirectlyAfter (before : List Act) : Type 0 where
  pub call : SessionStep
  pub earlier : List Act
  pub is : before ≡ earlier ++ Session (Called call) ∷ []

-- ---- five causes

-- the last call takes a SUBSCRIBE and asks the node for it, as none does that is answered with 0x91 or ends its connection; the operation
-- subscribes its client to one of the filters, with its options and the packet's identifier
pub record IsOfSubscribe (before : List Act) (o : Operation) : Type 0 where
  pub after : AfterCall before
  pub subscribe : Subscribe
  pub now : ℕ
  pub room : Bool
  pub event : after.call.event ≡ takes (packets.Subscribe subscribe) now room
  pub asked : after.call.reaction.ask ≡ Some asks.Subscribe
  pub filter : SubscribeFilter
  pub among : IsIn filter subscribe.filters
  pub dot : Dot
  pub cover : Dots
  pub version : ℕ
  pub is : o ≡ operations.Subscribe dot (subscription_entry after.call.client filter (identifier_of subscribe) version) cover

-- the last call takes an UNSUBSCRIBE and asks the node for it, and the operation removes what stands of its client to one of the filters
pub record IsOfUnsubscribe (O : List Operation) (before : List Act) (o : Operation) : Type 0 where
  pub after : AfterCall before
  pub unsubscribe : Unsubscribe
  pub now : ℕ
  pub room : Bool
  pub event : after.call.event ≡ takes (packets.Unsubscribe unsubscribe) now room
  pub asked : after.call.reaction.ask ≡ Some asks.Unsubscribe
  pub text : List ℕ
  pub among : IsIn text unsubscribe.filters
  pub dot : Dot
  pub cover : Dots
  pub is : o ≡ operations.Remove dot cover
  pub covers : CoversWhatStands O after.call.client (Some text) cover

-- directly before it a call of a session asks to pass a message with RETAIN on, one that a client published or a will: its topic is given
-- the message, or with an empty payload none
pub record IsOfMessage (before : List Act) (o : Operation) : Type 0 where
  pub after : DirectlyAfter before
  pub message : Message
  pub asks : after.call.reaction.ask ≡ Some (asks.Pass message)
  pub retain : message.retain ≡ true
  pub dot : Dot
  pub stamp : Stamp
  pub is : o ≡ operations.Put dot stamp (content_given message)

-- the subscriptions that end with a session: those that were made under a version of the table of homes below this one, which is the one
-- after the node's where its client's home is here, and the node's where that is elsewhere
abbrev pub EndsBelow : Table → ℕ → List ℕ → ℕ → Type 0
EndsBelow homes id client version =
    (node : ℕ) × IsHome homes client node × (((node ≡ id) × (version ≡ homes.version + 1)) ⊎ ((node ≢ id) × (version ≡ homes.version)))

-- directly after it a session is over, and it removes what its client subscribed to
pub record IsOfEnd (O : List Operation) (homes : Table) (id : ℕ) (after : List Act) (o : Operation) : Type 0 where
  pub client : List ℕ
  pub rest : List Act
  pub over : after ≡ Session (Over client) ∷ rest
  pub version : ℕ
  pub below : EndsBelow homes id client version
  pub dot : Dot
  pub cover : Dots
  pub is : o ≡ operations.Remove dot cover
  pub covers : CoversWhatStandsBelow O client version cover

-- the event evicts a client, and it removes all that stands of that client
pub record IsOfEviction (O : List Operation) (kind : EventKind) (o : Operation) : Type 0 where
  pub client : List ℕ
  pub event : kind ≡ kinds.Evict client
  pub dot : Dot
  pub cover : Dots
  pub is : o ≡ operations.Remove dot cover
  pub covers : CoversWhatStands O client None cover

-- ---- in a run

-- an operation that a step makes between these of its acts has one of the five, by what its node had taken until then, and by the table
-- of homes that the node holds
pub record HasOneCause (run : List Played) (m : Played) (before after : List Act) (o : Operation) : Type 0 where
  pub world : World
  pub reached : Reached run world
  pub held : HeldView
  pub there : HoldsAmid world m (site m.fate) before held
  pub cause :
      IsOfSubscribe before o
      ⊎ IsOfUnsubscribe (operations_amid (site m.fate) run before) before o
      ⊎ IsOfMessage before o
      ⊎ IsOfEnd (operations_amid (site m.fate) run before) held.homes there.holds.site.node.place.id after o
      ⊎ IsOfEviction (operations_amid (site m.fate) run before) there.event.kind o

-- each operation has its cause, and nothing else makes one
abbrev pub OperationsHaveCauses : Type 0
OperationsHaveCauses =
    (run later : List Played) (m : Played) (w : World) → Reached (run ++ m ∷ later) w
    → (before after : List Act) (o : Operation) → acts_of m.fate ≡ before ++ Store (Made o) ∷ after → HasOneCause run m before after o
