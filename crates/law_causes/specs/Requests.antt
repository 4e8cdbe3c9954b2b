-- What each cause of an operation comes to: a SUBSCRIBE, an UNSUBSCRIBE, a message with RETAIN, a session's end, an eviction (MQTT 5.0,
-- 3.1.2.11.2, 3.3.1.3, 3.8.4 and 3.10.4).
use Rattle.std.specs.Prelude.{◌≡◌, ◌⊎◌, ℕ, Bool, true, List, [], ◌∷◌, ◌++◌, Some, map as map_list}
use Rattle.causal_context.specs.Dots.{Dot, Dots}
use Rattle.mqtt_message.specs.declared.message.Message.{Message}
use Rattle.mqtt_packets.specs.declared.packet.Packet.TheVariants as packets
use Rattle.mqtt_packets.specs.declared.publish.Publish.{Publish}
use Rattle.mqtt_packets.specs.declared.subscribe.Subscribe.{Subscribe}
use Rattle.mqtt_packets.specs.declared.unsubscribe.Unsubscribe.{Unsubscribe}
use Rattle.mqtt_sessions.specs.declared.reaction.Ask.TheVariants as asks
use Rattle.mqtt_topics.specs.Topics.{IsFilter}
use Rattle.replica_store.specs.declared.operation.Operation.{Operation}
use Rattle.replica_store.specs.declared.operation.Operation.TheVariants as operations
use Rattle.replica_store.specs.Operations.{Stands}
use Rattle.replica_store.specs.Stamps.{Stamp}
use Rattle.law_sessions.specs.Runs.{takes, answers}
use Rattle.subscription_set.specs.declared.entry.Entry.{Entry}
use Rattle.node_work.specs.Acts.{Act, Store, Made, Session}
use Rattle.node_work.specs.Held.Sessions.{SessionStep, Called}
use Rattle.node_work.specs.Passing.{content_given}
use Rattle.node_clients.specs.Subscribing.{identifier_of}
use Rattle.cluster_play.specs.Worlds.{World}
use Rattle.cluster_play.specs.Runs.{Played}
use Rattle.cluster_play.specs.Histories.{Reached, site, operations_amid}
use Rattle.cluster_play.specs.NextOperations.{CoversWhatStands}
use Rattle.law_runs.specs.Staying.{CallsSession}
use Rattle.law_runs.specs.Filters.{FilterReply, AreFiltersAnswered, IsSubscribedTo}
use Rattle.law_runs.specs.Subacks.{with_call}
use Rattle.law_causes.specs.Ends.{EndsHaveRemoves, EvictionsHaveRemoves}
use Rattle.law_steps.specs.Wills.{WillsStayPassedOn}

-- ---- a SUBSCRIBE

-- a call takes one, and asks its node for it
pub record AsksToSubscribe (s : SessionStep) : Type 0 where
  pub subscribe : Subscribe
  pub now : ℕ
  pub room : Bool
  pub event : s.event ≡ takes (packets.Subscribe subscribe) now room
  pub asks : s.reaction.ask ≡ Some asks.Subscribe

-- each Subscribe among acts covers exactly what stood of its client to its filter when it was made
abbrev pub EachCovers : List Played → Played → List Act → List Act → Type 0
EachCovers run m first acts =
    (own rest : List Act) (dot : Dot) (entry : Entry) (cover : Dots) → acts ≡ own ++ Store (Made (operations.Subscribe dot entry cover)) ∷ rest
    → CoversWhatStands (operations_amid (site m.fate) run (first ++ own)) entry.client (Some entry.filter) cover

-- after each of them no other subscription of its client to its filter stands, unless one more is made to that filter: so of equal
-- filters none but the last one's stands
abbrev pub NoOtherStands : List Played → Played → List Act → List Act → Type 0
NoOtherStands run m first acts =
    (own rest : List Act) (dot : Dot) (entry : Entry) (cover : Dots) → acts ≡ own ++ Store (Made (operations.Subscribe dot entry cover)) ∷ rest
    → ((before after : List Act) (d : Dot) (e : Entry) (c : Dots) → rest ≡ before ++ Store (Made (operations.Subscribe d e c)) ∷ after → e.client ≡ entry.client → e.filter ≡ entry.filter → ⊥)
    → (d : Dot) (e : Entry) → Stands (operations_amid (site m.fate) run (first ++ acts)) d e → e.client ≡ entry.client → e.filter ≡ entry.filter → (d ≡ dot) × (e ≡ entry)

-- directly after the call each filter is answered in order, a granted one by one Subscribe of its own; nothing else is done; and then
-- the session is given the codes
pub record SubscribesInOrder (run : List Played) (m : Played) (before : List Act) (c : CallsSession m before) (subscribe : Subscribe) : Type 0 where
  pub acts : List Act
  pub answer : SessionStep
  pub rest : List Act
  pub is : c.after ≡ acts ++ Session (Called answer) ∷ rest
  pub replies : List FilterReply
  pub answered : AreFiltersAnswered run m (with_call before c) c.step.client (identifier_of subscribe) subscribe.filters replies acts
  pub covers : EachCovers run m (with_call before c) acts
  pub alone : NoOtherStands run m (with_call before c) acts
  pub client : answer.client ≡ c.step.client
  pub told : answer.event ≡ answers subscribe.identifier (map_list (λ r. r.code) replies)

abbrev pub SubscribesHaveOperations : Type 0
SubscribesHaveOperations =
    (run later : List Played) (m : Played) (w : World) → Reached (run ++ m ∷ later) w
    → (before : List Act) (c : CallsSession m before) (a : AsksToSubscribe c.step) → SubscribesInOrder run m before c a.subscribe

-- ---- an UNSUBSCRIBE
pub record AsksToUnsubscribe (s : SessionStep) : Type 0 where
  pub unsubscribe : Unsubscribe
  pub now : ℕ
  pub room : Bool
  pub event : s.event ≡ takes (packets.Unsubscribe unsubscribe) now room
  pub asks : s.reaction.ask ≡ Some asks.Unsubscribe

-- one Remove of exactly what stands of the client to a text
abbrev pub IsRemovedOf : List Operation → List ℕ → List ℕ → List Act → Type 0
IsRemovedOf O client text acts = (dot : Dot) × (cover : Dots) × CoversWhatStands O client (Some text) cover × (acts ≡ Store (Made (operations.Remove dot cover)) ∷ [])

-- Topic Filter invalid for a text that isn't a filter; No subscription existed where none of the client to it stands; else Success, by
-- its Remove
abbrev pub IsTextAnswered : List Operation → List ℕ → List ℕ → ℕ → List Act → Type 0
IsTextAnswered O client text code acts =
    ((¬ IsFilter text) × (code ≡ 143) × (acts ≡ []))
    ⊎ (IsFilter text × (¬ IsSubscribedTo O client text) × (code ≡ 17) × (acts ≡ []))
    ⊎ (IsFilter text × IsSubscribedTo O client text × (code ≡ 0) × IsRemovedOf O client text acts)

-- each text in order, by what the node has taken when it comes to it, after these of its acts
abbrev pub AreTextsAnswered : List Played → Played → List Act → List ℕ → List (List ℕ) → List ℕ → List Act → Type 0
AreTextsAnswered run m first client [] codes acts = (codes ≡ []) × (acts ≡ [])
AreTextsAnswered run m first client (text ∷ texts) codes acts =
    (code : ℕ) × (others : List ℕ) × (own : List Act) × (rest : List Act) × (codes ≡ code ∷ others) × (acts ≡ own ++ rest)
    × IsTextAnswered (operations_amid (site m.fate) run first) client text code own
    × AreTextsAnswered run m (first ++ own) client texts others rest

-- the same of an UNSUBSCRIBE
pub record UnsubscribesInOrder (run : List Played) (m : Played) (before : List Act) (c : CallsSession m before) (unsubscribe : Unsubscribe) : Type 0 where
  pub acts : List Act
  pub answer : SessionStep
  pub rest : List Act
  pub is : c.after ≡ acts ++ Session (Called answer) ∷ rest
  pub codes : List ℕ
  pub answered : AreTextsAnswered run m (with_call before c) c.step.client unsubscribe.filters codes acts
  pub client : answer.client ≡ c.step.client
  pub told : answer.event ≡ answers unsubscribe.identifier codes

abbrev pub UnsubscribesHaveOperations : Type 0
UnsubscribesHaveOperations =
    (run later : List Played) (m : Played) (w : World) → Reached (run ++ m ∷ later) w
    → (before : List Act) (c : CallsSession m before) (a : AsksToUnsubscribe c.step) → UnsubscribesInOrder run m before c a.unsubscribe

-- ---- a message with RETAIN that a client published
pub record AsksToRetain (s : SessionStep) (x : Message) : Type 0 where
  pub publish : Publish
  pub now : ℕ
  pub room : Bool
  pub event : s.event ≡ takes (packets.Publish publish) now room
  pub asks : s.reaction.ask ≡ Some (asks.Pass x)
  pub retain : x.retain ≡ true

-- one Put directly after the call
abbrev pub PublishesHaveOperations : Type 0
PublishesHaveOperations =
    (run later : List Played) (m : Played) (w : World) → Reached (run ++ m ∷ later) w
    → (before : List Act) (c : CallsSession m before) (x : Message) → AsksToRetain c.step x
    → (dot : Dot) × (stamp : Stamp) × (rest : List Act) × (c.after ≡ Store (Made (operations.Put dot stamp (content_given x))) ∷ rest)

-- ---- each cause has its operation
pub record CausesHaveOperations : Type 0 where
  pub subscribes : SubscribesHaveOperations
  pub unsubscribes : UnsubscribesHaveOperations
  pub publishes : PublishesHaveOperations
  pub wills : WillsStayPassedOn
  pub ends : EndsHaveRemoves
  pub evictions : EvictionsHaveRemoves
