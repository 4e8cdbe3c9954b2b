-- What stands in a step before SUBACK and UNSUBACK: the operations that they tell (MQTT 5.0, 3.8.4, 3.9.3, 3.10.4 and 3.11.3).
use Rattle.std.specs.Prelude.{◌≡◌, ◌⊎◌, ℕ, Bool, true, false, replicate, List, [], ◌∷◌, ◌++◌, Some}
use Rattle.mqtt_fields.specs.Options.{qos_of}
use Rattle.mqtt_packets.specs.declared.packet.Packet.TheVariants as packets
use Rattle.mqtt_packets.specs.declared.subscribe.Subscribe.{Subscribe}
use Rattle.mqtt_packets.specs.declared.subscribe.SubscribeFilter.{SubscribeFilter}
use Rattle.mqtt_packets.specs.declared.unsubscribe.Unsubscribe.{Unsubscribe}
use Rattle.mqtt_topics.specs.Topics.{IsFilter}
use Rattle.replica_store.specs.Making.{subscribe_of}
use Rattle.subscription_set.specs.Standing.{any_of}
use Rattle.mqtt_sessions.specs.Answers.{suback, unsuback}
use Rattle.law_sessions.specs.Runs.{takes}
use Rattle.node_work.specs.Acts.{Act, Store, Session, Made, Runs}
use Rattle.node_work.specs.Held.Making.{removal}
use Rattle.node_work.specs.Held.Sessions.{SessionStep, Called}
use Rattle.node_work.specs.View.{Place, HeldView}
use Rattle.node_clients.specs.Subscribing.{subscription_entry, identifier_of}
use Rattle.broker_node.specs.declared.event.Event.{Event as NodeEvent}
use Rattle.broker_node.specs.Turns.{Decides}
use Rattle.law_runs.specs.StepPublishing.{AnswersWith}

-- ---- a SUBSCRIBE

-- one filter: it is granted with its QoS, by one Subscribe; or refused by Topic Filter invalid or Quota exceeded, and nothing is
-- done
abbrev pub IsGranted : Place → HeldView → List ℕ → ℕ → SubscribeFilter → ℕ → List Act → Type 0
IsGranted p h client identifier f code acts =
    ((code ≡ qos_of f.options) × (acts ≡ Store (Made (subscribe_of p.id (subscription_entry client f identifier h.homes.version) h.store)) ∷ []))
    ⊎ (((code ≡ 143) ⊎ (code ≡ 151)) × (acts ≡ []))

-- each filter in order, by what the node holds when it comes to it
abbrev pub AreGranted : Place → HeldView → List ℕ → ℕ → List SubscribeFilter → List ℕ → List Act → Type 0
AreGranted p h client identifier [] codes acts = (codes ≡ []) × (acts ≡ [])
AreGranted p h client identifier (f ∷ fs) codes acts =
    (code : ℕ) × (others : List ℕ) × (own : List Act) × (mid : HeldView) × (rest : List Act) × (codes ≡ code ∷ others) × (acts ≡ own ++ rest)
    × IsGranted p h client identifier f code own × Runs p h own mid × AreGranted p mid client identifier fs others rest

-- ---- an UNSUBSCRIBE

-- one filter: Success, by one Remove of what stands of the client to it; No subscription existed where nothing does; Topic Filter
-- invalid for a text that isn't a filter
abbrev pub FilterIsRemoved : Place → HeldView → List ℕ → List ℕ → ℕ → List Act → Type 0
FilterIsRemoved p h client text code acts =
    ((any_of client (Some text) h.store.subscriptions ≡ true) × (code ≡ 0) × (acts ≡ Store (Made (removal p.id client (Some text) h.store)) ∷ []))
    ⊎ ((any_of client (Some text) h.store.subscriptions ≡ false) × (code ≡ 17) × (acts ≡ []))
    ⊎ ((¬ IsFilter text) × (code ≡ 143) × (acts ≡ []))

abbrev pub FiltersAreRemoved : Place → HeldView → List ℕ → List (List ℕ) → List ℕ → List Act → Type 0
FiltersAreRemoved p h client [] codes acts = (codes ≡ []) × (acts ≡ [])
FiltersAreRemoved p h client (text ∷ texts) codes acts =
    (code : ℕ) × (others : List ℕ) × (own : List Act) × (mid : HeldView) × (rest : List Act) × (codes ≡ code ∷ others) × (acts ≡ own ++ rest)
    × FilterIsRemoved p h client text code own × Runs p h own mid × FiltersAreRemoved p mid client texts others rest

-- ---- in a step

-- the acts before an answer end with a call of the client's session, from which on these follow, and what the node holds then
pub record ComesAfter (p : Place) (h : HeldView) (before : List Act) (client : List ℕ) (call : SessionStep) (acts : List Act) (mid : HeldView) : Type 0 where
  pub earlier : List Act
  pub is : before ≡ earlier ++ Session (Called call) ∷ acts
  pub runs : Runs p h (earlier ++ Session (Called call) ∷ []) mid
  pub same : call.client ≡ client

-- the call takes a SUBSCRIBE, and its operations follow
pub record TakesSubscribe (p : Place) (h : HeldView) (before : List Act) (client : List ℕ) (id : ℕ) (codes : List ℕ) : Type 0 where
  pub call : SessionStep
  pub acts : List Act
  pub mid : HeldView
  pub after : ComesAfter p h before client call acts mid
  pub subscribe : Subscribe
  pub now : ℕ
  pub room : Bool
  pub event : call.event ≡ takes (packets.Subscribe subscribe) now room
  pub identifier : subscribe.identifier ≡ id
  pub granted : AreGranted p mid client (identifier_of subscribe) subscribe.filters codes acts

-- the call takes an UNSUBSCRIBE, and its operations follow
pub record TakesUnsubscribe (p : Place) (h : HeldView) (before : List Act) (client : List ℕ) (id : ℕ) (codes : List ℕ) : Type 0 where
  pub call : SessionStep
  pub acts : List Act
  pub mid : HeldView
  pub after : ComesAfter p h before client call acts mid
  pub unsubscribe : Unsubscribe
  pub now : ℕ
  pub room : Bool
  pub event : call.event ≡ takes (packets.Unsubscribe unsubscribe) now room
  pub identifier : unsubscribe.identifier ≡ id
  pub removed : FiltersAreRemoved p mid client unsubscribe.filters codes acts

-- Packet Identifier in use, for each filter: nothing is done (3.9.3 and 3.11.3)
abbrev pub AreInUse : List ℕ → Type 0
AreInUse codes = (n : ℕ) × (codes ≡ replicate n 145)

-- before SUBACK with these codes the operations of its SUBSCRIBE are made, in the same step
abbrev pub SubackTells : Type 0
SubackTells =
    (e : NodeEvent) (p : Place) (h h' : HeldView) (acts : List Act) → Decides e (Some tt) p h acts → Runs p h acts h'
    → (before after : List Act) (s : SessionStep) (id : ℕ) (codes : List ℕ) → acts ≡ before ++ Session (Called s) ∷ after → AnswersWith (suback id codes) s.reaction.packets
    → AreInUse codes ⊎ TakesSubscribe p h before s.client id codes

-- and before UNSUBACK those of its UNSUBSCRIBE
abbrev pub UnsubackTells : Type 0
UnsubackTells =
    (e : NodeEvent) (p : Place) (h h' : HeldView) (acts : List Act) → Decides e (Some tt) p h acts → Runs p h acts h'
    → (before after : List Act) (s : SessionStep) (id : ℕ) (codes : List ℕ) → acts ≡ before ++ Session (Called s) ∷ after → AnswersWith (unsuback id codes) s.reaction.packets
    → AreInUse codes ⊎ TakesUnsubscribe p h before s.client id codes
