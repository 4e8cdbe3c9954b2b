-- What a SUBACK or an UNSUBACK tells in a run (MQTT 5.0, 3.9.3 and 3.11.3).
use Rattle.std.specs.Prelude.{◌≡◌, ◌⊎◌, ℕ, Bool, true, List, [], ◌∷◌, ◌++◌, Some}
use Rattle.causal_context.specs.Dots.{Dot, Dots}
use Rattle.mqtt_fields.specs.Options.{qos_of}
use Rattle.mqtt_packets.specs.declared.packet.Packet.TheVariants as packets
use Rattle.mqtt_packets.specs.declared.subscribe.Subscribe.{Subscribe}
use Rattle.mqtt_packets.specs.declared.subscribe.SubscribeFilter.{SubscribeFilter}
use Rattle.mqtt_packets.specs.declared.unsubscribe.Unsubscribe.{Unsubscribe}
use Rattle.mqtt_topics.specs.Topics.{IsFilter}
use Rattle.mqtt_sessions.specs.Answers.{suback, unsuback}
use Rattle.replica_store.specs.declared.operation.Operation.{Operation}
use Rattle.replica_store.specs.declared.operation.Operation.TheVariants as operations
use Rattle.replica_store.specs.Operations.{Stands}
use Rattle.law_sessions.specs.Runs.{takes}
use Rattle.subscription_set.specs.declared.entry.Entry.{Entry}
use Rattle.subscription_set.specs.Entries.{is_of}
use Rattle.node_work.specs.Acts.{Act, Store, Session, Made}
use Rattle.node_work.specs.Held.Sessions.{SessionStep, Called}
use Rattle.node_clients.specs.Subscribing.{subscription_entry, identifier_of}
use Rattle.law_runs.specs.StepPublishing.{AnswersWith}
use Rattle.law_runs.specs.StepAsking.{AreInUse}
use Rattle.cluster_play.specs.Worlds.{World}
use Rattle.cluster_play.specs.Runs.{Played}
use Rattle.cluster_play.specs.Histories.{Reached, site, operations_amid}
use Rattle.cluster_play.specs.NextOperations.{CoversWhatStands}
use Rattle.law_runs.specs.Staying.{CallsSession, StaysMade}

-- the step makes an operation among these of its acts, and it stays
pub record IsMadeIn (run later : List Played) (m : Played) (w : World) (acts : List Act) (o : Operation) : Type 0 where
  pub made : StaysMade run later m w o
  pub rest : List Act
  pub is : acts ≡ made.first ++ Store (Made o) ∷ rest

-- ---- a SUBSCRIBE
-- the client is subscribed to the filter, with its options and the identifier, under the version of the table of homes that its node held (MakesNext)
abbrev pub IsSubscribed : List Played → List Played → Played → World → List Act → List ℕ → ℕ → SubscribeFilter → Type 0
IsSubscribed run later m w acts client identifier f = (dot : Dot) × (cover : Dots) × (version : ℕ) × IsMadeIn run later m w acts (operations.Subscribe dot (subscription_entry client f identifier version) cover)

-- each filter has a code: its QoS, where the client is subscribed to it, or Topic Filter invalid or Quota exceeded
abbrev pub AreSubscribed : List Played → List Played → Played → World → List Act → List ℕ → ℕ → List SubscribeFilter → List ℕ → Type 0
AreSubscribed run later m w acts client identifier [] codes = codes ≡ []
AreSubscribed run later m w acts client identifier (f ∷ fs) codes =
    (code : ℕ) × (others : List ℕ) × (codes ≡ code ∷ others)
    × (((code ≡ qos_of f.options) × IsSubscribed run later m w acts client identifier f) ⊎ ((code ≡ 143) ⊎ (code ≡ 151)))
    × AreSubscribed run later m w acts client identifier fs others

-- ---- an UNSUBSCRIBE
-- all that stood of the client to the text is removed
pub record IsUnsubscribed (run later : List Played) (m : Played) (w : World) (acts : List Act) (client text : List ℕ) : Type 0 where
  pub dot : Dot
  pub cover : Dots
  pub made : IsMadeIn run later m w acts (operations.Remove dot cover)
  pub covers : CoversWhatStands (operations_amid (site m.fate) run made.made.first) client (Some text) cover

-- nothing stood of the client to the text, by what the node had taken when it came to it
pub record NothingStood (run : List Played) (m : Played) (acts : List Act) (client text : List ℕ) : Type 0 where
  pub first : List Act
  pub rest : List Act
  pub is : acts ≡ first ++ rest
  pub none : ¬ ((dot : Dot) × (entry : Entry) × Stands (operations_amid (site m.fate) run first) dot entry × (is_of client (Some text) entry ≡ true))

-- each text has a code: Success, No subscription existed, or Topic Filter invalid
abbrev pub AreUnsubscribed : List Played → List Played → Played → World → List Act → List ℕ → List (List ℕ) → List ℕ → Type 0
AreUnsubscribed run later m w acts client [] codes = codes ≡ []
AreUnsubscribed run later m w acts client (text ∷ texts) codes =
    (code : ℕ) × (others : List ℕ) × (codes ≡ code ∷ others)
    × (((code ≡ 0) × IsUnsubscribed run later m w acts client text) ⊎ ((code ≡ 17) × NothingStood run m acts client text) ⊎ ((code ≡ 143) × (¬ IsFilter text)))
    × AreUnsubscribed run later m w acts client texts others

-- ---- in a run
-- before these acts of a step end, its client's session takes a packet
pub record CallsBefore (m : Played) (before : List Act) (client : List ℕ) : Type 0 where
  pub call : SessionStep
  pub earlier : List Act
  pub acts : List Act
  pub is : before ≡ earlier ++ Session (Called call) ∷ acts
  pub same : call.client ≡ client

pub record AnswersSubscribe (run later : List Played) (m : Played) (w : World) (before : List Act) (client : List ℕ) (id : ℕ) (codes : List ℕ) : Type 0 where
  pub calls : CallsBefore m before client
  pub subscribe : Subscribe
  pub now : ℕ
  pub room : Bool
  pub event : calls.call.event ≡ takes (packets.Subscribe subscribe) now room
  pub identifier : subscribe.identifier ≡ id
  pub subscribed : AreSubscribed run later m w before client (identifier_of subscribe) subscribe.filters codes

pub record AnswersUnsubscribe (run later : List Played) (m : Played) (w : World) (before : List Act) (client : List ℕ) (id : ℕ) (codes : List ℕ) : Type 0 where
  pub calls : CallsBefore m before client
  pub unsubscribe : Unsubscribe
  pub now : ℕ
  pub room : Bool
  pub event : calls.call.event ≡ takes (packets.Unsubscribe unsubscribe) now room
  pub identifier : unsubscribe.identifier ≡ id
  pub unsubscribed : AreUnsubscribed run later m w before client unsubscribe.filters codes

-- what SUBACK tells of each filter is so before it goes out, and stays so
abbrev pub SubackStaysTrue : Type 0
SubackStaysTrue =
    (run later : List Played) (m : Played) (w : World) → Reached (run ++ m ∷ later) w
    → (before : List Act) (c : CallsSession m before) (id : ℕ) (codes : List ℕ) → AnswersWith (suback id codes) c.step.reaction.packets
    → AreInUse codes ⊎ AnswersSubscribe run later m w before c.step.client id codes

-- and so is what UNSUBACK tells
abbrev pub UnsubackStaysTrue : Type 0
UnsubackStaysTrue =
    (run later : List Played) (m : Played) (w : World) → Reached (run ++ m ∷ later) w
    → (before : List Act) (c : CallsSession m before) (id : ℕ) (codes : List ℕ) → AnswersWith (unsuback id codes) c.step.reaction.packets
    → AreInUse codes ⊎ AnswersUnsubscribe run later m w before c.step.client id codes
