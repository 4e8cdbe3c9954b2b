-- When a message with RETAIN is refused for want of room (MQTT 5.0, 3.3.1.3, 3.4.2.1 and 3.5.2.1).
use Rattle.std.specs.Prelude.{◌≡◌, ◌↔◌, ◌⊎◌, ℕ, ◌<◌, ◌≤◌, Bool, true, false, cond, is_some, length, List, ◌∷◌, ◌++◌, Some, None}
use Rattle.std.specs.FinMap.Entries.{find}
use Rattle.mqtt_fields.specs.declared.options.Qos.{Qos}
use Rattle.mqtt_fields.specs.Properties.{first_two}
use Rattle.mqtt_message.specs.declared.message.Message.{Message}
use Rattle.mqtt_packets.specs.declared.packet.Packet.TheVariants as packets
use Rattle.mqtt_packets.specs.declared.publish.Publish.{Publish}
use Rattle.mqtt_topics.specs.Topics.{IsName}
use Rattle.mqtt_sessions.specs.declared.reaction.Ask.TheVariants.{Pass}
use Rattle.mqtt_sessions.specs.Answers.{puback, pubrec}
use Rattle.law_sessions.specs.Aliases.{Topics, topic_under, topics_told}
use Rattle.law_sessions.specs.Runs.{Step, takes}
use Rattle.subscription_set.specs.Sorted.{Rises}
use Rattle.replica_store.specs.declared.kept.Kept.{Kept}
use Rattle.replica_store.specs.declared.operation.Operation.{Operation}
use Rattle.replica_store.specs.Operations.{Puts}
use Rattle.replica_store.specs.Retained.{topic_cmp}
use Rattle.node_work.specs.Acts.{Act}
use Rattle.law_runs.specs.StepPublishing.{AnswersWith}
use Rattle.cluster_play.specs.Worlds.{World}
use Rattle.cluster_play.specs.Runs.{Played}
use Rattle.cluster_play.specs.Histories.{Reached, site, operations_amid}
use Rattle.law_runs.specs.Staying.{CallsSession}
use Rattle.law_runs.specs.Publishing.{TakesPublish, connected_over, message_after, events_before}

-- the topic is held: it was given a message, also one that is cleared by now
abbrev pub IsTopicHeld : List Operation → List ℕ → Type 0
IsTopicHeld O topic = (kept : Kept) × Puts O topic kept

-- all topics that are held, each once
pub record AreTopicsHeld (O : List Operation) (all : List (List ℕ × Kept)) : Type 0 where
  pub once : Rises topic_cmp all
  pub each : (topic : List ℕ) → (is_some (find topic_cmp topic all) ≡ true) ↔ IsTopicHeld O topic

-- so many are
abbrev pub HoldsTopics : List Operation → ℕ → Type 0
HoldsTopics O count = (all : List (List ℕ × Kept)) × AreTopicsHeld O all × (count ≡ length all)

-- no room for a topic: a new one, where 100,000 are held
abbrev pub LacksRoomForTopic : List Operation → List ℕ → Type 0
LacksRoomForTopic O topic = (¬ IsTopicHeld O topic) × ((count : ℕ) × HoldsTopics O count × (100000 ≤ count))

-- room: it is held, or fewer are
abbrev pub HasRoomForTopic : List Operation → List ℕ → Type 0
HasRoomForTopic O topic = IsTopicHeld O topic ⊎ ((count : ℕ) × HoldsTopics O count × (count < 100000))

-- the message of the PUBLISH that a call takes
abbrev pub message_taken : {qos : Qos} {id : ℕ} (run : List Played) (m : Played) (before : List Act) (c : CallsSession m before) → TakesPublish qos id c.step → Message
message_taken run m before c t = message_after (events_before run m before c) t

-- Quota exceeded answers a message with RETAIN for whose topic there is no room, and no other
abbrev pub QuotaIsExact : Type 0
QuotaIsExact =
    (run later : List Played) (m : Played) (w : World) → Reached (run ++ m ∷ later) w
    → (before : List Act) (c : CallsSession m before) (qos : Qos) (id : ℕ) (t : TakesPublish qos id c.step) → IsName (message_taken run m before c t).topic
    → (number : ℕ) → AnswersWith (puback number 151) c.step.reaction.packets ⊎ AnswersWith (pubrec number 151) c.step.reaction.packets
    → (t.publish.retain ≡ true) × LacksRoomForTopic (operations_amid (site m.fate) run before) (message_taken run m before c t).topic

-- and one that is passed on has room
abbrev pub PassedHasRoom : Type 0
PassedHasRoom =
    (run later : List Played) (m : Played) (w : World) → Reached (run ++ m ∷ later) w
    → (before : List Act) (c : CallsSession m before) (qos : Qos) (id : ℕ) (t : TakesPublish qos id c.step) → IsName (message_taken run m before c t).topic
    → (x : Message) → c.step.reaction.ask ≡ Some (Pass x) → t.publish.retain ≡ true
    → HasRoomForTopic (operations_amid (site m.fate) run before) (message_taken run m before c t).topic

-- the topic that each alias of the client stands for on its connection, once these events came; where it has none, an alias stands for nothing
abbrev pub topics_open : List Step → Topics
topics_open steps = cond (connected_over false steps) (topics_told steps) (λ alias. None)

-- a session is told of each PUBLISH, at whatever QoS, whether there is room for its topic, which is its own, or where that is empty the one that its alias
-- stands for: never that there is where it lacks, nor that it lacks where there is
abbrev pub RoomIsExact : Type 0
RoomIsExact =
    (run later : List Played) (m : Played) (w : World) → Reached (run ++ m ∷ later) w
    → (before : List Act) (c : CallsSession m before) (publish : Publish) (now : ℕ) (room : Bool) → c.step.event ≡ takes (packets.Publish publish) now room
    → (topic : List ℕ) → topic_under (topics_open (events_before run m before c)) publish.topic (first_two 35 publish.properties) ≡ Some topic → IsName topic
    → cond room (HasRoomForTopic (operations_amid (site m.fate) run before) topic) (LacksRoomForTopic (operations_amid (site m.fate) run before) topic)
