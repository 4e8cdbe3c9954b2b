-- The retained messages that answer a new subscription (MQTT 5.0, 3.3.1.3 and 3.8.4).
use Rattle.std.specs.Prelude.{◌≡◌, ◌↔◌, ℕ, List, [], ◌∷◌, map as map_list, Some, ◌⊎◌}
use Rattle.std.specs.FinMap.Entries.{find}
use Rattle.subscription_set.specs.Sorted.{Rises}
use Rattle.mqtt_message.specs.declared.message.Message.{Message}
use Rattle.mqtt_topics.specs.Matching.{Matches}
use Rattle.mqtt_topics.specs.Topics.{IsShared}
use Rattle.replica_store.specs.declared.kept.Kept.{Kept}
use Rattle.replica_store.specs.declared.operation.Operation.{Operation}
use Rattle.replica_store.specs.Operations.{HasKept}
use Rattle.replica_store.specs.Retained.{HasAlive, topic_cmp}

-- the filter isn't shared and matches the topic, whose kept message is this one and is alive
pub record Answers (filter : List ℕ) (now : ℕ) (topic : List ℕ) (entry : Kept) (m : Message) : Type 0 where
  pub plain : ¬ IsShared filter
  pub matches : Matches filter topic
  pub kept : HasAlive (Some entry) now m

-- the message of each topic that answers, in the order of the topics
abbrev pub IsAnswer : List ℕ → ℕ → List (List ℕ × Kept) → List Message → Type 0
IsAnswer filter now [] out = out ≡ []
IsAnswer filter now (e ∷ es) out =
    ((m : Message) × (rest : List Message) × Answers filter now e.0 e.1 m × (out ≡ m ∷ rest) × IsAnswer filter now es rest)
    ⊎ (((m : Message) → ¬ Answers filter now e.0 e.1 m) × IsAnswer filter now es out)

-- the operations answer with this message of the topic: the filter isn't shared and matches the topic, of which they keep
-- the message, and it is alive
pub record IsAnswered (O : List Operation) (filter : List ℕ) (now : ℕ) (topic : List ℕ) (m : Message) : Type 0 where
  pub plain : ¬ IsShared filter
  pub matches : Matches filter topic
  pub entry : Kept
  pub kept : HasKept O topic (Some entry)
  pub alive : HasAlive (Some entry) now m

-- the messages with which the operations answer, in the order of their topics
pub record IsAnswerOf (O : List Operation) (filter : List ℕ) (now : ℕ) (out : List Message) : Type 0 where
  pub under : List (List ℕ × Message)
  pub messages : map_list (λ x. x.1) under ≡ out
  pub rises : Rises topic_cmp under
  pub each : (topic : List ℕ) (m : Message) → (find topic_cmp topic under ≡ Some m) ↔ IsAnswered O filter now topic m
