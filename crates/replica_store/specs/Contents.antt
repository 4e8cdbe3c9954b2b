-- What a Put gives its topic.
use Rattle.std.specs.Prelude.{ℕ, List, Option, Some, None}
use Rattle.mqtt_message.specs.declared.message.Message.{Message}
use Rattle.replica_store.specs.declared.content.Content.{Content}
use Rattle.replica_store.specs.declared.content.Content.TheVariants.{Set, Cleared}

-- its topic, which is its message's where there is one
abbrev pub topic_in : Content → List ℕ
topic_in (Set m) = m.topic
topic_in (Cleared topic) = topic

-- its message, or none of a tombstone
abbrev pub message_in : Content → Option Message
message_in (Set m) = Some m
message_in (Cleared topic) = None
