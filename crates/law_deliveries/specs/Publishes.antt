use Rattle.qos_handshakes.specs.Touched.{is_in}
-- The answers to PUBLISH and PUBREL, by the packets before them (MQTT 5.0, 3.2.2.3.3, 3.3, 3.6 and 4.3).
use Rattle.std.specs.Prelude.{◌≡◌, ℕ, ◌<◌, ◌≤◌, ◌&&◌, ◌⊎◌, not, Bool, true, false, cond, List, [], ◌∷◌, ◌++◌, length, Option, Some, None, unwrap_or}
use Rattle.std.specs.List.{list_any}
use Rattle.mqtt_fields.specs.declared.options.Qos.{Qos}
use Rattle.mqtt_fields.specs.declared.options.Qos.TheVariants.{AtMostOnce, AtLeastOnce, ExactlyOnce}
use Rattle.mqtt_fields.specs.Properties.{first_two}
use Rattle.mqtt_packets.specs.declared.ack.Ack.{Ack}
use Rattle.mqtt_packets.specs.declared.packet.Packet.{Packet}
use Rattle.mqtt_packets.specs.declared.packet.Packet.TheVariants as packets
use Rattle.mqtt_packets.specs.declared.publish.Publish.{Publish}
use Rattle.mqtt_topics.specs.Levels.{is_wildcard}
use Rattle.mqtt_message.specs.Accepted.{accepted}
use Rattle.mqtt_message.specs.declared.message.Message.{Message}
use Rattle.mqtt_sessions.specs.declared.reaction.Ask.TheVariants.{Pass}
use Rattle.mqtt_sessions.specs.declared.reaction.Output.TheVariants.{Answer}
use Rattle.mqtt_sessions.specs.Answers.{puback, pubrec, pubcomp}
use Rattle.mqtt_sessions.specs.Arriving.{has_property}
use Rattle.mqtt_sessions.specs.Reaction.{Reaction, nothing}
use Rattle.mqtt_sessions.specs.State.{State, new_session}
use Rattle.law_sessions.specs.Aliases.{Topics, topic_under, topics_told}
use Rattle.law_sessions.specs.Replies.{is_invalid}
use Rattle.law_sessions.specs.Runs.{takes, Step, Run}
use Rattle.law_deliveries.specs.Open.{OpenExchanges, open_told, connected_told}

-- how a PUBLISH at QoS 1 or 2 fares: its message is passed on; it is one of an exchange that is open; an exchange has its identifier; no
-- room is left for the topic of a retained message; 100 exchanges are open that this connection opened
pub data Verdict : Type 0 where
  passed_on : Verdict
  repeated : Verdict
  in_use : Verdict
  over_quota : Verdict
  exceeded : Verdict

abbrev pub FaresOnce : OpenExchanges → ℕ → Bool → Verdict → Type 0
FaresOnce o id refused passed_on = (length o.here < 100) × (is_in id o.all ≡ false) × (refused ≡ false)
FaresOnce o id refused repeated = ⊥
FaresOnce o id refused in_use = (length o.here < 100) × (is_in id o.all ≡ true)
FaresOnce o id refused over_quota = (length o.here < 100) × (is_in id o.all ≡ false) × (refused ≡ true)
FaresOnce o id refused exceeded = 100 ≤ length o.here

abbrev pub FaresTwice : OpenExchanges → ℕ → Bool → Verdict → Type 0
FaresTwice o id refused passed_on = (length o.here < 100) × (is_in id o.all ≡ false) × (refused ≡ false)
FaresTwice o id refused repeated = (is_in id o.here ≡ true) ⊎ ((length o.here < 100) × (is_in id o.all ≡ true))
FaresTwice o id refused in_use = ⊥
FaresTwice o id refused over_quota = (length o.here < 100) × (is_in id o.all ≡ false) × (refused ≡ true)
FaresTwice o id refused exceeded = (100 ≤ length o.here) × (is_in id o.here ≡ false)

-- what the client gets, and no more: Success; Success; Packet Identifier in use; Quota exceeded; DISCONNECT with Receive Maximum exceeded
abbrev pub GetsBack : (ℕ → Packet) → Message → Verdict → Reaction → Type 0
GetsBack says m passed_on r = r ≡ record nothing { packets = Answer (says 0) ∷ []; ask = Some (Pass m) }
GetsBack says m repeated r = r ≡ record nothing { packets = Answer (says 0) ∷ [] }
GetsBack says m in_use r = r ≡ record nothing { packets = Answer (says 145) ∷ [] }
GetsBack says m over_quota r = r ≡ record nothing { packets = Answer (says 151) ∷ [] }
GetsBack says m exceeded r = r ≡ record nothing { end = Some 147 }

-- at QoS 0 it is passed on, unless no room is left
abbrev pub IsPassedOn : Bool → Message → Reaction → Type 0
IsPassedOn true m r = r ≡ nothing
IsPassedOn false m r = r ≡ record nothing { ask = Some (Pass m) }

abbrev pub AnswersAt : Qos → OpenExchanges → ℕ → Bool → Message → Reaction → Type 0
AnswersAt AtMostOnce o id refused m r = IsPassedOn refused m r
AnswersAt AtLeastOnce o id refused m r = (v : Verdict) × FaresOnce o id refused v × GetsBack (puback id) m v r
AnswersAt ExactlyOnce o id refused m r = (v : Verdict) × FaresTwice o id refused v × GetsBack (pubrec id) m v r

-- Why it ends the connection, whatever else it is: Topic Alias invalid; Protocol Error where it has no topic, nor its alias, or for a
-- Subscription Identifier; Topic Name invalid for a wildcard.
abbrev pub fault_under : Option (List ℕ) → Publish → Option ℕ
fault_under None p = Some 130
fault_under (Some topic) p = cond (has_property 11 p.properties) (Some 130) (cond (list_any is_wildcard p.topic) (Some 144) None)

abbrev pub fault_in : Topics → Publish → Option ℕ
fault_in told p = cond (is_invalid (first_two 35 p.properties)) (Some 148) (fault_under (topic_under told p.topic (first_two 35 p.properties)) p)

abbrev pub AnswersUnless : Option ℕ → OpenExchanges → Publish → Bool → Message → Reaction → Type 0
AnswersUnless (Some code) o p room m r = r ≡ record nothing { end = Some code }
AnswersUnless None o p room m r = AnswersAt p.qos o p.identifier (p.retain && not room) m r

-- its message: of its own topic, or where that is empty of the one that its alias stands for
abbrev pub message_under : Option (List ℕ) → List ℕ → Publish → ℕ → Message
message_under topic client p now = accepted (record p { topic = unwrap_or topic [] }) client now

abbrev pub message_told : Topics → List ℕ → Publish → ℕ → Message
message_told told client p now = message_under (topic_under told p.topic (first_two 35 p.properties)) client p now

abbrev pub KeepsPublishes : Type 0
KeepsPublishes = (client : List ℕ) (before : List Step) (p : Publish) (now : ℕ) (room : Bool) (r : Reaction) (end : State) → Run (new_session client) (before ++ record { event = takes (packets.Publish p) now room; reaction = r } ∷ []) end → connected_told before ≡ true
    → AnswersUnless (fault_in (topics_told before) p) (open_told before) p room (message_told (topics_told before) client p now) r

-- PUBREL: PUBCOMP with Success, or with Packet Identifier not found
abbrev pub KeepsPubrels : Type 0
KeepsPubrels = (client : List ℕ) (before : List Step) (a : Ack) (now : ℕ) (room : Bool) (r : Reaction) (end : State) → Run (new_session client) (before ++ record { event = takes (packets.Pubrel a) now room; reaction = r } ∷ []) end → connected_told before ≡ true
    → r ≡ record nothing { packets = Answer (pubcomp a.identifier (cond (is_in a.identifier (open_told before).all) 0 146)) ∷ [] }
