-- The answer to each packet of a client, by its session alone.
use Rattle.std.specs.Prelude.{◌≡◌, ℕ, ◌==◌, ◌&&◌, ◌⊎◌, not, Bool, true, false, cond, nat_le, nat_lt, List, [], ◌∷◌, ◌++◌, length, replicate, Option, Some, None, is_some}
use Rattle.std.specs.List.{list_any}
use Rattle.mqtt_fields.specs.declared.options.Qos.{Qos}
use Rattle.mqtt_fields.specs.declared.options.Qos.TheVariants.{AtMostOnce, AtLeastOnce, ExactlyOnce}
use Rattle.mqtt_fields.specs.Properties.{first_two, first_four}
use Rattle.mqtt_packets.specs.declared.packet.Packet.{Packet}
use Rattle.mqtt_packets.specs.declared.packet.Packet.TheVariants as packets
use Rattle.mqtt_packets.specs.declared.publish.Publish.{Publish}
use Rattle.mqtt_topics.specs.Levels.{is_wildcard}
use Rattle.mqtt_message.specs.Accepted.{accepted}
use Rattle.mqtt_message.specs.declared.message.Message.{Message}
use Rattle.qos_handshakes.specs.declared.copies.Entry.{Entry}
use Rattle.qos_handshakes.specs.Entries.{find_id}
use Rattle.qos_handshakes.specs.Incoming.{Received, opened, opened_here}
use Rattle.qos_handshakes.specs.Outbox.{Sent, is_released, takes_pubrec}
use Rattle.mqtt_sessions.specs.declared.link.Asked.{Asked}
use Rattle.mqtt_sessions.specs.declared.link.Asked.TheVariants.{Subscribing, Unsubscribing}
use Rattle.mqtt_sessions.specs.declared.reaction.Ask.{Ask}
use Rattle.mqtt_sessions.specs.declared.reaction.Ask.TheVariants as server
use Rattle.mqtt_sessions.specs.declared.reaction.Output.TheVariants.{Answer}
use Rattle.mqtt_sessions.specs.Answers.{puback, pubrec, pubrel, pubcomp, suback, unsuback, disconnect, fits}
use Rattle.mqtt_sessions.specs.Arriving.{has_property}
use Rattle.mqtt_sessions.specs.Asking.{AsksNoLocalShare}
use Rattle.mqtt_sessions.specs.Reaction.{Reaction, nothing, publishes_of}
use Rattle.mqtt_sessions.specs.State.{Link, State, new_session}
use Rattle.law_sessions.specs.Aliases.{Topics, topic_under, topics_told}
use Rattle.law_sessions.specs.Runs.{Step, takes, answers, Reacts, Run}

-- what a client is answered: nothing; a packet; no packet, but the server is asked; both; the end of its connection, with a
-- Reason Code; the end that it asked for
pub data Reply : Type 0 where
  silent : Reply
  says : Packet → Reply
  asks : Ask → Reply
  both : Packet → Ask → Reply
  ends : ℕ → Reply
  leaves : Reply

-- a packet that is too long isn't sent, and ends the connection; a DISCONNECT that is too long isn't sent
abbrev pub reaction_of : ℕ → Reply → Reaction
reaction_of limit silent = nothing
reaction_of limit (says p) = cond (fits limit p) (record nothing { packets = Answer p ∷ [] }) (record nothing { end = Some 0 })
reaction_of limit (asks a) = record nothing { ask = Some a }
reaction_of limit (both p a) = cond (fits limit p) (record nothing { packets = Answer p ∷ []; ask = Some a }) (record nothing { ask = Some a; end = Some 0 })
reaction_of limit (ends code) = record nothing { end = Some (cond (fits limit (disconnect code)) code 0) }
reaction_of limit leaves = record nothing { end = Some 0 }

-- ---- PUBLISH (MQTT 5.0, 3.3, 4.3)
-- 100 exchanges of this connection are open (3.2.2.3.3)
abbrev pub has_hundred : Received → Bool
has_hundred r = nat_le 100 (opened_here r)

-- at QoS 0: it is passed on, unless no room is left for the topic of a retained message
abbrev pub reply_at_most_once : Bool → Message → Reply
reply_at_most_once refused m = cond refused silent (asks (server.Pass m))

-- at QoS 1: Receive Maximum exceeded, Packet Identifier in use, Quota exceeded, or Success
abbrev pub reply_at_least_once : Received → ℕ → Bool → Message → Reply
reply_at_least_once r id refused m =
    cond (has_hundred r) (ends 147) (cond (is_some (opened id r)) (says (puback id 145)) (cond refused (says (puback id 151)) (both (puback id 0) (server.Pass m))))

-- at QoS 2 it is passed on where it opens an exchange; a repeat of one that is open, on this connection or an earlier one
abbrev pub reply_exactly_once : Option Bool → Received → ℕ → Bool → Message → Reply
reply_exactly_once (Some true) r id refused m = says (pubrec id 0)
reply_exactly_once (Some false) r id refused m = cond (has_hundred r) (ends 147) (says (pubrec id 0))
reply_exactly_once None r id refused m = cond (has_hundred r) (ends 147) (cond refused (says (pubrec id 151)) (both (pubrec id 0) (server.Pass m)))

abbrev pub reply_at : Qos → Received → ℕ → Bool → Message → Reply
reply_at AtMostOnce r id refused m = reply_at_most_once refused m
reply_at AtLeastOnce r id refused m = reply_at_least_once r id refused m
reply_at ExactlyOnce r id refused m = reply_exactly_once (opened id r) r id refused m

-- no alias is 0, and none is above 16 (3.2.2.3.8, 3.3.2.3.4)
abbrev pub is_invalid : Option ℕ → Bool
is_invalid None = false
is_invalid (Some alias) = not (nat_le 1 alias && nat_le alias 16)

-- Protocol Error where it has no topic, or for a Subscription Identifier; Topic Name invalid for a wildcard
abbrev pub reply_under : Option (List ℕ) → State → Publish → ℕ → Bool → Reply
reply_under None s p now room = ends 130
reply_under (Some topic) s p now room =
    cond (has_property 11 p.properties) (ends 130) (cond (list_any is_wildcard p.topic) (ends 144)
    (reply_at p.qos s.incoming p.identifier (p.retain && not room) (accepted (record p { topic = topic }) s.kept.client now)))

-- first of all Topic Alias invalid
abbrev pub reply_publish : Topics → State → Publish → ℕ → Bool → Reply
reply_publish told s p now room =
    let alias = first_two 35 p.properties in
    cond (is_invalid alias) (ends 148) (reply_under (topic_under told p.topic alias) s p now room)

-- ---- PUBREC: PUBREL for an exchange that is released now or was before; Packet Identifier not found for no exchange; nothing
-- where the code is an error (3.5.2.1, 4.3.3)
abbrev pub reply_unknown : ℕ → ℕ → Reply
reply_unknown id reason = cond (nat_lt reason 128) (says (pubrel id 146)) silent

abbrev pub reply_known : ℕ → ℕ → Reply
reply_known id reason = cond (nat_lt reason 128) (says (pubrel id 0)) silent

abbrev pub reply_pubrec : Option Entry → ℕ → ℕ → Reply
reply_pubrec None id reason = reply_unknown id reason
reply_pubrec (Some x) id reason =
    cond (is_released x.stage) (says (pubrel id 0)) (cond (takes_pubrec x.delivery.qos x.stage) (reply_known id reason) (reply_unknown id reason))

-- ---- SUBSCRIBE and UNSUBSCRIBE: Packet Identifier in use for each filter, or the server is asked
abbrev pub reply_request : Received → ℕ → Packet → Ask → Reply
reply_request r id p ask = cond (is_some (opened id r)) (says p) (asks ask)

-- ---- DISCONNECT: a Session Expiry Interval that isn't 0 after 0 is a Protocol Error (3.14.2.2.2)
abbrev pub reply_disconnect : Option ℕ → ℕ → Reply
reply_disconnect None expiry = leaves
reply_disconnect (Some new) expiry = cond ((expiry == 0) && not (new == 0)) (ends 130) leaves

-- ---- each packet, where aliases stand for these topics; those that a server sends alone, a second CONNECT and AUTH are Protocol
-- Errors
abbrev pub IsReply : Topics → Packet → ℕ → Bool → State → Reply → Type 0
IsReply told (packets.Publish p) now room s x = x ≡ reply_publish told s p now room
IsReply told (packets.Puback a) now room s x = x ≡ silent
IsReply told (packets.Pubrec a) now room s x = x ≡ reply_pubrec (find_id a.identifier s.outbox.copies) a.identifier a.reason
IsReply told (packets.Pubrel a) now room s x = x ≡ says (pubcomp a.identifier (cond (is_some (opened a.identifier s.incoming)) 0 146))
IsReply told (packets.Pubcomp a) now room s x = x ≡ silent
IsReply told (packets.Subscribe p) now room s x =
    (AsksNoLocalShare p.filters × (x ≡ ends 130))
    ⊎ ((AsksNoLocalShare p.filters → ⊥) × (x ≡ reply_request s.incoming p.identifier (suback p.identifier (replicate (length p.filters) 145)) server.Subscribe))
IsReply told (packets.Unsubscribe p) now room s x = x ≡ reply_request s.incoming p.identifier (unsuback p.identifier (replicate (length p.filters) 145)) server.Unsubscribe
IsReply told packets.Pingreq now room s x = x ≡ says packets.Pingresp
IsReply told (packets.Disconnect p) now room s x = x ≡ reply_disconnect (first_four 17 p.properties) s.kept.expiry
IsReply told p now room s x = x ≡ ends 130

-- a packet that may end an exchange, so that the queue goes on
abbrev pub MakesRoom : Packet → Type 0
MakesRoom (packets.Puback a) = Unit {0}
MakesRoom (packets.Pubrec a) = Unit {0}
MakesRoom (packets.Pubcomp a) = Unit {0}
MakesRoom p = ⊥

abbrev pub then_sends : Reaction → List Sent → Reaction
then_sends r sents = record r { packets = r.packets ++ publishes_of sents }

-- the reaction to a packet: its reply; or none, but PUBLISHes of the queue, where there may be room
pub record IsReplied (told : Topics) (limit : ℕ) (p : Packet) (now : ℕ) (room : Bool) (s : State) (r : Reaction) : Type 0 where
  pub reply : Reply
  pub sents : List Sent
  pub is : IsReply told p now room s reply
  pub gives : r ≡ then_sends (reaction_of limit reply) sents
  pub queue : (sents ≡ []) ⊎ (MakesRoom p × (reply ≡ silent))

-- each packet of a connected client has exactly its reply, where aliases stand for what the packets of its connection told
abbrev pub KeepsReplies : Type 0
KeepsReplies = (client : List ℕ) (steps : List Step) (old new : State) (l : Link) (p : Packet) (now : ℕ) (room : Bool) (r : Reaction) → Run (new_session client) steps old → old.link ≡ Some l → Reacts old (takes p now room) r new
    → IsReplied (topics_told steps) l.limit p now room old r

-- one without a connection has none, and changes nothing
abbrev pub KeepsUnheard : Type 0
KeepsUnheard = (old new : State) (p : Packet) (now : ℕ) (room : Bool) (r : Reaction) → old.link ≡ None → Reacts old (takes p now room) r new → (r ≡ nothing) × (new ≡ old)

-- the codes that were asked for last are answered by SUBACK or UNSUBACK
abbrev pub reply_codes : Option Asked → ℕ → List ℕ → Reply
reply_codes None id codes = silent
reply_codes (Some Subscribing) id codes = says (suback id codes)
reply_codes (Some Unsubscribing) id codes = says (unsuback id codes)

abbrev pub KeepsCodes : Type 0
KeepsCodes = (old new : State) (l : Link) (id : ℕ) (codes : List ℕ) (r : Reaction) → old.link ≡ Some l → Reacts old (answers id codes) r new → r ≡ reaction_of l.limit (reply_codes l.asked id codes)
