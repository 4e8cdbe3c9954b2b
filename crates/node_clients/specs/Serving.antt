-- What each packet of an accepted client comes to: its session is called, and what that asks for is done.
use Rattle.std.specs.Prelude.{◌≡◌, ℕ, ◌==◌, ◌&&◌, cond, nat_lt, not, is_none, Bool, true, false, List, Option, Some, None}
use Rattle.std.specs.FinMap as map
use Rattle.mqtt_fields.specs.Options.{qos_number}
use Rattle.mqtt_message.specs.Parts.{is_name}
use Rattle.mqtt_packets.specs.declared.packet.Packet.{Packet}
use Rattle.mqtt_packets.specs.declared.packet.Packet.TheVariants as packets
use Rattle.mqtt_sessions.specs.declared.reaction.Ask.{Ask}
use Rattle.mqtt_sessions.specs.declared.reaction.Ask.TheVariants as asks
use Rattle.mqtt_sessions.specs.Aliases.{filled}
use Rattle.mqtt_sessions.specs.Reaction.{Reaction}
use Rattle.replica_store.specs.States.{State}
use Rattle.law_sessions.specs.Runs.{takes}
use Rattle.session_table.specs.Calls.{stays}
use Rattle.node_work.specs.Calling.{Calls}
use Rattle.node_work.specs.Held.Sessions.{aliases_at}
use Rattle.node_work.specs.Passing.{has_room}
use Rattle.node_work.specs.View.{HeldView}
use Rattle.node_work.specs.Working.{Doing, Returns, Looks, If, Then}
use Rattle.node_clients.specs.Ending.{ClosesAfter}
use Rattle.node_clients.specs.Passing.{Passes, Drops}
use Rattle.node_clients.specs.Subscribing.{ServesSubscribe}
use Rattle.node_clients.specs.Unsubscribing.{ServesUnsubscribe}

-- the topic name of a text, or none where it isn't one: it has at least one character, and no wildcard (4.7.3)
abbrev pub IsNameOf : List ℕ → Option (List ℕ) → Type 0
IsNameOf topic None = is_name topic ≡ false
IsNameOf topic (Some name) = (is_name topic ≡ true) × (name ≡ topic)

-- whether a retained message to the topic would be taken; a text that isn't a topic name isn't held, and is refused
abbrev pub takes_topic : List ℕ → State → Bool
takes_topic topic s = cond (is_name topic) (has_room topic s) (nat_lt (map.len s.retained) 100000)

-- whether a retained message of the client's packet would be taken: a PUBLISH is under its topic, or the one that its alias stands for
abbrev pub room_for : List ℕ → Packet → HeldView → Bool
room_for client (packets.Publish p) h = takes_topic (filled (aliases_at client h) p).topic h.store
room_for client p h = true

-- a retained message at QoS 0 that has no room is dropped, and counted
abbrev pub is_dropped : Packet → Bool → Option ℕ → Bool
is_dropped (packets.Publish p) room end = p.retain && (not room && (qos_number p.qos == 0 && is_none end))
is_dropped p room end = false

abbrev pub SubscribesBy : ℕ → List ℕ → Packet → Option (Unit {0}) → Doing
SubscribesBy c client (packets.Subscribe p) = ServesSubscribe c client p
SubscribesBy c client p = Returns tt

abbrev pub UnsubscribesBy : ℕ → List ℕ → Packet → Option (Unit {0}) → Doing
UnsubscribesBy c client (packets.Unsubscribe p) = ServesUnsubscribe c client p
UnsubscribesBy c client p = Returns tt

-- what the session asks for; where it asks for nothing, a retained message at QoS 0 that has no room is dropped
abbrev pub DoesAsked : Option Ask → ℕ → List ℕ → Packet → Bool → Option ℕ → Option (Unit {0}) → Doing
DoesAsked None c client p room end = If (is_dropped p room end) Drops (Returns tt)
DoesAsked (Some (asks.Pass m)) c client p room end = Passes m
DoesAsked (Some asks.Subscribe) c client p room end = SubscribesBy c client p
DoesAsked (Some asks.Unsubscribe) c client p room end = UnsubscribesBy c client p

-- and then the connection closes, where the reaction says so
abbrev pub DoesReaction : ℕ → List ℕ → Packet → Bool → Reaction → Option (Unit {0}) → Doing
DoesReaction c client p room r = Then (DoesAsked r.ask c client p room r.end) (λ _. ClosesAfter r.end c client)

abbrev pub ServesIn : ℕ → List ℕ → Packet → Bool → Option (Unit {0}) → Doing
ServesIn c client p room = Then (Calls client (λ at. takes p at room) stays) (DoesReaction c client p room)

abbrev pub ServesPacket : ℕ → List ℕ → Packet → Option (Unit {0}) → Doing
ServesPacket c client p = Looks (λ place h. room_for client p h) (ServesIn c client p)
