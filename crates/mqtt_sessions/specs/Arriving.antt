-- What a PUBLISH or a PUBREL of the client comes to (MQTT 5.0, 3.3, 3.6, 4.3.2 and 4.3.3).
use Rattle.std.specs.Prelude.{ℕ, Bool, true, false, cond, not, ◌&&◌, ◌==◌, nat_le, List, Option, Some, None, is_none, is_some}
use Rattle.std.specs.BTreeMap.{is_at, insert_entry}
use Rattle.std.specs.List.{list_any}
use Rattle.std.specs.Map.{remove_entry}
use Rattle.std.specs.Ordering.{nat_cmp}
use Rattle.mqtt_fields.specs.declared.options.Qos.{Qos}
use Rattle.mqtt_fields.specs.declared.options.Qos.TheVariants.{AtMostOnce, AtLeastOnce, ExactlyOnce}
use Rattle.mqtt_fields.specs.declared.value.Property.{Property}
use Rattle.mqtt_packets.specs.declared.publish.Publish.{Publish}
use Rattle.mqtt_topics.specs.Levels.{is_wildcard}
use Rattle.mqtt_message.specs.Accepted.{accepted}
use Rattle.mqtt_message.specs.declared.message.Message.{Message}
use Rattle.qos_handshakes.specs.declared.answers.In.{In}
use Rattle.qos_handshakes.specs.declared.answers.In.TheVariants.{New, Repeat, InUse, OverMaximum}
use Rattle.qos_handshakes.specs.Incoming.{Received, opened, opened_here}
use Rattle.mqtt_sessions.specs.declared.reaction.Ask.TheVariants.{Pass}
use Rattle.mqtt_sessions.specs.Aliases.{Aliases, alias_of, filled, is_beyond, set_in, topic_of}
use Rattle.mqtt_sessions.specs.Answers.{puback, pubrec, pubcomp}
use Rattle.mqtt_sessions.specs.Reaction.{Outcome, nothing, answered, refused}
use Rattle.mqtt_sessions.specs.State.{Link, State, aliases_of}

abbrev pub has_property : ℕ → List Property → Bool
has_property id ps = list_any (λ p. p.id == id) ps

-- Why a PUBLISH ends its connection, whatever else it is: Topic Alias invalid (3.3.2.3.4); Protocol Error where it has no topic and
-- its alias stands for none, or for a Subscription Identifier from a client (3.3.4); Topic Name invalid for a wildcard (3.3.2.1).
abbrev pub refusal : Aliases → Publish → Option ℕ
refusal known p =
    cond (is_beyond (alias_of p)) (Some 148) (cond (is_none (topic_of known p)) (Some 130) (cond (has_property 11 p.properties) (Some 130) (cond (list_any is_wildcard p.topic) (Some 144) None)))

-- the alias of one that isn't refused stands for its topic from now on, whatever it is answered
abbrev pub setting_by : Option Link → Publish → Option Link
setting_by None p = None
setting_by (Some l) p = Some (record l { aliases = set_in l.aliases p })

abbrev pub setting : Publish → State → State
setting p s = record s { link = setting_by s.link p }

-- its message
abbrev pub message_in : Publish → ℕ → State → Message
message_in p now s = accepted (filled (aliases_of s.link) p) s.kept.client now

-- no room is left for the topic of a retained message
abbrev pub is_unwelcome : Publish → Bool → Bool
is_unwelcome p room = p.retain && not room

-- 100 exchanges are open that this connection opened
abbrev pub is_full : Received → Bool
is_full r = nat_le 100 (opened_here r)

-- what a PUBLISH at QoS 1 is, under an identifier
abbrev pub arrival_once : Received → ℕ → In
arrival_once r id = cond (is_full r) OverMaximum (cond (is_some (opened id r)) InUse New)

-- and one at QoS 2, by whether its exchange is open, and was opened here
abbrev pub arrival_by : Option Bool → Bool → In
arrival_by None full = cond full OverMaximum New
arrival_by (Some true) full = Repeat
arrival_by (Some false) full = cond full OverMaximum Repeat

abbrev pub arrival_twice : Received → ℕ → In
arrival_twice r id = arrival_by (opened id r) (is_full r)

-- ---- QoS 0: no answer
abbrev pub passes_at_most_once : Bool → Message → State → Outcome
passes_at_most_once unwelcome m s = record { reaction = record nothing { ask = cond unwelcome None (Some (Pass m)) }; left = s }

-- ---- QoS 1: Receive Maximum exceeded ends the connection; Packet Identifier in use, Quota exceeded, or success
abbrev pub once_by : In → Bool → ℕ → ℕ → Message → State → Outcome
once_by OverMaximum unwelcome limit id m s = refused limit 147 s
once_by InUse unwelcome limit id m s = answered limit (puback id 145) None s
once_by Repeat unwelcome limit id m s = answered limit (puback id 145) None s
once_by New true limit id m s = answered limit (puback id 151) None s
once_by New false limit id m s = answered limit (puback id 0) (Some (Pass m)) s

-- ---- QoS 2: an exchange is opened where the message is passed on
abbrev pub after_twice : In → Bool → ℕ → Received → Received
after_twice New false id r = insert_entry nat_cmp r id true
after_twice New true id r = r
after_twice Repeat unwelcome id r = r
after_twice InUse unwelcome id r = r
after_twice OverMaximum unwelcome id r = r

abbrev pub twice_by : In → Bool → ℕ → ℕ → Message → State → Outcome
twice_by OverMaximum unwelcome limit id m s = refused limit 147 s
twice_by InUse unwelcome limit id m s = answered limit (pubrec id 0) None s
twice_by Repeat unwelcome limit id m s = answered limit (pubrec id 0) None s
twice_by New true limit id m s = answered limit (pubrec id 151) None s
twice_by New false limit id m s = answered limit (pubrec id 0) (Some (Pass m)) s

abbrev pub arrives_twice : In → Bool → ℕ → ℕ → Message → State → Outcome
arrives_twice answer unwelcome limit id m s = twice_by answer unwelcome limit id m (record s { incoming = after_twice answer unwelcome id s.incoming })

abbrev pub passes_by : Qos → Publish → Bool → ℕ → Message → State → Outcome
passes_by AtMostOnce p unwelcome limit m s = passes_at_most_once unwelcome m s
passes_by AtLeastOnce p unwelcome limit m s = once_by (arrival_once s.incoming p.identifier) unwelcome limit p.identifier m s
passes_by ExactlyOnce p unwelcome limit m s = arrives_twice (arrival_twice s.incoming p.identifier) unwelcome limit p.identifier m s

abbrev pub publish_by : Option ℕ → Publish → ℕ → Bool → ℕ → State → Outcome
publish_by (Some code) p now room limit s = refused limit code s
publish_by None p now room limit s = passes_by p.qos p (is_unwelcome p room) limit (message_in p now (setting p s)) (setting p s)

abbrev pub publish_outcome : Publish → ℕ → Bool → ℕ → State → Outcome
publish_outcome p now room limit s = publish_by (refusal (aliases_of s.link) p) p now room limit s

-- ---- PUBREL: success where it ends an exchange, or Packet Identifier not found
abbrev pub release_code : Received → ℕ → ℕ
release_code r id = cond (is_some (opened id r)) 0 146

abbrev pub after_release : Received → ℕ → Received
after_release r id = cond (is_some (opened id r)) (remove_entry (is_at (nat_cmp id)) r) r

abbrev pub pubrel_outcome : ℕ → ℕ → State → Outcome
pubrel_outcome id limit s = answered limit (pubcomp id (release_code s.incoming id)) None (record s { incoming = after_release s.incoming id })
