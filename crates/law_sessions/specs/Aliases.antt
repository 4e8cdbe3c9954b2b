-- Which topic an alias of the client stands for, as the packets of its connection tell it (MQTT 5.0, 3.3.2.3.4).
use Rattle.std.specs.Prelude.{◌≡◌, ℕ, ◌==◌, Bool, cond, List, [], ◌∷◌, Option, Some, None}
use Rattle.mqtt_fields.specs.Properties.{first_two}
use Rattle.mqtt_packets.specs.declared.packet.Packet.{Packet}
use Rattle.mqtt_packets.specs.declared.packet.Packet.TheVariants as packets
use Rattle.mqtt_packets.specs.declared.publish.Publish.{Publish}
use Rattle.mqtt_message.specs.declared.message.Message.{Message}
use Rattle.mqtt_sessions.specs.declared.reaction.Ask.TheVariants.{Pass}
use Rattle.mqtt_sessions.specs.Reaction.{Reaction}
use Rattle.mqtt_sessions.specs.State.{State, new_session}
use Rattle.law_sessions.specs.Runs.{Event, connects, takes, Step, Reacts, Run}

-- the topic that a PUBLISH gives an alias: its own, where it has both
abbrev pub given_by : ℕ → Option ℕ → List ℕ → Option (List ℕ)
given_by alias None topic = None
given_by alias (Some a) [] = None
given_by alias (Some a) (b ∷ bs) = cond (a == alias) (Some (b ∷ bs)) None

abbrev pub given_in : ℕ → Packet → Option (List ℕ)
given_in alias (packets.Publish p) = given_by alias (first_two 35 p.properties) p.topic
given_in alias p = None

abbrev pub later : Option (List ℕ) → Option (List ℕ) → Option (List ℕ)
later None before = before
later (Some topic) before = Some topic

-- on a new connection an alias stands for none, and then for the topic that it was given last
abbrev pub topic_after : ℕ → Option (List ℕ) → Event → Option (List ℕ)
topic_after alias before (connects c continued room now) = None
topic_after alias before (takes p now room) = later (given_in alias p) before
topic_after alias before e = before

abbrev pub topic_over : ℕ → Option (List ℕ) → List Step → Option (List ℕ)
topic_over alias before [] = before
topic_over alias before (s ∷ ss) = topic_over alias (topic_after alias before s.event) ss

-- the topic that each alias stands for
abbrev pub Topics : Type 0
Topics = ℕ → Option (List ℕ)

-- once these events came
abbrev pub topics_told : List Step → Topics
topics_told steps = λ alias. topic_over alias None steps

-- the topic of a PUBLISH: its own, or where that is empty the one that its alias stands for
abbrev pub topic_under : Topics → List ℕ → Option ℕ → Option (List ℕ)
topic_under told (b ∷ bs) alias = Some (b ∷ bs)
topic_under told [] None = None
topic_under told [] (Some alias) = told alias

-- A message that is passed on is of the topic of its PUBLISH: with an empty one, of the topic that its alias was given last on
-- this connection.
abbrev pub KeepsTopics : Type 0
KeepsTopics = (client : List ℕ) (steps : List Step) (old new : State) (p : Publish) (now : ℕ) (room : Bool) (r : Reaction) (m : Message) → Run (new_session client) steps old → Reacts old (takes (packets.Publish p) now room) r new → r.ask ≡ Some (Pass m)
    → topic_under (topics_told steps) p.topic (first_two 35 p.properties) ≡ Some m.topic
