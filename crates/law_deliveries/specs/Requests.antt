use Rattle.qos_handshakes.specs.Touched.{is_in}
-- Which SUBSCRIBE or UNSUBSCRIBE asks the server, by the packets before it (MQTT 5.0, 2.2.1, 3.8 to 3.11).
use Rattle.std.specs.Prelude.{◌≡◌, ℕ, ◌⊎◌, Bool, true, false, List, [], ◌∷◌, ◌++◌, length, replicate, Some}
use Rattle.mqtt_packets.specs.declared.packet.Packet.{Packet}
use Rattle.mqtt_packets.specs.declared.packet.Packet.TheVariants as packets
use Rattle.mqtt_sessions.specs.declared.reaction.Ask.{Ask}
use Rattle.mqtt_sessions.specs.declared.reaction.Ask.TheVariants as server
use Rattle.mqtt_sessions.specs.declared.reaction.Output.TheVariants.{Answer}
use Rattle.mqtt_sessions.specs.Answers.{suback, unsuback}
use Rattle.mqtt_sessions.specs.Asking.{AsksNoLocalShare}
use Rattle.mqtt_sessions.specs.Reaction.{Reaction, nothing}
use Rattle.mqtt_sessions.specs.State.{State, new_session}
use Rattle.law_sessions.specs.Runs.{takes, Step, Run}
use Rattle.law_deliveries.specs.Open.{OpenExchanges, open_told, connected_told}

-- the server is asked; or where an exchange has the identifier the client is answered, or its connection ends
abbrev pub AsksOrSays : Bool → Packet → Ask → Reaction → Type 0
AsksOrSays true p ask r = (r ≡ record nothing { packets = Answer p ∷ [] }) ⊎ (r ≡ record nothing { end = Some 0 })
AsksOrSays false p ask r = r ≡ record nothing { ask = Some ask }

-- Packet Identifier in use for each filter
abbrev pub AsksBy : OpenExchanges → Packet → Reaction → Type 0
AsksBy o (packets.Subscribe p) r = (AsksNoLocalShare p.filters → ⊥) → AsksOrSays (is_in p.identifier o.all) (suback p.identifier (replicate (length p.filters) 145)) server.Subscribe r
AsksBy o (packets.Unsubscribe p) r = AsksOrSays (is_in p.identifier o.all) (unsuback p.identifier (replicate (length p.filters) 145)) server.Unsubscribe r
AsksBy o p r = Unit {0}

abbrev pub KeepsRequests : Type 0
KeepsRequests = (client : List ℕ) (before : List Step) (p : Packet) (now : ℕ) (room : Bool) (r : Reaction) (end : State) → Run (new_session client) (before ++ record { event = takes p now room; reaction = r } ∷ []) end → connected_told before ≡ true
    → AsksBy (open_told before) p r
