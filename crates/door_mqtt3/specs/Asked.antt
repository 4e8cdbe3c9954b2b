-- What a client's packet asks for, in MQTT 5.0.
use Rattle.std.specs.Prelude.{ℕ, nat_lt, ◌+◌, ◌%◌, ◌==◌, ◌&&◌, ◌||◌, not, Bool, false, List, [], ◌∷◌, length, map, take, codes, if◌then◌else◌}
use Rattle.std.specs.Str.{bytes_eq}
use Rattle.mqtt_fields.specs.declared.value.Property.{Property}
use Rattle.mqtt_fields.specs.declared.value.Value.TheVariants.{Two, Four}
use Rattle.mqtt_packets.specs.declared.connect.Connect.{Connect}
use Rattle.mqtt_packets.specs.declared.packet.Packet.{Packet}
use Rattle.mqtt_packets.specs.declared.packet.Packet.TheVariants as packets
use Rattle.mqtt_packets.specs.declared.subscribe.Subscribe.{Subscribe}
use Rattle.mqtt_packets.specs.declared.subscribe.SubscribeFilter.{SubscribeFilter}
use Rattle.mqtt3_packets.specs.declared.level.Level.{Level}
use Rattle.mqtt3_packets.specs.Level.{is_three}

-- a client without an identifier is refused at level 3, and at level 4 where its session is to last (MQTT-3.1.3-8)
abbrev pub is_nameless : Level → Connect → Bool
is_nameless level c = (length c.client == 0) && (is_three level || not c.clean_start)

abbrev pub is_refused : Level → Packet → Bool
is_refused level (packets.Connect c) = is_nameless level c
is_refused level _ = false

-- Session Expiry Interval, 4,294,967,295: a session that never ends (MQTT 5.0, 3.1.2.11.2)
abbrev pub never_ends : Property
never_ends = record { id = 17; value = Four 4294967295 }

-- Receive Maximum: 20 messages at QoS 1 and 2 are sent at a time (MQTT 5.0, 3.1.2.11.3)
abbrev pub at_a_time : Property
at_a_time = record { id = 33; value = Two 20 }

abbrev pub properties_of : Bool → List Property
properties_of clean = if clean then at_a_time ∷ [] else never_ends ∷ at_a_time ∷ []

-- a session that isn't clean never ends
abbrev pub connect_asked : Connect → Connect
connect_asked c = record c { properties = properties_of c.clean_start }

abbrev pub is_shared : List ℕ → Bool
is_shared filter = if nat_lt (length filter) 7 then false else bytes_eq (take 7 filter) (codes "$share/")

-- a bridge's plain filter has No Local and Retain As Published (MQTT 5.0, 3.8.3.1)
abbrev pub bridged : SubscribeFilter → SubscribeFilter
bridged f = if is_shared f.filter then f else record f { options = f.options % 4 + 12 }

abbrev pub subscribe_asked : Subscribe → Subscribe
subscribe_asked s = record s { filters = map bridged s.filters }

-- all other packets ask for the same
abbrev pub asked : Bool → Packet → Packet
asked bridge (packets.Connect c) = packets.Connect (connect_asked c)
asked bridge (packets.Subscribe s) = if bridge then packets.Subscribe (subscribe_asked s) else packets.Subscribe s
asked bridge p = p
