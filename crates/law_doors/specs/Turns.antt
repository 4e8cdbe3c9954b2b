-- The packets of a client, and those of them that the handler inside is told: what is held back comes later, once and in order.
use Rattle.std.specs.Prelude.{◌≡◌, ◌++◌, ℕ, not, Bool, true, false, List, [], ◌∷◌, Option, Some, None, flat_map, map}
use Rattle.std.specs.List.{filter, list_all, list_any}
use Rattle.mqtt_fields.specs.Field.{IsBytes}
use Rattle.mqtt_packets.specs.declared.packet.Packet.{Packet}
use Rattle.door_mqtt3.specs.Asked.{asked}
use Rattle.door_mqtt3.specs.Client.{Notice, has_room, is_disconnect, overtakes, went_on}
use Rattle.door_mqtt3.specs.Client.Notice.{Asks}
use Rattle.door_mqtt3.specs.Stages.{Happening, stage_after, told_in}
use Rattle.door_mqtt3.specs.Stages.Happening.{Opens, Goes, Comes, Closes}
use Rattle.door_mqtt3.specs.declared.client.Client.{Client}
use Rattle.door_mqtt3.specs.declared.clients.Stage.{Stage}
use Rattle.door_mqtt3.specs.declared.clients.Stage.TheVariants as stages
use Rattle.law_doors.specs.Cut.{cut, packets_of}

-- ---- of what happens on a connection

-- it is neither opened nor gone nor closed
abbrev pub is_within : Happening → Bool
is_within Opens = false
is_within Goes = false
is_within Closes = false
is_within _ = true

-- the bytes that come
abbrev pub bytes_at : Happening → List ℕ
bytes_at (Comes bytes) = bytes
bytes_at _ = []

abbrev pub bytes_in : List Happening → List ℕ
bytes_in hs = flat_map bytes_at hs

-- the packets that the handler inside is told
abbrev pub asked_by : Notice → List Packet
asked_by (Asks p) = p ∷ []
asked_by _ = []

abbrev pub asked_in : List Notice → List Packet
asked_in ns = flat_map asked_by ns

-- a connection that is opened, of which nothing came
abbrev pub opened : Option Stage
opened = Some (stages.Coming [])

-- ---- the law

-- these wait where one before them waits
abbrev pub takes_turns : Packet → Bool
takes_turns p = not (overtakes p)

-- Of the packets that came those that overtake were told in their order, each once, and the others in theirs, each once, but for the last of them, which are
-- held back.
pub record InOrder (c : Client) (came told : List Packet) : Type 0 where
  pub held : List Packet
  pub whole : cut c.level c.held ≡ record { packets = held; rest = []; fault = None }
  pub overtaking : filter overtakes told ≡ map (asked c.bridge) (filter overtakes came)
  pub in_turn : filter takes_turns told ++ map (asked c.bridge) held ≡ map (asked c.bridge) (filter takes_turns came)

-- whatever happens on a connection, unless the client has disconnected, or a fault has ended it
abbrev pub HeldBackInOrder : Type 0
HeldBackInOrder =
    (hs : List Happening) (c : Client) → list_all is_within hs ≡ true → IsBytes (bytes_in hs) → stage_after opened hs ≡ Some (stages.Known c) → c.served ≡ true → c.ended ≡ false
    → list_any is_disconnect (packets_of c.level (bytes_in hs)) ≡ false → InOrder c (packets_of c.level (bytes_in hs)) (asked_in (told_in opened hs))

-- where what was held back goes on, none is left while there is room
abbrev pub RoomIsUsed : Type 0
RoomIsUsed =
    (c : Client) (held : List Packet) → IsBytes c.held → cut c.level c.held ≡ record { packets = held; rest = []; fault = None }
    → (went_on c).client.ended ≡ false → has_room (went_on c).client ≡ true → (went_on c).client.held ≡ []
