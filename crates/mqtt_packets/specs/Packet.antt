-- Packets by their kind.
use Rattle.std.specs.Prelude.{◌≡◌, ℕ, List, [], Result, Ok, Err, ◌==◌, length, if◌then◌else◌}
use Rattle.mqtt_fields.specs.declared.table.Place.TheVariants as places
use Rattle.mqtt_fields.specs.Reading.{◌>>=◌}
use Rattle.mqtt_packets.specs.declared.fault.PacketFault.{PacketFault}
use Rattle.mqtt_packets.specs.declared.fault.PacketFault.TheVariants.{Malformed}
use Rattle.mqtt_packets.specs.declared.head.Head.{Head}
use Rattle.mqtt_packets.specs.declared.head.Head.TheVariants as heads
use Rattle.mqtt_packets.specs.declared.packet.Packet.{Packet}
use Rattle.mqtt_packets.specs.declared.packet.Packet.TheVariants as packets
use Rattle.mqtt_packets.specs.Body.{Body}
use Rattle.mqtt_packets.specs.Connect.{connect}
use Rattle.mqtt_packets.specs.Connack.{connack}
use Rattle.mqtt_packets.specs.Publish.{publish, flags_of}
use Rattle.mqtt_packets.specs.Ack.{ack}
use Rattle.mqtt_packets.specs.Subscribe.{subscribe}
use Rattle.mqtt_packets.specs.Reasons.{reasons}
use Rattle.mqtt_packets.specs.Unsubscribe.{unsubscribe}
use Rattle.mqtt_packets.specs.Ended.{ended}

-- what a packet's first byte says
unfoldable pub head_of : Packet → Head
head_of (packets.Connect _) = heads.Connect
head_of (packets.Connack _) = heads.Connack
head_of (packets.Publish p) = heads.Publish (flags_of p)
head_of (packets.Puback _) = heads.Puback
head_of (packets.Pubrec _) = heads.Pubrec
head_of (packets.Pubrel _) = heads.Pubrel
head_of (packets.Pubcomp _) = heads.Pubcomp
head_of (packets.Subscribe _) = heads.Subscribe
head_of (packets.Suback _) = heads.Suback
head_of (packets.Unsubscribe _) = heads.Unsubscribe
head_of (packets.Unsuback _) = heads.Unsuback
head_of packets.Pingreq = heads.Pingreq
head_of packets.Pingresp = heads.Pingresp
head_of (packets.Disconnect _) = heads.Disconnect
head_of (packets.Auth _) = heads.Auth

-- the grammar of what follows Remaining Length
unfoldable pub SpellsBody : Packet → List ℕ → Type 0
SpellsBody (packets.Connect c) bs = connect.Spells bs c
SpellsBody (packets.Connack c) bs = connack.Spells bs c
SpellsBody (packets.Publish p) bs = (publish (flags_of p)).Spells bs p
SpellsBody (packets.Puback a) bs = (ack places.Puback).Spells bs a
SpellsBody (packets.Pubrec a) bs = (ack places.Pubrec).Spells bs a
SpellsBody (packets.Pubrel a) bs = (ack places.Pubrel).Spells bs a
SpellsBody (packets.Pubcomp a) bs = (ack places.Pubcomp).Spells bs a
SpellsBody (packets.Subscribe s) bs = subscribe.Spells bs s
SpellsBody (packets.Suback s) bs = (reasons places.Suback).Spells bs s
SpellsBody (packets.Unsubscribe s) bs = unsubscribe.Spells bs s
SpellsBody (packets.Unsuback s) bs = (reasons places.Unsuback).Spells bs s
SpellsBody packets.Pingreq bs = bs ≡ []
SpellsBody packets.Pingresp bs = bs ≡ []
SpellsBody (packets.Disconnect e) bs = (ended places.Disconnect).Spells bs e
SpellsBody (packets.Auth e) bs = (ended places.Auth).Spells bs e

-- the shortest spelling of a body
unfoldable pub body_bytes : Packet → List ℕ
body_bytes (packets.Connect c) = connect.bytes c
body_bytes (packets.Connack c) = connack.bytes c
body_bytes (packets.Publish p) = (publish (flags_of p)).bytes p
body_bytes (packets.Puback a) = (ack places.Puback).bytes a
body_bytes (packets.Pubrec a) = (ack places.Pubrec).bytes a
body_bytes (packets.Pubrel a) = (ack places.Pubrel).bytes a
body_bytes (packets.Pubcomp a) = (ack places.Pubcomp).bytes a
body_bytes (packets.Subscribe s) = subscribe.bytes s
body_bytes (packets.Suback s) = (reasons places.Suback).bytes s
body_bytes (packets.Unsubscribe s) = unsubscribe.bytes s
body_bytes (packets.Unsuback s) = (reasons places.Unsuback).bytes s
body_bytes packets.Pingreq = []
body_bytes packets.Pingresp = []
body_bytes (packets.Disconnect e) = (ended places.Disconnect).bytes e
body_bytes (packets.Auth e) = (ended places.Auth).bytes e

-- the body has a spelling
unfoldable pub BodyFits : Packet → Type 0
BodyFits (packets.Connect c) = connect.Fits c
BodyFits (packets.Connack c) = connack.Fits c
BodyFits (packets.Publish p) = (publish (flags_of p)).Fits p
BodyFits (packets.Puback a) = (ack places.Puback).Fits a
BodyFits (packets.Pubrec a) = (ack places.Pubrec).Fits a
BodyFits (packets.Pubrel a) = (ack places.Pubrel).Fits a
BodyFits (packets.Pubcomp a) = (ack places.Pubcomp).Fits a
BodyFits (packets.Subscribe s) = subscribe.Fits s
BodyFits (packets.Suback s) = (reasons places.Suback).Fits s
BodyFits (packets.Unsubscribe s) = unsubscribe.Fits s
BodyFits (packets.Unsuback s) = (reasons places.Unsuback).Fits s
BodyFits packets.Pingreq = Unit {0}
BodyFits packets.Pingresp = Unit {0}
BodyFits (packets.Disconnect e) = (ended places.Disconnect).Fits e
BodyFits (packets.Auth e) = (ended places.Auth).Fits e

-- no bytes
abbrev pub nothing : Packet → List ℕ → Result Packet PacketFault
nothing p bs = if length bs == 0 then Ok p else Err Malformed

-- reading a body from left to right, with its first fault
unfoldable pub body_of : Head → List ℕ → Result Packet PacketFault
body_of heads.Connect bs = connect.of bs >>= λ c. Ok (packets.Connect c)
body_of heads.Connack bs = connack.of bs >>= λ c. Ok (packets.Connack c)
body_of (heads.Publish f) bs = (publish f).of bs >>= λ p. Ok (packets.Publish p)
body_of heads.Puback bs = (ack places.Puback).of bs >>= λ a. Ok (packets.Puback a)
body_of heads.Pubrec bs = (ack places.Pubrec).of bs >>= λ a. Ok (packets.Pubrec a)
body_of heads.Pubrel bs = (ack places.Pubrel).of bs >>= λ a. Ok (packets.Pubrel a)
body_of heads.Pubcomp bs = (ack places.Pubcomp).of bs >>= λ a. Ok (packets.Pubcomp a)
body_of heads.Subscribe bs = subscribe.of bs >>= λ s. Ok (packets.Subscribe s)
body_of heads.Suback bs = (reasons places.Suback).of bs >>= λ s. Ok (packets.Suback s)
body_of heads.Unsubscribe bs = unsubscribe.of bs >>= λ s. Ok (packets.Unsubscribe s)
body_of heads.Unsuback bs = (reasons places.Unsuback).of bs >>= λ s. Ok (packets.Unsuback s)
body_of heads.Pingreq bs = nothing packets.Pingreq bs
body_of heads.Pingresp bs = nothing packets.Pingresp bs
body_of heads.Disconnect bs = (ended places.Disconnect).of bs >>= λ e. Ok (packets.Disconnect e)
body_of heads.Auth bs = (ended places.Auth).of bs >>= λ e. Ok (packets.Auth e)
