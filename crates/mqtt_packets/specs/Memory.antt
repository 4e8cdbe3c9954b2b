-- What has been read of a packet once reading it wants memory. Whatever is wrong before that is answered as it is.
use Rattle.std.specs.Prelude.{◌≡◌, ℕ, ◌≤◌, List, [], ◌++◌, length, take, Option, Some, Result, Ok, Err, IsOk}
use Rattle.std.specs.Int.{w8, w16}
use Rattle.mqtt_fields.specs.declared.table.Place.{Place}
use Rattle.mqtt_fields.specs.declared.table.Place.TheVariants as places
use Rattle.mqtt_fields.specs.declared.value.Property.{Property}
use Rattle.mqtt_fields.specs.Reading.{◌>>=◌}
use Rattle.mqtt_fields.specs.Numbers.{number, text}
use Rattle.mqtt_fields.specs.Block.{first_property, first_if_any}
use Rattle.mqtt_packets.specs.declared.fault.PacketFault.{PacketFault}
use Rattle.mqtt_packets.specs.declared.head.Head.{Head}
use Rattle.mqtt_packets.specs.declared.head.Head.TheVariants as heads
use Rattle.mqtt_packets.specs.Reading.{in_packet, field_at}
use Rattle.mqtt_packets.specs.Connack.{session_flag}
use Rattle.mqtt_packets.specs.Stream.{header_at, limited, step_at}

-- a reason, and the first property after it
abbrev pub reason_start : Place → List ℕ → Result (Property × List ℕ) PacketFault
reason_start place bs = field_at (number w8) bs >>= λ a. in_packet (first_property place a.1)

-- CONNACK: its flags, its reason, and its first property
abbrev pub connack_start : List ℕ → Result (Property × List ℕ) PacketFault
connack_start bs = field_at session_flag bs >>= λ a. reason_start places.Connack a.1

-- an acknowledgement: its identifier, its reason, and its first property
abbrev pub ack_start : Place → List ℕ → Result (Property × List ℕ) PacketFault
ack_start place bs = field_at (number w16) bs >>= λ a. reason_start place a.1

-- SUBSCRIBE, UNSUBSCRIBE and their answers: an identifier, and the first property, if there is one
abbrev pub list_start : Place → List ℕ → Result (Option Property) PacketFault
list_start place bs = field_at (number w16) bs >>= λ a. in_packet (first_if_any place a.1)

-- Reading this body wants memory. CONNECT and PUBLISH begin with a string; packets without a body want none.
unfoldable pub WantsMemory : Head → List ℕ → Type 0
WantsMemory heads.Connect bs = IsOk (field_at text bs)
WantsMemory heads.Connack bs = IsOk (connack_start bs)
WantsMemory (heads.Publish _) bs = IsOk (field_at text bs)
WantsMemory heads.Puback bs = IsOk (ack_start places.Puback bs)
WantsMemory heads.Pubrec bs = IsOk (ack_start places.Pubrec bs)
WantsMemory heads.Pubrel bs = IsOk (ack_start places.Pubrel bs)
WantsMemory heads.Pubcomp bs = IsOk (ack_start places.Pubcomp bs)
WantsMemory heads.Subscribe bs = IsOk (list_start places.Subscribe bs)
WantsMemory heads.Suback bs = IsOk (list_start places.Suback bs)
WantsMemory heads.Unsubscribe bs = IsOk (list_start places.Unsubscribe bs)
WantsMemory heads.Unsuback bs = IsOk (list_start places.Unsuback bs)
WantsMemory heads.Pingreq bs = ⊥
WantsMemory heads.Pingresp bs = ⊥
WantsMemory heads.Disconnect bs = IsOk (reason_start places.Disconnect bs)
WantsMemory heads.Auth bs = IsOk (reason_start places.Auth bs)

-- the body is whole, and wants memory
abbrev pub BodyWants : Head → ℕ → List ℕ → Type 0
BodyWants head n bs = (n ≤ length bs) × WantsMemory head (take n bs)

abbrev pub HeaderWants : Result (Option (Head × ℕ × List ℕ)) PacketFault → Type 0
HeaderWants (Ok (Some h)) = BodyWants h.0 h.1 h.2
HeaderWants _ = ⊥

-- the packet in front is whole, and reading it wants memory
abbrev pub PacketWants : List ℕ → Type 0
PacketWants bs = HeaderWants (header_at bs)

-- so where it is within the limit
abbrev pub StepWants : ℕ → List ℕ → Type 0
StepWants limit bs = HeaderWants (header_at bs >>= limited limit bs)

-- the packet in front has a first byte and a length that can be, as far as they have come, and is within the limit
abbrev pub HasHeader : ℕ → List ℕ → Type 0
HasHeader limit bs = IsOk (header_at bs >>= limited limit bs)

-- where the packet in front is faulty, reading it has wanted memory before its fault
abbrev pub FaultWants : ℕ → List ℕ → Type 0
FaultWants limit bs = (f : PacketFault) → step_at limit bs ≡ Err f → StepWants limit bs

-- A piece after what is held wants memory. A first byte or a length that can't be, and a packet above the limit, want
-- none; nor does, where nothing is held, what else is wrong with the packet in front before reading it wants memory.
pub record FeedWants (limit : ℕ) (held piece : List ℕ) : Type 0 where
  pub header : HasHeader limit (held ++ piece)
  pub body : held ≡ [] → FaultWants limit piece
