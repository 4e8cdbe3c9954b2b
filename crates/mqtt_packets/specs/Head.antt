-- The first byte of a packet: its type in the four high bits, its flags in the low ones (MQTT 5.0, 2.1.1).
use Rattle.std.specs.Prelude.{ℕ, ◌+◌, ◌*◌, ◌/◌, ◌%◌, ◌==◌, not, ◌&&◌, nat_lt, Bool, true, false, List, [], ◌∷◌, find, Option, Some, None, option_map, if◌then◌else◌}
use Rattle.mqtt_fields.specs.declared.options.Qos.{Qos}
use Rattle.mqtt_fields.specs.declared.options.Qos.TheVariants as levels
use Rattle.mqtt_fields.specs.Options.{qos_number}
use Rattle.mqtt_packets.specs.declared.head.Head.{Head}
use Rattle.mqtt_packets.specs.declared.head.Head.TheVariants as heads
use Rattle.mqtt_packets.specs.declared.head.PublishFlags.{PublishFlags}

abbrev pub bit : Bool → ℕ
bit true = 1
bit false = 0

-- the level with this number
abbrev pub level_of : ℕ → Option Qos
level_of n = if n == 0 then Some levels.AtMostOnce else if n == 1 then Some levels.AtLeastOnce else if n == 2 then Some levels.ExactlyOnce else None

abbrev pub is_at_most_once : Qos → Bool
is_at_most_once levels.AtMostOnce = true
is_at_most_once _ = false

-- a message at QoS 0 is never sent again (MQTT 5.0, 3.3.1.1)
abbrev pub is_allowed : PublishFlags → Bool
is_allowed f = not (f.dup && is_at_most_once f.qos)

abbrev pub is_head : Head → Bool
is_head (heads.Publish f) = is_allowed f
is_head _ = true

-- PUBLISH's flags: DUP, QoS in two bits, RETAIN (MQTT 5.0, 3.3.1)
abbrev pub publish_flags : PublishFlags → ℕ
publish_flags f = 8 * bit f.dup + 2 * qos_number f.qos + bit f.retain

abbrev pub first_byte : Head → ℕ
first_byte heads.Connect = 0x10
first_byte heads.Connack = 0x20
first_byte (heads.Publish f) = 0x30 + publish_flags f
first_byte heads.Puback = 0x40
first_byte heads.Pubrec = 0x50
first_byte heads.Pubrel = 0x62
first_byte heads.Pubcomp = 0x70
first_byte heads.Subscribe = 0x82
first_byte heads.Suback = 0x90
first_byte heads.Unsubscribe = 0xa2
first_byte heads.Unsuback = 0xb0
first_byte heads.Pingreq = 0xc0
first_byte heads.Pingresp = 0xd0
first_byte heads.Disconnect = 0xe0
first_byte heads.Auth = 0xf0

-- reading PUBLISH's flags
abbrev pub with_qos : ℕ → Option Qos → Option PublishFlags
with_qos flags None = None
with_qos flags (Some q) = if nat_lt 7 flags && is_at_most_once q then None else Some (record { dup = nat_lt 7 flags; qos = q; retain = flags % 2 == 1 })

abbrev pub publish_at : ℕ → Option PublishFlags
publish_at flags = with_qos flags (level_of (flags / 2 % 4))

-- the first bytes of the other types
abbrev pub plain_heads : List (ℕ × Head)
plain_heads =
    (0x10, heads.Connect) ∷ (0x20, heads.Connack) ∷ (0x40, heads.Puback) ∷ (0x50, heads.Pubrec) ∷ (0x62, heads.Pubrel) ∷ (0x70, heads.Pubcomp)
    ∷ (0x82, heads.Subscribe) ∷ (0x90, heads.Suback) ∷ (0xa2, heads.Unsubscribe) ∷ (0xb0, heads.Unsuback) ∷ (0xc0, heads.Pingreq) ∷ (0xd0, heads.Pingresp)
    ∷ (0xe0, heads.Disconnect) ∷ (0xf0, heads.Auth) ∷ []

-- what a first byte says; None where no packet begins with it
unfoldable pub head_at : ℕ → Option Head
head_at b = if b / 16 == 3 then option_map heads.Publish (publish_at (b % 16)) else option_map (λ e. e.1) (find (λ e. e.0 == b) plain_heads)
