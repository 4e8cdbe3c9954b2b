-- The table of properties: their types, and where they may stand (MQTT 5.0, 2.2.2.2).
use Rattle.std.specs.Prelude.{ℕ, suc, ◌+◌, ◌==◌, ◌&&◌, not, List, [], ◌∷◌, length, slice_index, find, nat_lt, Option, bit_and, Bool, true}
use Rattle.mqtt_fields.specs.declared.table.Place.{Place}
use Rattle.mqtt_fields.specs.declared.table.Place.TheVariants.{Connect, Connack, Publish, Puback, Pubrec, Pubrel, Pubcomp, Subscribe, Suback, Unsubscribe, Unsuback, Disconnect, Auth, Will}
use Rattle.mqtt_fields.specs.declared.table.Entry.{Entry}
use Rattle.mqtt_fields.specs.declared.table.ValueKind.{ValueKind}
use Rattle.mqtt_fields.specs.declared.table.ValueKind.TheVariants.{Byte, Two, Four, Vbi, Text, Blob, Pair}
use Rattle.mqtt_fields.specs.Identifier.{payload_format_indicator, message_expiry_interval, content_type, response_topic, correlation_data, subscription_identifier, session_expiry_interval, assigned_client_identifier, server_keep_alive, authentication_method, authentication_data, request_problem_information, will_delay_interval, request_response_information, response_information, server_reference, reason_string, receive_maximum, topic_alias_maximum, topic_alias, maximum_qos, retain_available, user_property, maximum_packet_size, wildcard_subscription_available, subscription_identifier_available, shared_subscription_available}

-- a place's bit in a line of the table
abbrev pub bit_of : Place → ℕ
bit_of Connect = 1
bit_of Connack = 2
bit_of Publish = 4
bit_of Puback = 8
bit_of Pubrec = 16
bit_of Pubrel = 32
bit_of Pubcomp = 64
bit_of Subscribe = 128
bit_of Suback = 256
bit_of Unsubscribe = 512
bit_of Unsuback = 1024
bit_of Disconnect = 2048
bit_of Auth = 4096
bit_of Will = 8192

-- the bits of some places
abbrev pub bits_of : List Place → ℕ
bits_of [] = 0
bits_of (p ∷ ps) = bit_of p + bits_of ps

-- a line: a property's identifier, its type, and where it may stand
abbrev pub line : ℕ → ValueKind → List Place → Entry
line id kind places = record { id = id; kind = kind; places = bits_of places }

-- Each property once: its identifier, its type, and the packets in which it may stand, or the Will of a CONNECT.
abbrev pub table : List Entry
table =
    line payload_format_indicator Byte (Publish ∷ Will ∷ []) ∷
    line message_expiry_interval Four (Publish ∷ Will ∷ []) ∷
    line content_type Text (Publish ∷ Will ∷ []) ∷
    line response_topic Text (Publish ∷ Will ∷ []) ∷
    line correlation_data Blob (Publish ∷ Will ∷ []) ∷
    line subscription_identifier Vbi (Publish ∷ Subscribe ∷ []) ∷
    line session_expiry_interval Four (Connect ∷ Connack ∷ Disconnect ∷ []) ∷
    line assigned_client_identifier Text (Connack ∷ []) ∷
    line server_keep_alive Two (Connack ∷ []) ∷
    line authentication_method Text (Connect ∷ Connack ∷ Auth ∷ []) ∷
    line authentication_data Blob (Connect ∷ Connack ∷ Auth ∷ []) ∷
    line request_problem_information Byte (Connect ∷ []) ∷
    line will_delay_interval Four (Will ∷ []) ∷
    line request_response_information Byte (Connect ∷ []) ∷
    line response_information Text (Connack ∷ []) ∷
    line server_reference Text (Connack ∷ Disconnect ∷ []) ∷
    line reason_string Text (Connack ∷ Puback ∷ Pubrec ∷ Pubrel ∷ Pubcomp ∷ Suback ∷ Unsuback ∷ Disconnect ∷ Auth ∷ []) ∷
    line receive_maximum Two (Connect ∷ Connack ∷ []) ∷
    line topic_alias_maximum Two (Connect ∷ Connack ∷ []) ∷
    line topic_alias Two (Publish ∷ []) ∷
    line maximum_qos Byte (Connack ∷ []) ∷
    line retain_available Byte (Connack ∷ []) ∷
    line user_property Pair (Connect ∷ Connack ∷ Publish ∷ Puback ∷ Pubrec ∷ Pubrel ∷ Pubcomp ∷ Subscribe ∷ Suback ∷ Unsubscribe ∷ Unsuback ∷ Disconnect ∷ Auth ∷ Will ∷ []) ∷
    line maximum_packet_size Four (Connect ∷ Connack ∷ []) ∷
    line wildcard_subscription_available Byte (Connack ∷ []) ∷
    line subscription_identifier_available Byte (Connack ∷ []) ∷
    line shared_subscription_available Byte (Connack ∷ []) ∷ []

-- the line of an identifier, if there is such a property
unfoldable pub entry_of : ℕ → Option Entry
entry_of id = find (λ e. e.id == id) table

-- the property of this line may stand here
unfoldable pub is_here : Entry → Place → Bool
is_here e place = not (bit_and e.places (bit_of place) == 0)

-- The numbers index the table: at the identifier of each line stands the line's place. The first line of this part
-- of the table has place k.
abbrev pub is_indexed : ℕ → List Entry → List ℕ → Bool
is_indexed k [] lines = true
is_indexed k (e ∷ es) lines = nat_lt e.id (length lines) && (slice_index lines e.id == k) && is_indexed (suc k) es lines
