-- CONNECT (MQTT 5.0, 3.1).
use Rattle.std.specs.Prelude.{Option, Some, None, option_map, is_some, ℕ, ◌+◌, ◌*◌, ◌/◌, ◌%◌, ◌==◌, ◌&&◌, Bool, true, false, List, [], ◌∷◌, Result, Ok, Err, if◌then◌else◌, codes}
use Rattle.std.specs.Str.{bytes_eq}
use Rattle.std.specs.Int.{w8, w16}
use Rattle.mqtt_fields.specs.declared.fault.FieldFault.{FieldFault}
use Rattle.mqtt_fields.specs.declared.fault.FieldFault.TheVariants as fields
use Rattle.mqtt_fields.specs.declared.value.Property.{Property}
use Rattle.mqtt_fields.specs.declared.table.Place.TheVariants as places
use Rattle.mqtt_fields.specs.Reading.{◌>>=◌}
use Rattle.mqtt_fields.specs.Field.{Field, after}
use Rattle.mqtt_fields.specs.Numbers.{number, text, blob}
use Rattle.mqtt_fields.specs.Block.{properties}
use Rattle.mqtt_fields.specs.Options.{qos_number}
use Rattle.mqtt_packets.specs.declared.fault.PacketFault.{PacketFault}
use Rattle.mqtt_packets.specs.declared.fault.PacketFault.TheVariants.{ProtocolError, WrongVersion}
use Rattle.mqtt_packets.specs.declared.connect.Connect.{Connect}
use Rattle.mqtt_packets.specs.declared.connect.Will.{Will}
use Rattle.mqtt_packets.specs.declared.connect.ConnectFlags.{ConnectFlags}
use Rattle.mqtt_packets.specs.declared.connect.WillFlags.{WillFlags}
use Rattle.mqtt_packets.specs.Body.{Body, only, then_, given, valid, as_}
use Rattle.mqtt_packets.specs.Optional.{maybe}
use Rattle.mqtt_packets.specs.Values.{are_valid}
use Rattle.mqtt_packets.specs.Head.{bit, level_of}
use Rattle.mqtt_packets.specs.Reading.{field_at}

-- Connect Flags (MQTT 5.0, 3.1.2.3): a will's bits are 0 where there is none
abbrev pub will_bits : Option WillFlags → ℕ
will_bits None = 0
will_bits (Some w) = 4 + 8 * qos_number w.qos + 32 * bit w.retain

abbrev pub flags_byte : ConnectFlags → ℕ
flags_byte f = 2 * bit f.clean_start + will_bits f.will + 64 * bit f.password + 128 * bit f.user_name

-- reading them; None where they are reserved
abbrev pub will_flags_at : ℕ → Option (Option WillFlags)
will_flags_at n =
    if n / 4 % 2 == 1 then option_map (λ q. Some (record { qos = q; retain = n / 32 % 2 == 1 })) (level_of (n / 8 % 4))
    else if (n / 8 % 4 == 0) && (n / 32 % 2 == 0) then Some None else None

abbrev pub flags_in : ℕ → Option WillFlags → ConnectFlags
flags_in n will = record { clean_start = n / 2 % 2 == 1; will = will; user_name = n / 128 % 2 == 1; password = n / 64 % 2 == 1 }

abbrev pub flags_at : ℕ → Option ConnectFlags
flags_at n = if n % 2 == 0 then option_map (flags_in n) (will_flags_at n) else None

abbrev pub flags_read : ℕ × List ℕ → Option ConnectFlags → Result (ConnectFlags × List ℕ) FieldFault
flags_read x None = Err fields.Malformed
flags_read x (Some f) = Ok (f, x.1)

unfoldable pub connect_flags : Field ConnectFlags
connect_flags = record {
  at = λ bs. (number w8).at bs >>= λ n. flags_read n (flags_at n.0);
  bytes = λ f. flags_byte f ∷ [];
  Fits = λ f. Unit {0};
}

-- the protocol's name and version
abbrev pub is_mqtt : List ℕ → ℕ → Bool
is_mqtt name version = bytes_eq name (codes "MQTT") && (version == 5)

-- a will's properties, topic and payload
abbrev pub WillParts : Type 0
WillParts = List Property × (List ℕ × List ℕ)

unfoldable pub will : Field WillParts
will = after (properties places.Will) (λ _. after text (λ _. blob))

-- user name and password
unfoldable pub login : ConnectFlags → Field (Option (List ℕ) × Option (List ℕ))
login f = after (maybe f.user_name text) (λ _. maybe f.password blob)

-- what stands after the properties
abbrev pub TailParts : Type 0
TailParts = List ℕ × (Option WillParts × (Option (List ℕ) × Option (List ℕ)))

unfoldable pub tail : ConnectFlags → Field TailParts
tail f = after text (λ _. after (maybe (is_some f.will) will) (λ _. login f))

abbrev pub ConnectParts : Type 0
ConnectParts = List ℕ × (ℕ × (ConnectFlags × (ℕ × (List Property × TailParts))))

abbrev pub will_of : Option WillFlags → Option WillParts → Option Will
will_of (Some f) (Some w) = Some (record { retain = f.retain; qos = f.qos; properties = w.0; topic = w.1.0; payload = w.1.1 })
will_of _ _ = None

abbrev pub will_parts : Will → WillParts
will_parts w = (w.properties, (w.topic, w.payload))

abbrev pub connect_from : ConnectFlags → ℕ → List Property → TailParts → Connect
connect_from f keep_alive properties t = record {
  clean_start = f.clean_start;
  keep_alive = keep_alive;
  properties = properties;
  client = t.0;
  will = will_of f.will t.1.0;
  user_name = t.1.1.0;
  password = t.1.1.1;
}

abbrev pub connect_of : ConnectParts → Connect
connect_of x = connect_from x.1.1.0 x.1.1.1.0 x.1.1.1.1.0 x.1.1.1.1.1

abbrev pub will_flags : Will → WillFlags
will_flags w = record { qos = w.qos; retain = w.retain }

abbrev pub flags_of : Connect → ConnectFlags
flags_of c = record { clean_start = c.clean_start; will = option_map will_flags c.will; user_name = is_some c.user_name; password = is_some c.password }

abbrev pub tail_parts : Connect → TailParts
tail_parts c = (c.client, (option_map will_parts c.will, (c.user_name, c.password)))

abbrev pub connect_parts : Connect → ConnectParts
connect_parts c = (codes "MQTT", (5, (flags_of c, (c.keep_alive, (c.properties, tail_parts c)))))

abbrev pub is_valid_will : Option Will → Bool
is_valid_will None = true
is_valid_will (Some w) = are_valid w.properties

abbrev pub is_valid_connect : Connect → Bool
is_valid_connect c = are_valid c.properties && is_valid_will c.will

unfoldable pub connect : Body Connect
connect = valid is_valid_connect ProtocolError (as_ connect_of connect_parts
    (then_ text (λ name. then_ (number w8) (λ version. given (is_mqtt name version) WrongVersion
    (then_ connect_flags (λ flags. then_ (number w16) (λ _. then_ (properties places.Connect) (λ _. only (tail flags)))))))))

-- reading in parts
abbrev pub will_at : Option WillFlags → List ℕ → Result (Option Will × List ℕ) PacketFault
will_at f bs = field_at (maybe (is_some f) will) bs >>= λ a. Ok (will_of f a.0, a.1)

abbrev pub connect_end : ConnectFlags → ℕ → List Property → List ℕ → Result Connect PacketFault
connect_end f keep_alive properties bs = (only (tail f)).of bs >>= λ t. Ok (connect_from f keep_alive properties t)
