-- The bytes of messages for clients of another node.
use Rattle.std.specs.Prelude.{ℕ, ◌^◌, ◌&&◌, nat_eq, nat_le, nat_lt, codes, List, Bool}
use Rattle.std.specs.Int.{w64}
use Rattle.std.specs.List.{starts_with}
use Rattle.mqtt_fields.specs.declared.fault.FieldFault.TheVariants.{Malformed}
use Rattle.mqtt_fields.specs.Field.{Field, after, tested, seen}
use Rattle.mqtt_fields.specs.Numbers.{number, text}
use Rattle.mqtt_message.specs.declared.message.Message.{Message}
use Rattle.mqtt_message.specs.Spelling.{flag, listed}
use Rattle.mqtt_message.specs.Spellings.{message}
use Rattle.replica_bytes.specs.Values.{filter}
use Rattle.bridge_frames.specs.declared.forward.Forward.{Forward}
use Rattle.bridge_frames.specs.declared.pick.Pick.{Pick}

-- a filter that begins as those of shared subscriptions do (MQTT 5.0, 4.8.2)
abbrev pub is_shared : List ℕ → Bool
is_shared text = starts_with nat_eq text (codes "$share/")

-- the whole filter of a shared subscription
abbrev pub shared_filter : Field (List ℕ)
shared_filter = tested is_shared Malformed filter

-- a client, and the whole filter of its shared subscription
abbrev pub pick : Field Pick
pick = seen (λ x. record { client = x.0; filter = x.1 }) (λ p. (p.client, p.filter)) (after text (λ _. shared_filter))

abbrev pub ForwardParts : Type 0
ForwardParts = Bool × (List Pick × Message)

abbrev pub forward_of : ForwardParts → Forward
forward_of x = record { plain = x.0; picks = x.1.0; message = x.1.1 }

abbrev pub forward_parts : Forward → ForwardParts
forward_parts f = (f.plain, (f.picks, f.message))

-- whether it is for plain subscriptions, how many picks there are, in two bytes, and each of them, and the message
unfoldable pub forward : Field Forward
forward = seen forward_of forward_parts (after flag (λ _. after (listed pick) (λ _. message)))

-- a number below 2^62, in eight bytes
abbrev pub got_number : Field ℕ
got_number = tested (λ n. nat_lt n (2 ^ 62)) Malformed (number w64)

-- a number from 1 to 2^62 - 1, in eight bytes
abbrev pub is_lane_number : ℕ → Bool
is_lane_number n = nat_le 1 n && nat_lt n (2 ^ 62)

abbrev pub lane_number : Field ℕ
lane_number = tested is_lane_number Malformed (number w64)

-- a message under its number
abbrev pub Numbered : Type 0
Numbered = ℕ × Forward

abbrev pub numbered : Field Numbered
numbered = after lane_number (λ _. forward)
