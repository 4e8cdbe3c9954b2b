-- Messages stand in the order of their encodings.
use Rattle.std.specs.Prelude.{◌≡◌}
use Rattle.std.specs.Ordering.{nat_cmp}
use Rattle.std.specs.Cmp.Lexicographic.{slice_cmp}
use Rattle.mqtt_message.specs.declared.message.Message.{Message}
use Rattle.mqtt_message.specs.Order.{message_cmp}
use Rattle.mqtt_message.specs.Spellings.{message}

-- messages compare as the bytes of their encodings do
abbrev pub OrderOfEncodings : Type 0
OrderOfEncodings = (x y : Message) → message.Fits x → message.Fits y → message_cmp x y ≡ slice_cmp nat_cmp (message.bytes x) (message.bytes y)
