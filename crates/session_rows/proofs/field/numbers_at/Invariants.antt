use Rattle.std.proofs.Common.{◌≡◌, ◌-◌}
use Rattle.std.specs.Int.{w16}
use Rattle.mqtt_fields.specs.Reading.{◌>>=◌}
use Rattle.mqtt_fields.specs.Numbers.{number}
use Rattle.mqtt_message.specs.Spelling.{values_at}
use Rattle.mqtt_message.proofs.NumbersLaws.{onto}
use Rattle.session_rows.proofs.field.numbers_at.Given as goal

abbrev pub invariant-loop-i : goal.invariant-loop-i
invariant-loop-i l =
    (values_at (number w16) (l.count - l.i) l.rest >>= λ more. onto l.numbers.items more) ≡ values_at (number w16) l.count l.bytes
