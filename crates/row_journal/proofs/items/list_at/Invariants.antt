use Rattle.std.proofs.Common.{◌≡◌, ◌-◌, map}
use Rattle.mqtt_fields.specs.Reading.{◌>>=◌}
use Rattle.row_journal.specs.Fields.{values_at}
use Rattle.row_journal.proofs.NumbersLaws.{onto}
use Rattle.row_journal.specs.Items.{item_of}
use Rattle.row_journal.specs.Spelling.{item}
use Rattle.row_journal.proofs.items.list_at.Given as goal

abbrev pub invariant-loop-i : goal.invariant-loop-i
invariant-loop-i l =
    (values_at item (l.count - l.i) l.rest >>= λ more. onto (map item_of l.list.items) more) ≡ values_at item l.count l.bytes
