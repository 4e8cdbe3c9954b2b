use Rattle.std.proofs.Common.{◌≡◌, sym, arith}
use Rattle.std.specs.Prelude.{slice_index}
use Rattle.mqtt_fields.specs.declared.table.Entry.{Entry}
use Rattle.mqtt_fields.specs.declared.table.ValueKind.TheVariants.{Byte}
use Rattle.mqtt_fields.proofs.TableLaws.{found_from, none_from}
use Rattle.mqtt_fields.proofs.table.line_of.Goals as goal

abbrev no_entry : Entry
no_entry = record { id = 0; kind = Byte; places = 0 }

pub returns-then-id_index-lines : goal.returns-then-id_index-lines
returns-then-id_index-lines c =
    sym (none_from 0 c.args.table.now c.args.lines.now c.args.id no_entry c.requires (λ i lt inside line same. absurd (omega arith)))

pub returns-then-line-table : goal.returns-then-line-table
returns-then-line-table c =
    sym (none_from 0 c.args.table.now c.args.lines.now c.args.id no_entry c.requires (λ i lt inside line same. absurd (omega arith)))

pub returns-then-entry-id : goal.returns-then-entry-id
returns-then-entry-id c =
    sym (found_from 0 c.args.table.now c.args.lines.now (slice_index c.args.lines.now c.args.id) c.args.id _ c.requires (omega arith) c.if-entry-id.true)

pub returns-else-entry-id : goal.returns-else-entry-id
returns-else-entry-id c =
    sym (none_from 0 c.args.table.now c.args.lines.now c.args.id no_entry c.requires
    (λ i lt inside line same. let at : i ≡ slice_index c.args.lines.now c.args.id = omega (arith, line) in c.if-entry-id.false (rw (← at) same)))
