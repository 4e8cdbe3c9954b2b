use Rattle.std.proofs.Common.{[], length, map, ap, sym, ◌∙◌}
use Rattle.std.specs.Prelude.{flat_map}
use Rattle.std.specs.Int.{w16}
use Rattle.std.proofs.lemmas.List.{length-map}
use Rattle.mqtt_fields.specs.Numbers.{number}
use Rattle.row_store.specs.Noted.{pair_of}
use Rattle.row_journal.specs.Spelling.{item, items_of}
use Rattle.row_journal.proofs.EndLaws.{items_length, turn_spelled}
use Rattle.row_journal.proofs.spelled.spell_turn.Goals as goal

pub returns : goal.returns
returns c =
    let items = items_of [] (map pair_of c.args.changes.now) in
    rw (items_length [] (map pair_of c.args.changes.now), length-map c.args.changes.now pair_of)
    (record { ok = turn_spelled c.spell_list.result c.args.out.now.items c.put_u16.new.out.items c.spell_list.new.out.items ((number w16).bytes (length c.args.changes.now)) (flat_map item.bytes items) c.in_ok-put_u16.ensures.ok c.spell_list.ensures.ok })
