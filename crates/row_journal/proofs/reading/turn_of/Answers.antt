use Rattle.std.proofs.Common.{◌∙◌, OnErr, map, subst, sym}
use Rattle.row_store.specs.Rows.{key_of}
use Rattle.row_store.specs.Noted.{pair_of}
use Rattle.row_journal.specs.Journal.{AreOthers}
use Rattle.row_journal.proofs.ReadingLaws.{not_plain}
use Rattle.row_journal.proofs.reading.turn_of.Goals as goal

pub returns-in-Ok-clause-bad : goal.returns-in-Ok-clause-bad
returns-in-Ok-clause-bad c = λ is changes e.
    let row = c.args.row.now in
    not_plain (key_of row) row.value.items c.args.number (map pair_of c.in-Ok.turn.items) changes (sym c.deref.ensures.value ∙ c.in-Ok.ensures.0, c.in-Ok.ensures.1)
    (subst (λ r. OnErr r (AreOthers (map pair_of c.in-Ok.turn.items) → ⊥)) is c.plain_turn.ensures.bad) e
