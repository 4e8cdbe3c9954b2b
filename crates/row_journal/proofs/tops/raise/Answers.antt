use Rattle.std.proofs.Common.{◌∙◌, ap, sym}
use Rattle.row_store.specs.Cells.{cell_at, plain_key}
use Rattle.row_journal.specs.Tops.{is_within}
use Rattle.row_journal.proofs.TopsLaws.{raised, raised_there}
use Rattle.row_journal.proofs.tops.raise.Goals as goal

pub returns-clause-grows : goal.returns-clause-grows
returns-clause-grows c =
    let old = c.args.tops.now.entries in
    let own = c.in_ok-shelf.shelf in
    raised old c.insert.new.self.entries own c.in_ok-top.top c.args.kind c.args.owner.now c.in_ok-shelf.ensures c.in_ok-insert.ensures.updates.0
    (ap (is_within (cell_at old (plain_key own))) c.in_ok-top.ensures.items ∙ sym c.if-is_within_top.ensures)

pub returns-clause-raised : goal.returns-clause-raised
returns-clause-raised c =
    raised_there c.args.tops.now.entries c.insert.new.self.entries c.in_ok-shelf.shelf c.in_ok-top.top c.args.kind c.args.owner.now c.args.place.now c.in_ok-shelf.ensures c.in_ok-top.ensures.items c.in_ok-insert.ensures.updates.0
