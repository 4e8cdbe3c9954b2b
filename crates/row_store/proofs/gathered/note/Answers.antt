use Rattle.std.proofs.Common.{rules}
use Rattle.row_store.proofs.Noting.{note_first, note_other}
use Rattle.row_store.proofs.gathered.note.Goals as goal

pub returns-in_ok-insert : goal.returns-in_ok-insert
returns-in_ok-insert c =
    note_first c.args.kind c.parts-key.result.0 c.parts-key.result.1 c.args.change c.parts-key.ensures c.args.befores.now.entries c.insert.new.self.entries c.args.lefts.now.entries (search rules) (search rules) c.in_ok-insert.ensures.updates.0

pub returns-in_ok-insert-2 : goal.returns-in_ok-insert-2
returns-in_ok-insert-2 c =
    note_other c.args.kind c.parts-key.result.0 c.parts-key.result.1 c.args.change c.parts-key.ensures c.args.befores.now.entries c.args.lefts.now.entries c.insert-else-key-kind.new.self.entries
    (search rules) c.in_ok-insert-2.ensures.updates.0
