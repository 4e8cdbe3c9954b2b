use Rattle.std.proofs.Common.{rules}
use Rattle.row_store.proofs.Noting.{none_last, note_last}
use Rattle.row_store.proofs.gathered.note_lasts.Goals as goal

pub loop-change-init : goal.loop-change-init
loop-change-init c = none_last c.new-lasts.result.entries (search rules)

pub loop-change-preserved-in_ok-insert : goal.loop-change-preserved-in_ok-insert
loop-change-preserved-in_ok-insert c =
    note_last c.loop-change.lasts.entries c.insert.new.self.entries c.parts-key.result.0 c.parts-key.result.1 c.in-Some.change c.parts-key.ensures c.in_ok-insert.ensures.updates.0 c.loop-change.yielded c.loop-change.invariant

pub loop-change-preserved-in_ok-insert-2 : goal.loop-change-preserved-in_ok-insert-2
loop-change-preserved-in_ok-insert-2 c =
    note_last c.loop-change.lasts.entries c.insert.new.self.entries c.parts-key.result.0 c.parts-key.result.1 c.in-Some.change c.parts-key.ensures c.in_ok-insert.ensures.updates.0 c.loop-change.yielded c.loop-change.invariant

pub loop-change-preserved : goal.loop-change-preserved
loop-change-preserved c =
    note_last c.loop-change.lasts.entries c.insert.new.self.entries c.parts-key.result.0 c.parts-key.result.1 c.in-Some.change c.parts-key.ensures c.in_ok-insert.ensures.updates.0 c.loop-change.yielded c.loop-change.invariant
