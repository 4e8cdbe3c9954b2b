use Rattle.std.proofs.Common.{rules}
use Rattle.row_store.proofs.Noting.{none_noted}
use Rattle.row_store.proofs.gathered.note_all.Goals as goal

pub loop-change-init : goal.loop-change-init
loop-change-init c = none_noted c.args.kind c.new-befores.result.entries c.new-lefts.result.entries (search rules) (search rules)
