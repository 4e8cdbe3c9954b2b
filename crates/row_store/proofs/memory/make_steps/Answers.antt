use Rattle.std.proofs.Common.{rules}
use Rattle.row_store.proofs.CellLemmas.{ready_at}
use Rattle.row_store.proofs.memory.make_steps.Goals as goal

pub make_one-requires : goal.make_one-requires
make_one-requires c = ready_at c.loop-i.cells.entries c.loop-i.steps.items c.args.steps.now.items c.loop-i.i c.index_mut.result.now c.loop-i.invariant.rest (search rules) (search rules) c.loop-i.invariant.ready
