use Rattle.std.proofs.Common.{◌≡◌, [], ◌++◌, map, append-nil, sym, ap, ◌∙◌}
use Rattle.std.specs.Map.Iter.{deref_pair}
use Rattle.std.proofs.lemmas.Map.Iter.{rest_all}
use Rattle.row_store.specs.Cells.{filled}
use Rattle.row_store.proofs.Sorted.{entries_filled}
use Rattle.row_store.proofs.memory.rows_of.Goals as goal
use Rattle.row_store.specs.Rows.{entry_of}

pub returns : goal.returns
returns c =
    let done : c.loop-key.key-iterator ≡ [] = rest_all deref_pair _ _ _ c.in-None.is c.next.ensures.steps in
    sym (append-nil _) ∙ ap (λ cells. map entry_of c.loop-key.rows.items ++ filled cells) (sym done) ∙ c.loop-key.invariant.listed ∙ entries_filled c.args.cells.now.entries c.iter-key-items.ensures.ordered
