use Rattle.std.proofs.Common.{sym, ap, ◌∙◌, append-nil, ◌++◌}
use Rattle.replica_rows.proofs.Told.{in_order}
use Rattle.replica_rows.proofs.reading.entries_of.Goals as goal

pub returns : goal.returns
returns c =
    in_order c.loop-entry.entries.items c.args.standing.entries c.into_iter-entry-iterator.ensures.into_iter_gives.5
    (sym (append-nil c.loop-entry.entries.items) ∙ sym (ap (λ l. c.loop-entry.entries.items ++ l) c.in-None.ensures.steps.0) ∙ c.loop-entry.invariant)
