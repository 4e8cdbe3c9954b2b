use Rattle.replica_rows.proofs.Gathered.{IsBringing}
use Rattle.replica_rows.proofs.changes.add_subscriptions.Given as goal

abbrev pub invariant-loop-at : goal.invariant-loop-at
invariant-loop-at l = IsBringing l.store l.delta l.at-iterator l.fn.out.items l.out.items
