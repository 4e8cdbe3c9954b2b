use Rattle.std.specs.Vec.Iter.{into_iter_items}
use Rattle.replica_rows.proofs.Gathered.{IsLeavingThem}
use Rattle.replica_rows.proofs.changes.add_removals.Given as goal

abbrev pub invariant-loop-at : goal.invariant-loop-at
invariant-loop-at l = IsLeavingThem l.store l.delta (into_iter_items l.at-iterator) l.fn.out.items l.out.items
