use Rattle.std.proofs.Common.{◌≡◌, ◌++◌}
use Rattle.std.specs.Vec.Iter.{into_iter_items}
use Rattle.node_clients.proofs.passing.joined.Given as goal

abbrev pub invariant-loop-copy : goal.invariant-loop-copy
invariant-loop-copy l = l.both.items ++ into_iter_items l.copy-iterator ≡ l.fn.first.items ++ l.fn.then.items
