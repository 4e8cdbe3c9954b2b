use Rattle.std.proofs.Common.{◌≡◌, ◌++◌}
use Rattle.std.specs.Vec.Iter.{into_iter_items}
use Rattle.node_work.specs.Handed.{found}
use Rattle.node_clients.proofs.arriving.found_of.Given as goal

abbrev pub invariant-loop-copy : goal.invariant-loop-copy
invariant-loop-copy l = l.out.items ++ found (into_iter_items l.copy-iterator) ≡ found l.fn.picked.items
