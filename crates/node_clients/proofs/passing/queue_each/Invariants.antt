use Rattle.std.specs.Vec.Iter.{into_iter_items}
use Rattle.node_work.specs.Calling.{Queues}
use Rattle.node_work.proofs.Working.{Reaches}
use Rattle.node_clients.proofs.passing.queue_each.Given as goal

abbrev pub invariant-loop-copy : goal.invariant-loop-copy
invariant-loop-copy l = Reaches l.fn.work (Queues l.fn.copies.items) l.work (Queues (into_iter_items l.copy-iterator))
