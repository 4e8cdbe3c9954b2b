use Rattle.broker_node.specs.Due.{PartsFrom}
use Rattle.broker_node.proofs.Turning.{Stands}
use Rattle.broker_node.proofs.due.part_each.Given as goal

abbrev pub invariant-loop-client : goal.invariant-loop-client
invariant-loop-client l = Stands PartsFrom l.clients l.client-index l.fn.work l.work
