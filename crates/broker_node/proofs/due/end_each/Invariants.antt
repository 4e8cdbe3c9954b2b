use Rattle.broker_node.specs.Due.{RunsOut}
use Rattle.broker_node.proofs.Turning.{Stands}
use Rattle.broker_node.proofs.due.end_each.Given as goal

abbrev pub invariant-loop-due : goal.invariant-loop-due
invariant-loop-due l = Stands RunsOut l.dues l.due-index l.fn.work l.work
