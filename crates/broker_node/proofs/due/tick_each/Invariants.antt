use Rattle.broker_node.specs.Due.{TicksOf}
use Rattle.broker_node.proofs.Turning.{Stands}
use Rattle.broker_node.proofs.due.tick_each.Given as goal

abbrev pub invariant-loop-due : goal.invariant-loop-due
invariant-loop-due l = Stands TicksOf l.dues l.due-index l.fn.work l.work
