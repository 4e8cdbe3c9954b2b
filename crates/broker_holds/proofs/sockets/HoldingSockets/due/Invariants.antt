use Rattle.std.proofs.Common.{◌≡◌, ◌++◌}
use Rattle.broker_holds.specs.Holding.{due_of}
use Rattle.broker_holds.proofs.sockets.HoldingSockets.due.Given as goal

abbrev pub invariant-loop-client : goal.invariant-loop-client
invariant-loop-client g l = l.due.items ++ due_of l.strained l.client-iterator ≡ due_of l.strained l.self.held.entries
