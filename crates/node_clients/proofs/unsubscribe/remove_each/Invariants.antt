use Rattle.std.proofs.Common.{[], drop}
use Rattle.node_clients.specs.Unsubscribing.{Unsubscribed}
use Rattle.node_work.specs.Working.{InTurn}
use Rattle.node_work.proofs.Working.{Reaches}
use Rattle.node_clients.proofs.unsubscribe.remove_each.Given as goal

abbrev pub invariant-loop-text : goal.invariant-loop-text
invariant-loop-text l = Reaches l.fn.work (InTurn (Unsubscribed l.client) l.filters []) l.work (InTurn (Unsubscribed l.client) (drop l.text-index l.filters) l.reasons.items)
