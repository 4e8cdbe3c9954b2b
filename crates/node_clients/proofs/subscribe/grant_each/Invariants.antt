use Rattle.std.proofs.Common.{[], drop}
use Rattle.node_clients.specs.Subscribing.{Grants}
use Rattle.node_work.specs.Working.{InTurn}
use Rattle.node_work.proofs.Working.{Reaches}
use Rattle.node_clients.proofs.subscribe.grant_each.Given as goal

abbrev pub invariant-loop-each : goal.invariant-loop-each
invariant-loop-each l = Reaches l.fn.work (InTurn (Grants l.client l.identifier) l.filters []) l.work (InTurn (Grants l.client l.identifier) (drop l.each-index l.filters) l.grants.items)
