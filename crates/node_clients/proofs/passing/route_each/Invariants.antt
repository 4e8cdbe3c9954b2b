use Rattle.std.proofs.Common.{◌≡◌}
use Rattle.node_work.specs.Doings.{Routes}
use Rattle.node_work.specs.Working.{Each}
use Rattle.node_work.proofs.Working.{Reaches}
use Rattle.node_clients.specs.Passing.{routes_to}
use Rattle.node_clients.proofs.Routing.{routes_from}
use Rattle.node_clients.proofs.passing.route_each.Given as goal

abbrev pub invariant-loop-peer : goal.invariant-loop-peer
invariant-loop-peer l = (l.work.place ≡ l.fn.work.place) × Reaches l.fn.work (Each Routes (routes_to l.fn.work.place l.message l.to)) l.work (Each Routes (routes_from l.fn.work.place l.message l.to l.peer))
