use Rattle.std.proofs.Common.{◌≡◌, ℕ, drop}
use Rattle.std.specs.BTreeMap.{get}
use Rattle.std.specs.Ordering.{nat_cmp}
use Rattle.broker_holds.specs.Holding.{forgotten}
use Rattle.broker_holds.proofs.sockets.HoldingSockets.forget.Given as goal

abbrev pub invariant-loop-client : goal.invariant-loop-client
invariant-loop-client g l =
    (l.self.sockets ≡ l.fn.self.sockets)
    × ((other : ℕ) → forgotten other (drop l.client-index l.due) (get nat_cmp l.self.held other) ≡ forgotten other l.due (get nat_cmp l.fn.self.held other))
