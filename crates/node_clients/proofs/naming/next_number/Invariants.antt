use Rattle.std.proofs.Common.{◌≡◌, ℕ, ◌<◌, true}
use Rattle.node_work.specs.Held.Sessions.{has_session}
use Rattle.node_clients.specs.Naming.{automatic}
use Rattle.node_clients.proofs.naming.next_number.Given as goal

-- each number before this one names a session
abbrev pub invariant-loop-number : goal.invariant-loop-number
invariant-loop-number l = (l.work.held.named < l.number) × ((k : ℕ) → l.work.held.named < k → k < l.number → has_session (automatic l.work.place.id k) l.work.held ≡ true)
