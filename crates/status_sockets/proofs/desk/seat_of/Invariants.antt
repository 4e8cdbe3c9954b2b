use Rattle.std.proofs.Common.{◌<◌, ◌≤◌, ℕ, length}
use Rattle.status_sockets.specs.Desks.{rank_at}
use Rattle.status_sockets.proofs.desk.seat_of.Given as goal

abbrev pub invariant-loop-index : goal.invariant-loop-index
invariant-loop-index g l = (l.seat < length l.places) × ((j : ℕ) → j < l.index → rank_at l.places l.seat ≤ rank_at l.places j)
