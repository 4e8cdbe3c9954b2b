use Rattle.std.proofs.Common.{drop}
use Rattle.bridge_deltas.proofs.Shipping.{Joins}
use Rattle.bridge_deltas.proofs.buffer.joined_news.Given as goal

abbrev pub invariant-loop-i : goal.invariant-loop-i
invariant-loop-i l = Joins l.belief l.deltas.items (drop l.i l.deltas.items) l.joined
