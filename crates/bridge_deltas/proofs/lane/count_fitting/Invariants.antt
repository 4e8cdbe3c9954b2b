use Rattle.std.proofs.Common.{◌≡◌, ◌+◌, ◌-◌, drop}
use Rattle.bridge_deltas.specs.More.{fitting}
use Rattle.bridge_deltas.proofs.lane.count_fitting.Given as goal

abbrev pub invariant-loop-i : goal.invariant-loop-i
invariant-loop-i l = fitting 4096 4194304 (drop l.place l.messages.items) ≡ l.i + fitting (4096 - l.i) l.bytes (drop (l.place + l.i) l.messages.items)
