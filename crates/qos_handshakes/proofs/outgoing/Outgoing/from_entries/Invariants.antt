use Rattle.std.proofs.Common.{◌≡◌, ◌++◌, length}
use Rattle.qos_handshakes.proofs.outgoing.Outgoing.from_entries.Given as goal

abbrev pub invariant-loop-place : goal.invariant-loop-place
invariant-loop-place l = record {
  all : l.left.items ++ l.back.entries ≡ l.fn.entries.items;
  next : l.back.next ≡ l.fn.next_place;
}

abbrev pub decreases-loop-place : goal.decreases-loop-place
decreases-loop-place l = length l.left.items
