use Rattle.std.proofs.Common.{◌≡◌, ◌<◌, ℕ, None, length, slice_index_or}
use Rattle.node_server.specs.Peers.{IsPeer}
use Rattle.node_server.proofs.peers.peers_of.Given as goal

abbrev pub invariant-loop-number : goal.invariant-loop-number
invariant-loop-number l =
    (length l.peers.items ≡ l.number) × ((k : ℕ) → k < l.number → IsPeer l.homes.nodes l.id k (slice_index_or l.peers.items k None))
