use Rattle.std.proofs.Common.{◌≡◌, Some, map}
use Rattle.node_figures.specs.Peers.{others, peer_at, seen}
use Rattle.node_work.specs.View.{HeldView}
use Rattle.node_figures.proofs.peers.peers_of.Given as goal

abbrev pub invariant-loop-number : goal.invariant-loop-number
invariant-loop-number l =
    (h : HeldView) → l.node.up ≡ Some h → map seen l.peers.items ≡ map (peer_at l.node.homes h l.tally l.since l.at) (others l.node.place.id l.number)
