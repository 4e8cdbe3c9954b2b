use Rattle.std.proofs.Common.{◌≡◌, drop}
use Rattle.std.specs.Prelude.{string_bytes}
use Rattle.status_pages.specs.Status.{with_peers}
use Rattle.status_pages.proofs.peers.push_peers.Given as goal

-- with the peers that are left, all are there
abbrev pub invariant-loop-index : goal.invariant-loop-index
invariant-loop-index l = with_peers l.index (drop l.index l.peers) (string_bytes l.text) ≡ with_peers 0 l.peers (string_bytes l.fn.text)
