use Rattle.std.proofs.Common.{◌≡◌, drop}
use Rattle.std.specs.Prelude.{string_bytes}
use Rattle.status_texts.specs.Peers.{with_peers}
use Rattle.status_texts.proofs.peers.push_peers.Given as goal

-- with the lines that are left, all are there
abbrev pub invariant-loop-peer : goal.invariant-loop-peer
invariant-loop-peer l = with_peers (drop l.peer-index l.peers) (string_bytes l.text) ≡ with_peers l.peers (string_bytes l.fn.text)
