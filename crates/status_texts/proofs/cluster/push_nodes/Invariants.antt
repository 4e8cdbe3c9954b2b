use Rattle.std.proofs.Common.{◌≡◌, drop}
use Rattle.std.specs.Prelude.{string_bytes}
use Rattle.status_texts.specs.Cluster.{with_nodes}
use Rattle.status_texts.proofs.cluster.push_nodes.Given as goal

-- with the lines that are left, all are there
abbrev pub invariant-loop-peer : goal.invariant-loop-peer
invariant-loop-peer l = with_nodes (drop l.peer-index l.peers) (string_bytes l.text) ≡ with_nodes l.peers (string_bytes l.fn.text)
