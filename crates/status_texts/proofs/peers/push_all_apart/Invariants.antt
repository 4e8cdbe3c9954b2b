use Rattle.std.proofs.Common.{◌≡◌, drop}
use Rattle.std.specs.Prelude.{string_bytes}
use Rattle.status_texts.specs.Peers.{with_apart}
use Rattle.status_texts.proofs.peers.push_all_apart.Given as goal

-- with the lines that are left, all are there
abbrev pub invariant-loop-peer : goal.invariant-loop-peer
invariant-loop-peer l = with_apart (drop l.peer-index l.peers) (string_bytes l.text) ≡ with_apart l.peers (string_bytes l.fn.text)
