use Rattle.std.proofs.Common.{◌≡◌, drop}
use Rattle.std.specs.Prelude.{string_bytes}
use Rattle.status_texts.specs.Metrics.{with_samples}
use Rattle.status_texts.proofs.metrics.push_samples.Given as goal

-- with the values that are left, all are there
abbrev pub invariant-loop-peer : goal.invariant-loop-peer
invariant-loop-peer l =
    with_samples l.name l.counted (drop l.peer-index l.peers) (string_bytes l.text) ≡ with_samples l.name l.counted l.peers (string_bytes l.fn.text)
