use Rattle.std.proofs.Common.{◌≡◌, ◌++◌, drop}
use Rattle.std.specs.Prelude.{string_bytes}
use Rattle.cli_reports.specs.Balancer.{escapes}
use Rattle.cli_reports.proofs.balancer.push_escapes.Given as goal

-- with the bytes that are left, all are there
abbrev pub invariant-loop-byte : goal.invariant-loop-byte
invariant-loop-byte l = string_bytes l.text ++ escapes (drop l.byte-index l.bytes) ≡ string_bytes l.fn.text ++ escapes l.bytes
