use Rattle.std.proofs.Common.{◌≡◌, ◌++◌}
use Rattle.std.specs.Prelude.{string_bytes}
use Rattle.cli_reports.specs.Balancer.{lines_below, sum_line}
use Rattle.cli_reports.proofs.balancer.push_bytes.Given as goal

-- the lines so far
abbrev pub invariant-loop-place : goal.invariant-loop-place
invariant-loop-place l = string_bytes l.text ≡ string_bytes l.fn.text ++ lines_below sum_line l.place
