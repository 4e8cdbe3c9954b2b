use Rattle.std.proofs.Common.{◌≡◌, ◌++◌}
use Rattle.std.specs.Prelude.{string_bytes}
use Rattle.cli_reports.specs.Balancer.{server_line, lines_below}
use Rattle.cli_reports.proofs.balancer.push_servers.Given as goal

-- the lines so far
abbrev pub invariant-loop-number : goal.invariant-loop-number
invariant-loop-number l = string_bytes l.text ≡ string_bytes l.fn.text ++ lines_below (server_line l.homes) l.number
