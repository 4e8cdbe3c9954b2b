use Rattle.std.proofs.Common.{◌≡◌, ◌++◌, map}
use Rattle.std.specs.Prelude.{string_bytes}
use Rattle.cli_files.specs.Listed.{placed}
use Rattle.cli_reports.specs.Balancer.{home_line, lines_of, ordered_for}
use Rattle.cli_reports.proofs.balancer.push_ordered.Given as goal

-- the homes with the longest prefixes so far
abbrev pub invariant-loop-shorter : goal.invariant-loop-shorter
invariant-loop-shorter l = string_bytes l.text ≡ string_bytes l.fn.text ++ lines_of (home_line l.homes) (ordered_for l.shorter (map placed l.listed))
