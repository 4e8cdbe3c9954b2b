use Rattle.std.proofs.Common.{◌≡◌, ◌++◌, drop, map}
use Rattle.std.specs.Prelude.{string_bytes}
use Rattle.std.specs.List.{filter}
use Rattle.cli_files.specs.Listed.{placed}
use Rattle.cli_reports.specs.Balancer.{has_length, home_line, lines_of}
use Rattle.cli_reports.proofs.balancer.push_homes.Given as goal

-- with the homes that are left, all are there
abbrev pub invariant-loop-home : goal.invariant-loop-home
invariant-loop-home l =
    string_bytes l.text ++ lines_of (home_line l.homes) (filter (has_length l.bytes) (map placed (drop l.home-index l.listed)))
    ≡ string_bytes l.fn.text ++ lines_of (home_line l.homes) (filter (has_length l.bytes) (map placed l.listed))
