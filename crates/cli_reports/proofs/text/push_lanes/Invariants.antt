use Rattle.std.proofs.Common.{◌≡◌, ◌++◌, drop}
use Rattle.std.specs.Prelude.{string_bytes}
use Rattle.cli_reports.specs.Report.{lane_line, lines_from}
use Rattle.cli_reports.proofs.text.push_lanes.Given as goal

-- with the lines that are left, all are there
abbrev pub invariant-loop-node : goal.invariant-loop-node
invariant-loop-node l =
    string_bytes l.text ++ lines_from (lane_line l.id) l.node (drop l.node l.waiting) ≡ string_bytes l.fn.text ++ lines_from (lane_line l.id) 0 l.waiting
