use Rattle.std.proofs.Common.{◌≡◌, ◌++◌, drop}
use Rattle.std.specs.Prelude.{string_bytes}
use Rattle.cli_reports.specs.Report.{lines_from, taken_line}
use Rattle.cli_reports.proofs.text.push_taken.Given as goal

-- with the lines that are left, all are there
abbrev pub invariant-loop-node : goal.invariant-loop-node
invariant-loop-node l = string_bytes l.text ++ lines_from taken_line l.node (drop l.node l.taken) ≡ string_bytes l.fn.text ++ lines_from taken_line 0 l.taken
