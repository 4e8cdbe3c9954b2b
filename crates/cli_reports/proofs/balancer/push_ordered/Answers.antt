use Rattle.std.proofs.Common.{map, string_bytes}
use Rattle.cli_files.specs.Listed.{placed}
use Rattle.cli_reports.proofs.Lines.{ordered_more}
use Rattle.cli_reports.proofs.balancer.push_ordered.Goals as goal

pub loop-shorter-preserved : goal.loop-shorter-preserved
loop-shorter-preserved c =
    ordered_more c.args.homes.now (map placed c.args.listed.now) c.loop-shorter.shorter (string_bytes c.args.text.now) (string_bytes c.loop-shorter.text) (string_bytes c.push_homes.new.text)
    c.loop-shorter.invariant c.in_ok-push_homes.ensures
