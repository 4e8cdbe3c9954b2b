use Rattle.std.proofs.Common.{◌∙◌, sym}
use Rattle.cli_files.specs.Listed.{placed}
use Rattle.cli_reports.specs.Balancer.{is_rest}
use Rattle.cli_reports.proofs.Lines.{any-map}
use Rattle.cli_reports.proofs.balancer.has_rest.Goals as goal

pub returns : goal.returns
returns c = c.has_empty.ensures ∙ sym (any-map placed is_rest c.args.listed.now)
