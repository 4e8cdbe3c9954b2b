use Rattle.std.proofs.Common.{arith, ap, ◌∙◌}
use Rattle.cli_files.specs.Flaws.{line_at}
use Rattle.cli_files.proofs.flaw.line_of.Goals as goal

pub returns-in-Some : goal.returns-in-Some
returns-in-Some c = (
  λ memory. let no = c.in-Some.ensures.none.1 memory in cc,
  record {
    place = c.in-Some.range.start;
    inside = omega (arith, c.in-Some.ensures.range.0, c.requires.0, c.requires.1);
    counted = c.line_at.ensures ∙ ap (λ t. line_at t c.in-Some.range.start) c.as_bytes.ensures.value;
  },
)
