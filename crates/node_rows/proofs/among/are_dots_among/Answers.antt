use Rattle.node_rows.specs.Naming.{dots_among as test}
use Rattle.node_rows.proofs.Naming.{dots_tested, tests_agree}
use Rattle.node_rows.proofs.among.are_dots_among.Goals as goal

pub returns : goal.returns
returns c = tests_agree c.dots_among.result (test c.args.nodes c.args.dots.now) c.dots_among.ensures (dots_tested c.args.nodes c.args.dots.now)
