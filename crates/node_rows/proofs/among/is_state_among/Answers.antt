use Rattle.node_rows.specs.Naming.{state_among}
use Rattle.node_rows.proofs.Naming.{state_tested, tests_agree}
use Rattle.node_rows.proofs.among.is_state_among.Goals as goal

pub returns : goal.returns
returns c = tests_agree c.is_among.result (state_among c.args.nodes c.args.store.now) c.is_among.ensures (state_tested c.args.nodes c.args.store.now)
