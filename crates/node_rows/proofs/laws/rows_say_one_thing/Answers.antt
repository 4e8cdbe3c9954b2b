use Rattle.node_rows.proofs.OneNode.{rows_tell_all, say_one_thing}
use Rattle.node_rows.proofs.laws.rows_say_one_thing.Goals as goal

pub returns-clause-rows : goal.returns-clause-rows
returns-clause-rows c = say_one_thing

pub returns-clause-nodes : goal.returns-clause-nodes
returns-clause-nodes c = rows_tell_all
