use Rattle.replica_rows.proofs.Empty.{below_nothing, puts_lead}
use Rattle.replica_rows.proofs.changes.puts_of.Goals as goal

pub returns-clause-lead : goal.returns-clause-lead
returns-clause-lead c = puts_lead c.new-none.result c.args.store.now c.changes_by.result c.new-none.ensures c.changes_by.ensures.lead

pub returns-clause-none : goal.returns-clause-none
returns-clause-none c = λ none. c.changes_by.ensures.below (below_nothing c.args.store.now c.new-none.result c.new-none.ensures none)
