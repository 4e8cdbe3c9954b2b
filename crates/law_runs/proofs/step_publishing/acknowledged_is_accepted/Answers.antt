use Rattle.law_runs.proofs.Acks.{puback_tells, pubrec_tells}
use Rattle.law_runs.proofs.step_publishing.acknowledged_is_accepted.Goals as goal

pub returns-clause-once : goal.returns-clause-once
returns-clause-once c = puback_tells

pub returns-clause-twice : goal.returns-clause-twice
returns-clause-twice c = pubrec_tells
