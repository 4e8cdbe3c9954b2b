use Rattle.law_runs.proofs.PublishingLaws.{puback_stays_true, pubrec_stays_true}
use Rattle.law_runs.proofs.publishing.acknowledged_stays_true.Goals as goal

pub returns-clause-once : goal.returns-clause-once
returns-clause-once c = puback_stays_true

pub returns-clause-twice : goal.returns-clause-twice
returns-clause-twice c = pubrec_stays_true
