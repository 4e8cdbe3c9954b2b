use Rattle.law_deliveries.proofs.QueueLaws.{keeps_full, keeps_bound}
use Rattle.law_deliveries.proofs.queue.queue_is_full_at_its_limit.Goals as goal

pub returns-clause-full : goal.returns-clause-full
returns-clause-full c = keeps_full

pub returns-clause-bound : goal.returns-clause-bound
returns-clause-bound c = keeps_bound
