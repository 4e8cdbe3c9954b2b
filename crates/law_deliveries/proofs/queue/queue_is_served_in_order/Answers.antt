use Rattle.law_deliveries.proofs.FlyLaws.{keeps_queue_told}
use Rattle.law_deliveries.proofs.QueueLaws.{keeps_queue}
use Rattle.law_deliveries.proofs.queue.queue_is_served_in_order.Goals as goal

pub returns-clause-told : goal.returns-clause-told
returns-clause-told c = keeps_queue_told

pub returns-clause-held : goal.returns-clause-held
returns-clause-held c = keeps_queue
