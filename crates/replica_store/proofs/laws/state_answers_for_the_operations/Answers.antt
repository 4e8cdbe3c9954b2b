use Rattle.std.specs.FinMap as map
use Rattle.replica_store.proofs.Answered.{answer_is, one_answer}
use Rattle.replica_store.proofs.laws.state_answers_for_the_operations.Goals as goal

pub returns : goal.returns
returns c = record { answer = answer_is; one = λ to now s out other a b. one_answer to now (map.entries s.retained) out other a b }
