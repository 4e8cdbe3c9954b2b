use Rattle.replica_store.proofs.Trees.{none_there}
use Rattle.replica_store.proofs.topics.Topics.new.Goals as goal

pub returns : goal.returns
returns c = none_there c.new.result.entries c.new.ensures.empty
