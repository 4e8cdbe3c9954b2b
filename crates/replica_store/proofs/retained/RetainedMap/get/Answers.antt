use Rattle.replica_store.proofs.Keeping.{alive_own}
use Rattle.replica_store.proofs.retained.RetainedMap.get.Goals as goal

pub returns-in-Some-clause-topic : goal.returns-in-Some-clause-topic
returns-in-Some-clause-topic c = alive_own c.alive.result c.self.inside.topics c.args.topic.now c.in-Some.kept.now c.args.now c.self.invariant.0 c.in-Some.ensures c.alive.ensures
