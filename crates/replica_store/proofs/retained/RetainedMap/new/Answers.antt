use Rattle.replica_store.proofs.Keeping.{empty_kept}
use Rattle.replica_store.proofs.retained.RetainedMap.new.Goals as goal

pub invariant_of-result : goal.invariant_of-result
invariant_of-result c = empty_kept c.new.result c.new.ensures
