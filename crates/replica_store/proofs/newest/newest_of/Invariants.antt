use Rattle.std.proofs.Common.{◌≡◌, max}
use Rattle.replica_store.specs.Newest.{newest_in, newest_of}
use Rattle.replica_store.proofs.newest.newest_of.Given as goal

abbrev pub invariant-loop-dot : goal.invariant-loop-dot
invariant-loop-dot l = max l.newest (newest_in l.id l.dot-iterator) ≡ newest_of l.id l.store
