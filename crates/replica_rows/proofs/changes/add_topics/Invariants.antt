use Rattle.replica_rows.proofs.Gathered.{IsKeeping}
use Rattle.replica_rows.proofs.changes.add_topics.Given as goal

abbrev pub invariant-loop-topic : goal.invariant-loop-topic
invariant-loop-topic l = IsKeeping l.store l.delta l.topic-iterator l.fn.out.items l.out.items
