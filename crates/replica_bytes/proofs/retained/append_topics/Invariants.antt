use Rattle.std.proofs.Common.{◌≤◌}
use Rattle.std.specs.Prelude.{vec_capacity}
use Rattle.std.specs.List.{AllByRecursion}
use Rattle.std.specs.FinMap as map
use Rattle.replica_bytes.specs.Values.{topic_entry, IsOwn}
use Rattle.replica_bytes.proofs.Loops.{IsWritten}
use Rattle.replica_bytes.proofs.retained.append_topics.Given as goal

abbrev pub invariant-loop-topic : goal.invariant-loop-topic
invariant-loop-topic l = record {
  written : IsWritten topic_entry.bytes (map.entries l.retained) l.topic-iterator l.fn.out.items l.out.items;
  capacity : vec_capacity l.fn.out ≤ vec_capacity l.out;
  own : AllByRecursion IsOwn l.topic-iterator;
  fits : AllByRecursion topic_entry.Fits l.topic-iterator → AllByRecursion topic_entry.Fits (map.entries l.retained);
}
