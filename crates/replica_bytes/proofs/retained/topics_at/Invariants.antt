use Rattle.std.specs.List.{All}
use Rattle.replica_bytes.specs.Memory.{HasText}
use Rattle.replica_bytes.specs.Values.{topic_entry, IsOwn}
use Rattle.replica_bytes.proofs.Loops.{AreRead, HasBegun}
use Rattle.replica_bytes.proofs.retained.topics_at.Given as goal

abbrev pub invariant-loop-i : goal.invariant-loop-i
invariant-loop-i l = record { read : AreRead topic_entry l.count l.fn.bytes l.i l.entries.items l.rest; began : HasBegun HasText l.i l.fn.bytes l.rest; own : All IsOwn l.entries.items }
