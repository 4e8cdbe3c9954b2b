use Rattle.replica_bytes.specs.Memory.{EntryWants}
use Rattle.replica_bytes.specs.Values.{dot_entry}
use Rattle.replica_bytes.proofs.Loops.{AreRead, HasBegun}
use Rattle.replica_bytes.proofs.subscriptions.entries_at.Given as goal

abbrev pub invariant-loop-i : goal.invariant-loop-i
invariant-loop-i l = record { read : AreRead dot_entry l.count l.fn.bytes l.i l.entries.items l.rest; began : HasBegun EntryWants l.i l.fn.bytes l.rest }
