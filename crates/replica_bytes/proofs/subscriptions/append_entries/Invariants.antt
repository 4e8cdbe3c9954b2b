use Rattle.std.proofs.Common.{◌≤◌}
use Rattle.std.specs.Prelude.{vec_capacity}
use Rattle.std.specs.List.{AllByRecursion}
use Rattle.subscription_set.specs.Standing.{standing}
use Rattle.replica_bytes.specs.Values.{dot_entry}
use Rattle.replica_bytes.proofs.Loops.{IsWritten}
use Rattle.replica_bytes.proofs.subscriptions.append_entries.Given as goal

abbrev pub invariant-loop-dot : goal.invariant-loop-dot
invariant-loop-dot l = record {
  written : IsWritten dot_entry.bytes (standing l.set) l.dot-iterator l.fn.out.items l.out.items;
  capacity : vec_capacity l.fn.out ≤ vec_capacity l.out;
  fits : AllByRecursion dot_entry.Fits l.dot-iterator → AllByRecursion dot_entry.Fits (standing l.set);
}
