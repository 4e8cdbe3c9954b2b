use Rattle.std.proofs.Common.{◌≡◌, drop}
use Rattle.row_journal.specs.Repeats.{number_on}
use Rattle.row_journal.proofs.repeats.turned_by.Given as goal

abbrev pub invariant-loop-byte : goal.invariant-loop-byte
invariant-loop-byte l = number_on l.now (drop l.byte-index l.bytes) ≡ number_on l.number l.bytes
