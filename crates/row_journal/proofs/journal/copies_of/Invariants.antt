use Rattle.std.proofs.Common.{◌≡◌, map, take}
use Rattle.row_store.specs.Noted.{pair_of}
use Rattle.row_journal.proofs.journal.copies_of.Given as goal

abbrev pub invariant-loop-change : goal.invariant-loop-change
invariant-loop-change l = map pair_of l.copies.items ≡ map pair_of (take l.change-index l.changes)
