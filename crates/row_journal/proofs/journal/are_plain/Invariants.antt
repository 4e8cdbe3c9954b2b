use Rattle.std.proofs.Common.{map, drop}
use Rattle.row_store.specs.Noted.{pair_of}
use Rattle.row_journal.specs.Journal.{AreOthers}
use Rattle.row_journal.proofs.journal.are_plain.Given as goal

abbrev pub invariant-loop-change : goal.invariant-loop-change
invariant-loop-change l = record {
  all : AreOthers (map pair_of (drop l.change-index l.changes)) → AreOthers (map pair_of l.changes);
  rest : AreOthers (map pair_of l.changes) → AreOthers (map pair_of (drop l.change-index l.changes));
}
