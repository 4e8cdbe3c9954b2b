use Rattle.std.specs.FinMap as map
use Rattle.node_rows.proofs.Kept.{AreAlike, IsKeptBelow}
use Rattle.node_rows.proofs.among.stamps_among.Given as goal

abbrev pub invariant-loop-kept : goal.invariant-loop-kept
invariant-loop-kept l = AreAlike (IsKeptBelow l.nodes) l.kept-iterator (map.entries l.retained)
