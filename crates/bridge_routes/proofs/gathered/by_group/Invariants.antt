use Rattle.std.proofs.Common.{take}
use Rattle.std.specs.BTreeMap.{IsOrdered}
use Rattle.bridge_routes.specs.Gathered.{group_of, group_cmp}
use Rattle.bridge_routes.specs.Tables.{referents, shown}
use Rattle.bridge_routes.proofs.Gathering.{Holds}
use Rattle.bridge_routes.proofs.gathered.by_group.Given as goal

abbrev pub invariant-loop-entry : goal.invariant-loop-entry
invariant-loop-entry l = record {
  holds : Holds group_cmp group_of (referents (take l.entry-index l.entries)) (shown l.table.entries);
  ordered : IsOrdered group_cmp l.table;
}
