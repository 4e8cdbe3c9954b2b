use Rattle.std.proofs.Common.{◌≡◌, ◌∷◌, [], None, map as map_list, take}
use Rattle.std.specs.FinMap.Entries.{find}
use Rattle.row_store.specs.Rows.{entry_of, key_cmp}
use Rattle.node_rows.proofs.versions.value_at.Given as goal

abbrev pub invariant-loop-row : goal.invariant-loop-row
invariant-loop-row l = find key_cmp (6, ([], l.place ∷ [])) (map_list entry_of (take l.row-index l.rows)) ≡ None
