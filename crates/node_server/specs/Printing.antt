-- What a run of a node prints.
use Rattle.std.specs.Prelude.{ℕ, List, [], ◌∷◌, ◌++◌, Option, Some, None, codes, slice_get}
use Rattle.std.specs.Fmt.{decimal}
use Rattle.home_table.specs.Table.{Table}
use Rattle.home_table.specs.declared.rows.NodeEntry.{NodeEntry}

-- the addresses at which a node has its clients and the other nodes, as the table gives them
abbrev pub ready_of : Option NodeEntry → List ℕ
ready_of None = []
ready_of (Some node) = codes "ready " ++ node.address ++ codes " " ++ node.bridge ++ 10 ∷ []

abbrev pub ready_line : Table → ℕ → List ℕ
ready_line homes id = ready_of (slice_get homes.nodes id)

-- so many turns were made
abbrev pub turns_line : ℕ → List ℕ
turns_line turns = codes "turns " ++ decimal turns ++ 10 ∷ []
