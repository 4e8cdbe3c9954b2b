-- The homes of a table, one after another.
use Rattle.std.specs.Prelude.{◌≡◌, ℕ, List, Option, codes, option_map, unwrap_or}
use Rattle.std.specs.FinMap as finite
use Rattle.toml.specs.Data.{Data, as_str, as_table, get_member}
use Rattle.home_table.specs.Document.{◌>>=◌}
use Rattle.home_table.specs.Table.{Table, number_of}
use Rattle.cli_files.specs.declared.homes.Home.{Home}

-- a prefix with the number of its node
abbrev pub placed : Home → List ℕ × ℕ
placed home = (home.prefix.bytes.items, home.node)

-- the prefix and the name of its node that a value has
abbrev pub home_in : Data → Option (List ℕ × List ℕ)
home_in value =
    as_table value >>= (λ row. (get_member (codes "prefix") row >>= as_str)
    >>= (λ prefix. option_map (λ node. (prefix, node)) (get_member (codes "node") row >>= as_str)))

-- the prefix, and the number that the node has in a table
abbrev pub listed_in : Table → Data → Option (List ℕ × ℕ)
listed_in t value = option_map (λ home. (home.0, unwrap_or (number_of t.nodes home.1) 0)) (home_in value)

-- these and no others are the homes of a table
abbrev pub AreHomes : Table → List (List ℕ × ℕ) → Type 0
AreHomes t homes = finite.from_entries homes ≡ t.homes
