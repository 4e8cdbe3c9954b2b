-- A configuration: the text of a table of homes, and the name of the node that is to run.
use Rattle.std.specs.Prelude.{ℕ, List, option_map, ok_or, Result, Ok, Err}
use Rattle.home_table.specs.Table.{Table, number_of, reading}
use Rattle.home_table.specs.declared.fault.TableFault.{TableFault}
use Rattle.home_table.specs.declared.fault.TableFault.TheVariants.{UnknownNode}

-- a table with the number of its node of a name
abbrev pub node_in : List ℕ → Result Table TableFault → Result (Table × ℕ) TableFault
node_in name (Ok table) = ok_or (option_map (λ number. (table, number)) (number_of table.nodes name)) UnknownNode
node_in name (Err fault) = Err fault

-- the table that a text is, with the number of its node of a name, or the first fault: one of the text comes before one of the name
abbrev pub configuration : List ℕ → List ℕ → Result (Table × ℕ) TableFault
configuration text name = node_in name (reading text)
