-- How the program ends before its end: its exit status, and the text that it leaves.
use Rattle.std.specs.Prelude.{ℕ, Bool, true, false, List, ◌++◌, codes}
use Rattle.home_table.specs.declared.fault.TableFault.{TableFault}
use Rattle.home_table.specs.declared.fault.TableFault.TheVariants as tables
use Rattle.broker_script.specs.declared.fault.ScriptFault.{ScriptFault}
use Rattle.broker_script.specs.declared.fault.ScriptFault.TheVariants as scripts
use Rattle.broker_script.specs.Fault.{fault_text}
use Rattle.cli_stops.specs.declared.run_fault.RunFault.{RunFault}
use Rattle.cli_stops.specs.declared.run_fault.RunFault.TheVariants as runs
use Rattle.cli_stops.specs.declared.stop.Stop.{Stop}
use Rattle.cli_stops.specs.declared.stop.Stop.TheVariants.{Help, CommandLine, Script, Configuration, Run}

-- the name of a fault of a run
abbrev pub run_name : RunFault → List ℕ
run_name runs.NoMemory = codes "NoMemory"
run_name runs.BadTables = codes "BadTables"
run_name runs.UnknownNode = codes "UnknownNode"
run_name runs.UnknownFrame = codes "UnknownFrame"
run_name runs.Spent = codes "Spent"
run_name runs.Rows = codes "Rows"
run_name (runs.OlderTable version) = codes "OlderTable"
run_name runs.NumbersAtEnd = codes "NumbersAtEnd"
run_name runs.Stopped = codes "Stopped"
run_name runs.Turns = codes "Turns"
run_name runs.Socket = codes "Socket"
run_name runs.Output = codes "Output"

-- the name of a fault of a configuration
abbrev pub table_name : TableFault → List ℕ
table_name tables.Syntax = codes "Syntax"
table_name tables.NoNodes = codes "NoNodes"
table_name tables.TwiceNamed = codes "TwiceNamed"
table_name tables.UnknownNode = codes "UnknownNode"
table_name tables.NoMemory = codes "NoMemory"

-- what a fault of the tables that a script's lines make is in its run
abbrev pub tables_fault : TableFault → RunFault
tables_fault tables.NoMemory = runs.NoMemory
tables_fault _ = runs.BadTables

abbrev pub script_status : ScriptFault → ℕ
script_status scripts.NoMemory = 1
script_status _ = 3

-- the exit status
abbrev pub status_of : Stop → ℕ
status_of (Help text) = 0
status_of (Run fault) = 1
status_of (CommandLine text) = 2
status_of (Script fault) = script_status fault
status_of (Configuration fault) = 3

-- the text, without the newline that ends it
abbrev pub stop_text : Stop → List ℕ
stop_text (Help text) = text.bytes.items
stop_text (CommandLine text) = text.bytes.items
stop_text (Script fault) = fault_text fault
stop_text (Configuration fault) = codes "broker: configuration: " ++ table_name fault
stop_text (Run fault) = codes "broker: run: " ++ run_name fault

-- whether the text goes to the standard output
abbrev pub is_help : Stop → Bool
is_help (Help text) = true
is_help _ = false
