-- What ends the program where a file or rows can't be had: want of memory by its own name, and all else as what was asked for.
use Rattle.broker_script.specs.declared.fault.ScriptFault.{ScriptFault}
use Rattle.broker_script.specs.declared.fault.ScriptFault.TheVariants as scripts
use Rattle.cli_stops.specs.declared.run_fault.RunFault.{RunFault}
use Rattle.cli_stops.specs.declared.run_fault.RunFault.TheVariants as runs
use Rattle.home_table.specs.declared.fault.TableFault.{TableFault}
use Rattle.home_table.specs.declared.fault.TableFault.TheVariants as tables
use Rattle.cli_stops.specs.declared.answer.Answer.{Answer}
use Rattle.cli_stops.specs.declared.answer.Answer.TheVariants as answers
use Rattle.cli_stops.specs.declared.cause.Found.{Found}
use Rattle.cli_stops.specs.declared.cause.Found.TheVariants as founds

abbrev pub script_fault : Answer → ScriptFault
script_fault answers.NoMemory = scripts.NoMemory
script_fault _ = scripts.NotText

abbrev pub table_fault : Answer → TableFault
table_fault answers.NoMemory = tables.NoMemory
table_fault _ = tables.Syntax

abbrev pub rows_fault : Found → RunFault
rows_fault founds.NoMemory = runs.NoMemory
rows_fault (founds.Answered answers.NoMemory) = runs.NoMemory
rows_fault _ = runs.Rows
