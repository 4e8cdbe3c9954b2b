-- What is found where a database isn't opened, or its rows are no node's.
use Rattle.row_database.specs.declared.fault.OpenFault.{OpenFault}
use Rattle.row_database.specs.declared.fault.OpenFault.TheVariants as opening
use Rattle.cli_reports.specs.declared.flaw.Flaw.{Flaw}
use Rattle.cli_reports.specs.declared.flaw.Flaw.TheVariants as flaws
use Rattle.cli_stops.specs.declared.cause.Found.{Found}
use Rattle.cli_stops.specs.declared.cause.Found.TheVariants.{Locked, NoDatabase, Foreign, NoMark, OtherVersion, OtherNode, Unsound, Failed, NoMemory}

-- by a fault of opening, where this is what the system says of the path
abbrev pub found_of_open : OpenFault → Found → Found
found_of_open opening.NoMemory refused = NoMemory
found_of_open opening.Locked refused = Locked
found_of_open opening.Refused refused = refused
found_of_open opening.NoDatabase refused = NoDatabase
found_of_open opening.Foreign refused = Foreign
found_of_open opening.Device refused = Failed

-- of rows with a flaw
abbrev pub found_of_flaw : Flaw → Found
found_of_flaw flaws.NoMemory = NoMemory
found_of_flaw flaws.NoMark = NoMark
found_of_flaw (flaws.OtherVersion version) = OtherVersion version
found_of_flaw (flaws.OtherNode node) = OtherNode node
found_of_flaw flaws.Unsound = Unsound
