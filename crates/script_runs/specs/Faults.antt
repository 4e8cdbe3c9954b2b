-- What ends a run.
use Rattle.cli_stops.specs.declared.run_fault.RunFault.{RunFault}
use Rattle.cli_stops.specs.declared.run_fault.RunFault.TheVariants as runs
use Rattle.cluster_play.specs.declared.fault.PlayFault.{PlayFault}
use Rattle.cluster_play.specs.declared.fault.PlayFault.TheVariants as plays

-- a step that is refused
abbrev pub played : PlayFault → RunFault
played plays.BadTables = runs.BadTables
played plays.UnknownNode = runs.UnknownNode
played plays.UnknownFrame = runs.UnknownFrame
played plays.NoMemory = runs.NoMemory
played plays.Spent = runs.Spent
