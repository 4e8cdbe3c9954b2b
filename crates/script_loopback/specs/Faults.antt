-- What ends a run.
use Rattle.cli_stops.specs.declared.run_fault.RunFault.{RunFault}
use Rattle.cli_stops.specs.declared.run_fault.RunFault.TheVariants as runs
use Rattle.script_loopback.specs.declared.fault.WireFault.{WireFault}
use Rattle.script_loopback.specs.declared.fault.WireFault.TheVariants as wires

-- bytes that don't pass
abbrev pub wired : WireFault → RunFault
wired wires.NoMemory = runs.NoMemory
wired wires.Socket = runs.Socket
wired wires.Turns = runs.Turns
