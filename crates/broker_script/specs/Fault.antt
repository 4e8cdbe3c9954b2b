-- The text of a script's fault.
use Rattle.std.specs.Prelude.{ℕ, List, ◌++◌, codes}
use Rattle.std.specs.Fmt.{decimal}
use Rattle.broker_script.specs.declared.fault.ScriptFault.{ScriptFault}
use Rattle.broker_script.specs.declared.fault.ScriptFault.TheVariants.{NotText, Line, NoMemory}

-- what a fault is reported as
abbrev pub fault_text : ScriptFault → List ℕ
fault_text NotText = codes "broker: script"
fault_text (Line number) = codes "broker: script line " ++ decimal number
fault_text NoMemory = codes "broker: run: NoMemory"
