-- How the reasons why a step isn't played are named in text.
use Rattle.std.specs.Prelude.{ℕ, List, codes}
use Rattle.cluster_play.specs.declared.fault.PlayFault.{PlayFault}
use Rattle.cluster_play.specs.declared.fault.PlayFault.TheVariants.{BadTables, UnknownNode, UnknownFrame, NoMemory, Spent}

abbrev pub play_fault_name : PlayFault → List ℕ
play_fault_name BadTables = codes "BadTables"
play_fault_name UnknownNode = codes "UnknownNode"
play_fault_name UnknownFrame = codes "UnknownFrame"
play_fault_name NoMemory = codes "NoMemory"
play_fault_name Spent = codes "Spent"
