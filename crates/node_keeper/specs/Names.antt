-- How faults are named in text.
use Rattle.std.specs.Prelude.{ℕ, List, codes}
use Rattle.node_keeper.specs.declared.fault.KeeperFault.{KeeperFault}
use Rattle.node_keeper.specs.declared.fault.KeeperFault.TheVariants.{NoMemory, Rows, NumbersAtEnd, Stopped}
use Rattle.node_work.specs.declared.fault.NodeFault.{NodeFault}
use Rattle.node_work.specs.declared.fault.NodeFault.TheVariants as node_faults

abbrev pub keeper_fault_name : KeeperFault → List ℕ
keeper_fault_name NoMemory = codes "NoMemory"
keeper_fault_name (Rows fault) = codes "Rows"
keeper_fault_name NumbersAtEnd = codes "NumbersAtEnd"
keeper_fault_name Stopped = codes "Stopped"

-- a fault of the node's own step
abbrev pub keeper_fault : NodeFault → KeeperFault
keeper_fault node_faults.NoMemory = NoMemory
keeper_fault node_faults.NumbersAtEnd = NumbersAtEnd
keeper_fault node_faults.Stopped = Stopped
