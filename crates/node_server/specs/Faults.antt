-- Why a run of a node ends before its end.
use Rattle.cli_stops.specs.declared.run_fault.RunFault.{RunFault}
use Rattle.cli_stops.specs.declared.run_fault.RunFault.TheVariants as runs
use Rattle.broker_turns.specs.declared.turn.TurnFault.{TurnFault}
use Rattle.broker_turns.specs.declared.turn.TurnFault.TheVariants as turns
use Rattle.door_bounds.specs.declared.fault.BoundedFault.TheVariants as bounds
use Rattle.door_guard.specs.declared.fault.GuardFault.TheVariants as guards
use Rattle.door_limits.specs.declared.fault.LimitedFault.TheVariants as limits
use Rattle.door_log.specs.declared.fault.LoggedFault.TheVariants as logs
use Rattle.door_mqtt3.specs.declared.fault.Mqtt3Fault.TheVariants as wraps
use Rattle.node_keeper.specs.declared.fault.KeeperFault.{KeeperFault}
use Rattle.node_keeper.specs.declared.fault.KeeperFault.TheVariants as keepers
use Rattle.node_server.specs.Stack.{BoundedNodeFault, GuardedNodeFault, LimitedNodeFault, LoggedNodeFault, NodeFault}

-- a fault of the node
abbrev pub of_node : KeeperFault → RunFault
of_node keepers.NoMemory = runs.NoMemory
of_node (keepers.Rows fault) = runs.Rows
of_node keepers.NumbersAtEnd = runs.NumbersAtEnd
of_node keepers.Stopped = runs.Stopped

-- a fault of the node behind users
abbrev pub of_guarded : GuardedNodeFault → RunFault
of_guarded guards.NoMemory = runs.NoMemory
of_guarded (guards.Inside fault) = of_node fault

-- a fault of the node behind limits on what clients send
abbrev pub of_bounded : BoundedNodeFault → RunFault
of_bounded bounds.NoMemory = runs.NoMemory
of_bounded (bounds.Inside fault) = of_guarded fault

-- a fault of the node behind limits on clients
abbrev pub of_limited : LimitedNodeFault → RunFault
of_limited limits.NoMemory = runs.NoMemory
of_limited (limits.Inside fault) = of_bounded fault

-- a fault of the node behind its log
abbrev pub of_logged : LoggedNodeFault → RunFault
of_logged logs.NoMemory = runs.NoMemory
of_logged (logs.Inside fault) = of_limited fault

-- a fault of the node behind all handlers
abbrev pub of_mqtt3 : NodeFault → RunFault
of_mqtt3 wraps.NoMemory = runs.NoMemory
of_mqtt3 (wraps.Inside fault) = of_logged fault

-- a fault of a turn
abbrev pub of_turn : TurnFault NodeFault → RunFault
of_turn turns.NoMemory = runs.NoMemory
of_turn (turns.Handler fault) = of_mqtt3 fault
