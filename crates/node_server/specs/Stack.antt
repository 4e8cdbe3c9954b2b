-- A served node behind its handlers: newer tables of homes, users, limits on what clients send, limits on clients, a log, and counts.
use Rattle.door_bounds.specs.Views.{inside_of as bounded_in}
use Rattle.door_bounds.specs.declared.bounded.Bounded.{Bounded}
use Rattle.door_bounds.specs.declared.fault.BoundedFault.{BoundedFault}
use Rattle.door_guard.specs.Views.{inside_of as guarded_in}
use Rattle.door_guard.specs.declared.fault.GuardFault.{GuardFault}
use Rattle.door_guard.specs.declared.guarded.Guarded.{Guarded}
use Rattle.door_limits.specs.Views.{inside_of as limited_in}
use Rattle.door_limits.specs.declared.fault.LimitedFault.{LimitedFault}
use Rattle.door_limits.specs.declared.limited.Limited.{Limited}
use Rattle.door_log.specs.declared.fault.LoggedFault.{LoggedFault}
use Rattle.door_log.specs.declared.logged.Logged.{Logged}
use Rattle.door_mqtt3.specs.declared.fault.Mqtt3Fault.{Mqtt3Fault}
use Rattle.node_keeper.specs.declared.fault.KeeperFault.{KeeperFault}
use Rattle.node_server.specs.declared.served.ServedNode.{ServedNode}
use Rattle.status_tally.specs.declared.tallied.Tallied.{Tallied}
use Rattle.door_tables.specs.Views.{inside_of as tabled_in}
use Rattle.door_tables.specs.declared.door.Tabled.{Tabled}
use Rattle.door_users.specs.declared.file_access.FileAccess.{FileAccess}

abbrev pub TabledNode : Type 0 → Type 0 → Type 0
TabledNode R F = Tabled (ServedNode R) F

abbrev pub GuardedNode : Type 0 → Type 0 → Type 0
GuardedNode R F = Guarded (TabledNode R F) FileAccess

abbrev pub BoundedNode : Type 0 → Type 0 → Type 0 → Type 0
BoundedNode R F G = Bounded (GuardedNode R F) G

abbrev pub LimitedNode : Type 0 → Type 0 → Type 0 → Type 0
LimitedNode R F G = Limited (BoundedNode R F G)

abbrev pub LoggedNode : Type 0 → Type 0 → Type 0 → Type 0 → Type 0
LoggedNode R F G E = Logged (LimitedNode R F G) E

abbrev pub TalliedNode : Type 0 → Type 0 → Type 0 → Type 0 → Type 0
TalliedNode R F G E = Tallied (LoggedNode R F G E)

-- the served node behind limits, behind users, and behind a door for tables
abbrev pub node_behind : {R F G : Type 0} → LimitedNode R F G → ServedNode R
node_behind d = tabled_in (guarded_in (bounded_in (limited_in d)))

-- ---- why it stops

abbrev pub GuardedNodeFault : Type 0
GuardedNodeFault = GuardFault KeeperFault

abbrev pub BoundedNodeFault : Type 0
BoundedNodeFault = BoundedFault GuardedNodeFault

abbrev pub LimitedNodeFault : Type 0
LimitedNodeFault = LimitedFault BoundedNodeFault

abbrev pub LoggedNodeFault : Type 0
LoggedNodeFault = LoggedFault LimitedNodeFault

abbrev pub NodeFault : Type 0
NodeFault = Mqtt3Fault LoggedNodeFault
