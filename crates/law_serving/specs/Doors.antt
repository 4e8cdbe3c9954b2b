-- A served node behind the handlers of the program, and what these make of the calls of the sockets until the node has them.
use Rattle.std.specs.Prelude.{List, [], ◌∷◌, map}
use Rattle.door_bounds.specs.Views.{door_of, inside_of as bounded_in}
use Rattle.door_guard.specs.Views.{inside_of as guarded_in}
use Rattle.door_limits.specs.Views.{connections_of, inside_of as limited_in, limits_of}
use Rattle.door_log.specs.Views.{inside_of as logged_in}
use Rattle.door_mqtt3.specs.Views.{clients_of, inside_of as translated_in}
use Rattle.door_mqtt3.specs.declared.handler.Mqtt3.{Mqtt3}
use Rattle.broker_turns.specs.Handling.Told.{Of_client, Of_peer}
use Rattle.law_doors.specs.Bounds.{Bounds_pass}
use Rattle.law_doors.specs.Calls.{ArePassed, Call, Settles, Tells}
use Rattle.law_doors.specs.Guards.{Guards_pass, door_of as users_of}
use Rattle.law_doors.specs.Levels.{Levels_pass}
use Rattle.law_doors.specs.Limits.{Limits_pass}
use Rattle.node_server.specs.Stack.{BoundedNode, GuardedNode, LimitedNode}
use Rattle.node_server.specs.declared.served.ServedNode.{ServedNode}
use Rattle.law_serving.specs.Sockets.{Door}
use Rattle.node_server.specs.Viewing.{inside_of as looked_at}
use Rattle.status_tally.specs.Views.{inside_of as counted_in}
use Rattle.door_tables.specs.Calls.{AreFor, Made}
use Rattle.door_tables.specs.Calls as tables
use Rattle.door_tables.specs.Views.{inside_of as tabled_in}
use Rattle.door_users.specs.Files.{rights_of}
use Rattle.law_serving.specs.Calls as turns

-- from the outside in: it translates for clients of MQTT 3.1.1 and 3.1, is looked at, counts, has a log, limits on clients, limits on what these send,
-- users, and newer tables of homes
abbrev pub Whole : Type 0 → Type 0 → Type 0 → Type 0 → Type 0 → Type 0
Whole R F G E W = Mqtt3 (Door R F G E W)

module _ {R F G E W : Type 0} where
  abbrev pub limits_in : Whole R F G E W → LimitedNode R F G
  limits_in d = logged_in (counted_in (looked_at (translated_in d)))

  abbrev pub bounds_in : Whole R F G E W → BoundedNode R F G
  bounds_in d = limited_in (limits_in d)

  abbrev pub guards_in : Whole R F G E W → GuardedNode R F
  guards_in d = bounded_in (bounds_in d)

  abbrev pub node_in : Whole R F G E W → ServedNode R
  node_in d = tabled_in (guarded_in (guards_in d))

-- ---- the calls of the sockets

-- what the hub tells its handler, and that this settles
abbrev pub calls_of : {T : Type 0} → turns.Call T → List Call
calls_of (turns.Tells told) = Tells told ∷ []
calls_of turns.Settles = Settles ∷ []
calls_of _ = []

-- as calls of the door for tables
abbrev pub as_table_call : Call → tables.Call
as_table_call (Tells (Of_client e outputs)) = tables.Handled e outputs
as_table_call (Tells (Of_peer e given)) = tables.Heard e given
as_table_call Settles = tables.Settled

-- From calls of the whole to those of the node, through one handler after another: packets of MQTT 5.0 in place of those of 3.1.1 and 3.1; of clients that
-- find room, and the ends of those that were late; bytes that break no limit; of users alone, the packets that each may send; tables in place of ticks. A log,
-- counts and whoever looks change none.
pub record ArePassedDown {R F G E W : Type 0} (d d' : Whole R F G E W) (hub : List Call) (node : List Made) : Type 0 where
  pub translated : List Call
  pub levels : ArePassed Levels_pass (clients_of d) hub translated (clients_of d')
  pub let_in : List Call
  pub limits : ArePassed (Limits_pass (limits_of (limits_in d))) (connections_of (limits_in d)) translated let_in (connections_of (limits_in d'))
  pub within : List Call
  pub bounds : ArePassed Bounds_pass (door_of (bounds_in d)) let_in within (door_of (bounds_in d'))
  pub of_users : List Call
  pub guards : ArePassed (Guards_pass rights_of) (users_of (guards_in d)) within of_users (users_of (guards_in d'))
  pub tables : AreFor (map as_table_call of_users) node
