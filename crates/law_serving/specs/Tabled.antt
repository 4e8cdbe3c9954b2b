-- By which table of homes a served node goes, to which newer ones may come.
use Rattle.std.specs.Prelude.{◌≡◌, ℕ, List, true, Some, length}
use Rattle.broker_sockets.specs.declared.bridge.Given.{Given}
use Rattle.broker_sockets.specs.declared.bridge.PeerEvent.{PeerEvent}
use Rattle.broker_sockets.specs.declared.events.Event.{Event}
use Rattle.broker_sockets.specs.declared.events.Output.{Output}
use Rattle.home_table.specs.Table.{Table}
use Rattle.node_keeper.specs.BatchViews.{node_in}
use Rattle.node_server.specs.declared.served.ServedNode.{ServedNode}
use Rattle.node_server.specs.Stack.{TabledNode}
use Rattle.node_server.specs.Views.{keeper_of}
use Rattle.node_work.specs.View.{HeldView, NodeView, nodes_of}
use Rattle.door_tables.specs.Calls.{AreCalled, AreFor, Call, Made, tables_in}
use Rattle.door_tables.specs.Laws.{AreMade, Rise, last_of}
use Rattle.door_tables.specs.Views.{inside_of as tabled_in}

-- a node that runs and has started: it goes by the table that it holds, which is for as many nodes as its cluster has
pub record HasStarted (n : NodeView) : Type 0 where
  pub held : HeldView
  pub up : n.up ≡ Some held
  pub started : held.started ≡ true
  pub homes : n.homes ≡ held.homes
  pub nodes : length held.homes.nodes ≡ nodes_of n.place

abbrev pub node_of : {R : Type 0} → ServedNode R → NodeView
node_of s = node_in (keeper_of s)

-- of the served node, and of it behind a door at which newer tables come
module _ {R F : Type 0} (handles : ServedNode R → Event → List Output → ServedNode R → Type 0) (hears : ServedNode R → PeerEvent → Given → ServedNode R → Type 0)
    (settles : ServedNode R → ServedNode R → Type 0) (goes_by : ServedNode R → Table) (takes : ServedNode R → ℕ → Table → List Output → ServedNode R → Type 0)
    (handles' : TabledNode R F → Event → List Output → TabledNode R F → Type 0) (hears' : TabledNode R F → PeerEvent → Given → TabledNode R F → Type 0)
    (settles' : TabledNode R F → TabledNode R F → Type 0) where
  -- whatever calls are made of it once it has started, the versions of the tables that it takes rise, and none is taken twice; it goes on by the one that it took last, or by the one of before where it took none
  abbrev pub ServedTablesRise : Type 0
  ServedTablesRise =
      (calls : List Call) (d d' : TabledNode R F) → HasStarted (node_of (tabled_in d)) → AreCalled handles' hears' settles' calls d d'
      → (made : List Made) × AreFor calls made × AreMade handles hears settles goes_by takes made (tabled_in d) (tabled_in d') × Rise (goes_by (tabled_in d)).version (tables_in made)
      × HasStarted (node_of (tabled_in d')) × (goes_by (tabled_in d') ≡ last_of (goes_by (tabled_in d)) (tables_in made))
