use Rattle.std.specs.Vec.Iter.{into_iter_items}
use Rattle.node_work.specs.Doings.{GivesFrame}
use Rattle.node_work.specs.Working.{Each}
use Rattle.node_work.proofs.Working.{Reaches}
use Rattle.broker_node.specs.Bridge.{ShipsLater}
use Rattle.broker_node.proofs.Shipping.{AreOwn}
use Rattle.broker_node.proofs.bridge.ship_later.Given as goal

abbrev pub invariant-loop-frame : goal.invariant-loop-frame
invariant-loop-frame l = Reaches l.fn.work (ShipsLater l.fn.peer l.fn.after) l.work (Each GivesFrame (into_iter_items l.frame-iterator)) × AreOwn l.work.place l.work.held (into_iter_items l.frame-iterator)
