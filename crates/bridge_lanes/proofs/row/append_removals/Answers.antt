use Rattle.std.proofs.Common.{◌<◌, arith}
use Rattle.bridge_lanes.specs.Changes.{left_of}
use Rattle.bridge_lanes.proofs.Lists.{next_removal, one_pushed, still_begins}
use Rattle.bridge_lanes.proofs.row.append_removals.Goals as goal

pub loop-i-preserved : goal.loop-i-preserved
loop-i-preserved c = record {
  items = one_pushed left_of c.loop-i.out.items c.push.new.self.items c.in_ok-change.change _ _ _ _ c.in_ok-push.ensures.items c.in_ok-change.ensures (next_removal c.args.peer c.args.base c.loop-i.i c.args.count c.loop-i-test.true) c.loop-i.invariant.items;
  begins = still_begins c.args.out.now.items c.loop-i.out.items c.push.new.self.items _ c.loop-i.invariant.begins c.in_ok-push.ensures.items;
}
